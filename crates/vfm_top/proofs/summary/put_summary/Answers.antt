-- The lines, one after another.
use Rattle.std.proofs.Common.{[], ◌∷◌, ◌++◌, decimal}
use Rattle.std.specs.Prelude.{codes}
use Rattle.std.proofs.lemmas.Result.{err_from_is_err_and, MatchResult-weaker}
use Rattle.hex.specs.Hex.{encode_lower}
use Rattle.vfm_plain.specs.StateText.{state_digest}
use Rattle.vfm_plain.specs.Text.{line}
use Rattle.vfm_top.proofs.summary.put_summary.Goals as goal

pub returns-in_err-put_number : goal.returns-in_err-put_number
returns-in_err-put_number g c =
    let p = err_from_is_err_and c.from_residual.result c.from_residual.ensures.1 in
    let writer = g.met.P.TextWriter in
    let load = line (codes "load") (decimal c.from.result ∷ []) in
    let accepted = line (codes "accepted") (decimal c.of-sums.result.accepted ∷ []) in
    let done = line (codes "done") (decimal c.of-sums.result.done ∷ []) in
    let lost = line (codes "lost") (decimal c.of-sums.result.lost ∷ []) in
    let digest = line (codes "digest") (encode_lower (state_digest c.args.desc.now (g.M.MachineView.machine c.args.machine.now)) ∷ []) in
    rw (p.1, ← c.from.ensures, ← c.of-sums.ensures.accepted, ← c.of-sums.ensures.done, ← c.of-sums.ensures.lost) (writer.stop_before _ _ (load ++ accepted ++ done ++ lost) digest (writer.stop_before _ _ (load ++ accepted ++ done) lost (writer.stop_before _ _ (load ++ accepted) done (writer.stop_before _ _ load accepted c.in_err-put_number.ensures))))

pub returns-in_err-put_number-2 : goal.returns-in_err-put_number-2
returns-in_err-put_number-2 g c =
    let p = err_from_is_err_and c.from_residual-in_err-put_number-2.result c.from_residual-in_err-put_number-2.ensures.1 in
    let writer = g.met.P.TextWriter in
    let load = line (codes "load") (decimal c.from.result ∷ []) in
    let accepted = line (codes "accepted") (decimal c.of-sums.result.accepted ∷ []) in
    let done = line (codes "done") (decimal c.of-sums.result.done ∷ []) in
    let lost = line (codes "lost") (decimal c.of-sums.result.lost ∷ []) in
    let digest = line (codes "digest") (encode_lower (state_digest c.args.desc.now (g.M.MachineView.machine c.args.machine.now)) ∷ []) in
    rw (p.1, ← c.from.ensures, ← c.of-sums.ensures.accepted, ← c.of-sums.ensures.done, ← c.of-sums.ensures.lost) (writer.stop_before _ _ (load ++ accepted ++ done ++ lost) digest (writer.stop_before _ _ (load ++ accepted ++ done) lost (writer.stop_before _ _ (load ++ accepted) done (writer.stop_after _ _ _ load accepted c.in_ok-put_number.ensures c.in_err-put_number-2.ensures))))

pub returns-in_err-put_number-3 : goal.returns-in_err-put_number-3
returns-in_err-put_number-3 g c =
    let p = err_from_is_err_and c.from_residual-in_err-put_number-3.result c.from_residual-in_err-put_number-3.ensures.1 in
    let writer = g.met.P.TextWriter in
    let load = line (codes "load") (decimal c.from.result ∷ []) in
    let accepted = line (codes "accepted") (decimal c.of-sums.result.accepted ∷ []) in
    let done = line (codes "done") (decimal c.of-sums.result.done ∷ []) in
    let lost = line (codes "lost") (decimal c.of-sums.result.lost ∷ []) in
    let digest = line (codes "digest") (encode_lower (state_digest c.args.desc.now (g.M.MachineView.machine c.args.machine.now)) ∷ []) in
    rw (p.1, ← c.from.ensures, ← c.of-sums.ensures.accepted, ← c.of-sums.ensures.done, ← c.of-sums.ensures.lost) (writer.stop_before _ _ (load ++ accepted ++ done ++ lost) digest (writer.stop_before _ _ (load ++ accepted ++ done) lost (writer.stop_after _ _ _ (load ++ accepted) done (writer.more _ _ _ load accepted c.in_ok-put_number.ensures c.in_ok-put_number-2.ensures) c.in_err-put_number-3.ensures)))

pub returns-in_err-put_number-4 : goal.returns-in_err-put_number-4
returns-in_err-put_number-4 g c =
    let p = err_from_is_err_and c.from_residual-in_err-put_number-4.result c.from_residual-in_err-put_number-4.ensures.1 in
    let writer = g.met.P.TextWriter in
    let load = line (codes "load") (decimal c.from.result ∷ []) in
    let accepted = line (codes "accepted") (decimal c.of-sums.result.accepted ∷ []) in
    let done = line (codes "done") (decimal c.of-sums.result.done ∷ []) in
    let lost = line (codes "lost") (decimal c.of-sums.result.lost ∷ []) in
    let digest = line (codes "digest") (encode_lower (state_digest c.args.desc.now (g.M.MachineView.machine c.args.machine.now)) ∷ []) in
    rw (p.1, ← c.from.ensures, ← c.of-sums.ensures.accepted, ← c.of-sums.ensures.done, ← c.of-sums.ensures.lost) (writer.stop_before _ _ (load ++ accepted ++ done ++ lost) digest (writer.stop_after _ _ _ (load ++ accepted ++ done) lost (writer.more _ _ _ (load ++ accepted) done (writer.more _ _ _ load accepted c.in_ok-put_number.ensures c.in_ok-put_number-2.ensures) c.in_ok-put_number-3.ensures) c.in_err-put_number-4.ensures))

pub returns : goal.returns
returns g c =
    let writer = g.met.P.TextWriter in
    let load = line (codes "load") (decimal c.from.result ∷ []) in
    let accepted = line (codes "accepted") (decimal c.of-sums.result.accepted ∷ []) in
    let done = line (codes "done") (decimal c.of-sums.result.done ∷ []) in
    let lost = line (codes "lost") (decimal c.of-sums.result.lost ∷ []) in
    let digest = line (codes "digest") (encode_lower (state_digest c.args.desc.now (g.M.MachineView.machine c.args.machine.now)) ∷ []) in
    let before = (writer.more _ _ _ (load ++ accepted ++ done) lost (writer.more _ _ _ (load ++ accepted) done (writer.more _ _ _ load accepted c.in_ok-put_number.ensures c.in_ok-put_number-2.ensures) c.in_ok-put_number-3.ensures) c.in_ok-put_number-4.ensures) in
    rw (← c.from.ensures, ← c.of-sums.ensures.accepted, ← c.of-sums.ensures.done, ← c.of-sums.ensures.lost, ← c.state_digest.ensures)
    (MatchResult-weaker c.put_digest.result c.put_digest.ensures
    (λ _ h. writer.more _ _ _ (load ++ accepted ++ done ++ lost) _ before h)
    (λ _ h. writer.stop_after _ _ _ (load ++ accepted ++ done ++ lost) _ before h))
