-- A state more, and a state that stops the writer.
use Rattle.std.proofs.Common.{◌++◌, ◌∷◌, [], map, take, arith}
use Rattle.std.specs.Prelude.{codes}
use Rattle.std.specs.List.{flat_map}
use Rattle.std.proofs.lemmas.List.{take_all}
use Rattle.std.proofs.lemmas.Result.{err_from_is_err_and, MatchResult-weaker}
use Rattle.vfm_plain.specs.Text.{state_name}
use Rattle.vfm_text.proofs.Parts.{line-parts}
use Rattle.std.proofs.lemmas.Option.{get_or_from_slice_get}
use Rattle.vfm_top.proofs.Paths.{words-more}
use Rattle.vfm_top.proofs.line.put_path.Goals as goal

pub returns-in_err-put : goal.returns-in_err-put
returns-in_err-put g c =
    let p = err_from_is_err_and c.from_residual.result c.from_residual.ensures.1 in
    let writer = g.met.P.TextWriter in
    rw (p.1) (writer.stop_before _ _ (codes "path" ++ flat_map (λ word. 32 ∷ word) (map state_name c.args.route.now)) (10 ∷ []) (writer.stop_before _ _ (codes "path") (flat_map (λ word. 32 ∷ word) (map state_name c.args.route.now)) c.in_err-put.ensures))

pub returns-in_err-put_all : goal.returns-in_err-put_all
returns-in_err-put_all g c =
    let p = err_from_is_err_and c.from_residual-in_err-put_all.result c.from_residual-in_err-put_all.ensures.1 in
    let writer = g.met.P.TextWriter in
    let here = get_or_from_slice_get c.args.route.now c.loop-i.i c.at.result c.at.result c.at.ensures in
    let e = line-parts state_name (codes "path") c.args.route.now c.loop-i.i c.at.result (omega (arith, c.len-i-end.ensures.value)) in
    rw (p.1, e, here, ← c.state_name.ensures) (writer.stop_before _ _ _ _ (writer.stop_after _ _ _ (codes "path" ++ flat_map (λ word. 32 ∷ word) (map state_name (take c.loop-i.i c.args.route.now))) _ c.loop-i.invariant c.in_err-put_all.ensures))

pub loop-i-preserved : goal.loop-i-preserved
loop-i-preserved g c =
    let here = get_or_from_slice_get c.args.route.now c.loop-i.i c.at.result c.at.result c.at.ensures in
    let e = words-more state_name (codes "path") c.args.route.now c.loop-i.i c.at.result (omega (arith, c.len-i-end.ensures.value)) in
    rw (e, here, ← c.state_name.ensures) (g.met.P.TextWriter.more _ _ _ (codes "path" ++ flat_map (λ word. 32 ∷ word) (map state_name (take c.loop-i.i c.args.route.now))) _ c.loop-i.invariant c.in_ok-put_all.ensures)

pub returns : goal.returns
returns g c =
    let writer = g.met.P.TextWriter in
    let words = codes "path" ++ flat_map (λ word. 32 ∷ word) (map state_name c.args.route.now) in
    let whole = take_all c.loop-i.i c.args.route.now (omega (arith, c.len-i-end.ensures.value)) in
    let before = rw whole at c.loop-i.invariant in
    MatchResult-weaker c.put-2.result c.put-2.ensures
    (λ _ h. writer.more _ _ _ words (10 ∷ []) before h)
    (λ _ h. writer.stop_after _ _ _ words (10 ∷ []) before h)
