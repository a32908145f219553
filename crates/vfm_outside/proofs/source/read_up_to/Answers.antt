use Rattle.std.proofs.Common.{◌≡◌, ◌≤◌, ℕ, List, length, ◌++◌, take, arith}
use Rattle.std.proofs.lemmas.Grind.{common_steps}
use Rattle.vfm_outside.specs.Told.{with_prepended}
use Rattle.vfm_outside.proofs.ToldLemmas.{read-more, on_err}
use Rattle.vfm_outside.proofs.source.read_up_to.Goals as goal

pub returns-in_err-extend_from_slice-clause-lost : goal.returns-in_err-extend_from_slice-clause-lost
returns-in_err-extend_from_slice-clause-lost g c =
    let now = g.S.Source.left c.read.new.self in
    let left = g.S.Source.left c.args.source.now in
    let lost : (bytes : List ℕ) × (length bytes ≤ c.args.most) × (left ≡ with_prepended bytes now) = (
      c.loop-buf.bytes.items ++ take c.in_ok-n.n c.read.new.buf,
      grind (arith, common_steps),
      read-more left (g.S.Source.left c.loop-buf.source) now
          c.loop-buf.bytes.items (take c.in_ok-n.n c.read.new.buf) c.loop-buf.invariant.given c.in_ok-n.ensures.given.1,
    ) in
    on_err c.from_residual-in_err-extend_from_slice.result _ lost
