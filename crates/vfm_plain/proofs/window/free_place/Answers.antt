use Rattle.std.proofs.Common.{sym, ap, ◌∙◌, arith}
use Rattle.std.proofs.lemmas.Bool.{ne_eqb}
use Rattle.vfm_types.specs.Desc.{no_job}
use Rattle.vfm_types.specs.Job.{is_fence}
use Rattle.vfm_plain.proofs.Places.{found_free, found_rest, found_fence, looked_more}
use Rattle.vfm_plain.proofs.window.free_place.Goals as goal

pub returns-then-is_open-clause-free : goal.returns-then-is_open-clause-free
returns-then-is_open-clause-free c =
    let e = found_free _ _ _ _ _ c.loop-k.invariant (omega arith) (omega arith) c.if-number-n.true in
    let job = ap is_fence (c.at.ensures.value no_job) in
    cc (c.is_fence-fence.ensures, c.is_open.ensures)

pub returns-then-is_open-clause-rest : goal.returns-then-is_open-clause-rest
returns-then-is_open-clause-rest c = found_rest _ _ _ _ _ c.loop-k.invariant (omega arith) c.if-number-n.true

pub returns-else-is_open-clause-free : goal.returns-else-is_open-clause-free
returns-else-is_open-clause-free c =
    let e = found_free _ _ _ _ _ c.loop-k.invariant (omega arith) (omega arith) c.if-number-n.true in
    let job = ap is_fence (c.at.ensures.value no_job) in
    cc (c.is_fence-fence.ensures, c.is_open.ensures)

pub returns-then-fence-clause-free : goal.returns-then-fence-clause-free
returns-then-fence-clause-free c =
    sym (found_fence _ _ _ _ _ c.loop-k.invariant (omega arith) (omega arith) (ne_eqb _ _ c.if-number-n.false) (sym (ap is_fence (c.at.ensures.value no_job)) ∙ sym c.is_fence-fence.ensures ∙ c.if-fence.true))

pub loop-k-preserved : goal.loop-k-preserved
loop-k-preserved c =
    looked_more _ _ _ _ _ c.loop-k.invariant (omega arith) (omega arith) (ne_eqb _ _ c.if-number-n.false) (sym (ap is_fence (c.at.ensures.value no_job)) ∙ sym c.is_fence-fence.ensures ∙ c.if-fence.false)
