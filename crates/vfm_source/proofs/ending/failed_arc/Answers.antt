-- The look tells whether an arc failed, and then it stands in the journal.
use Rattle.std.proofs.Common.{◌≡◌, true, false, List, IfNone, IfSome, Contains, ap, reverse, sym, subst, ◌∙◌}
use Rattle.vfm_types.specs.declared.entry.Entry.{Entry}
use Rattle.vfm_types.specs.declared.entry.Entry.TheVariants.{Fail}
use Rattle.vfm_types.specs.Phases.{is_failed}
use Rattle.vfm_source.specs.declared.ending.FailedArc.{FailedArc}
use Rattle.vfm_source.specs.Moving.{past_in}
use Rattle.vfm_source.proofs.Fails.{told_none, told_some}
use Rattle.vfm_source.proofs.ending.failed_arc.Goals as goal

pub returns-then-look-clause-some : goal.returns-then-look-clause-some
returns-then-look-clause-some c =
    let list : c.as_slice.result.now ≡ c.args.core.now.entries = c.as_slice.ensures ∙ c.journal.ensures in
    subst (λ (entries : List Entry). IfSome c.newest_failed.result (λ (arc : FailedArc). Contains (reverse entries) (Fail arc.d arc.to))) list
    (told_some c.as_slice.result.now c.newest_failed.result c.newest_failed.ensures.some)

pub returns-then-look-clause-none : goal.returns-then-look-clause-none
returns-then-look-clause-none c =
    let list : c.as_slice.result.now ≡ c.args.core.now.entries = c.as_slice.ensures ∙ c.journal.ensures in
    let failed : is_failed (past_in c.args.core.now) ≡ true = sym (c.look.ensures.follows (past_in c.args.core.now) c.requires.run).failed ∙ c.if-look.true in
    subst (λ (entries : List Entry). IfNone c.newest_failed.result (is_failed (reverse entries) ≡ false)) list
    (told_none c.as_slice.result.now c.newest_failed.result c.newest_failed.ensures.none (ap (λ (entries : List Entry). is_failed (reverse entries)) list ∙ failed))
