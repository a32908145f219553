-- An entry that was made was allowed.
use Rattle.std.proofs.Common.{◌∙◌, sym, subst}
use Rattle.vfm_core.specs.CoreState.{CoreState}
use Rattle.vfm_dest.specs.Homeward.{GoesHomeward}
use Rattle.vfm_dest.proofs.Going.{one-homeward}
use Rattle.vfm_dest.proofs.homeward.make_allowed.Goals as goal

pub returns-in-Ok-clause-homeward : goal.returns-in-Ok-clause-homeward
returns-in-Ok-clause-homeward c =
    subst (λ (s : CoreState). GoesHomeward c.args.core.now s) (sym c.in-Ok.ensures.done)
    (one-homeward c.args.core.now c.args.entry.now c.requires (sym c.has_entry.ensures ∙ c.if-has_entry.true) c.in-Ok.ensures.guard)
