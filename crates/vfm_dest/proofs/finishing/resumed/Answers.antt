-- A staged core has room, and its run goes on to its end.
use Rattle.std.proofs.Common.{◌≡◌, List, [], None, sym, subst}
use Rattle.vfm_types.specs.declared.entry.Entry.{Entry}
use Rattle.vfm_types.specs.declared.entry.Entry.TheVariants.{Resume}
use Rattle.vfm_plain.specs.Rules.{fault_of}
use Rattle.vfm_core.specs.CoreState.{CoreState, IsStagedOn}
use Rattle.vfm_drive.specs.Endings.{HasTakenOver}
use Rattle.vfm_dest.specs.Homeward.{HasRoom}
use Rattle.vfm_dest.specs.Stages.{core_of, digest_of}
use Rattle.vfm_dest.proofs.Staging.{has-room, no-entries}
use Rattle.vfm_dest.proofs.Taking.{joined}
use Rattle.vfm_dest.proofs.finishing.resumed.Goals as goal

pub take_over-requires : goal.take_over-requires
take_over-requires c =
    subst HasRoom (sym c.into_core-core.ensures) (has-room (core_of c.args.staged) (digest_of c.args.staged) c.core.ensures.stands)

pub returns-clause-taken_over : goal.returns-clause-taken_over
returns-clause-taken_over c = λ before staged may.
    subst (λ (s : CoreState). (list : List Entry) → IsStagedOn s.desc list [] s.world → fault_of s.desc list Resume ≡ None
    → HasTakenOver s c.take_over.new.core list) c.into_core-core.ensures c.take_over.ensures before staged may

pub returns-clause-joined : goal.returns-clause-joined
returns-clause-joined c = λ before staged may.
    joined before (core_of c.args.staged) c.take_over.new.core
    (no-entries (core_of c.args.staged) (digest_of c.args.staged) c.core.ensures.stands) c.desc.ensures.fits
    (returns-clause-taken_over c before staged may)
