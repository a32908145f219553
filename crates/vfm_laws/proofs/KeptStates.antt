-- What every legal list keeps of how the devices stand.
use Rattle.std.proofs.Common.{None, Some, ◌≡◌, List, [], ◌∷◌, refl}
use Rattle.std.proofs.lemmas.Bool.{false≢true}
use Rattle.vfm_types.specs.declared.desc.Desc.{Desc}
use Rattle.vfm_types.specs.declared.entry.Entry.{Entry}
use Rattle.vfm_types.specs.declared.entry.Entry.TheVariants.{Issue, Deliver, Complete, Hold, Arc, Joint, Abort, Resume}
use Rattle.vfm_types.specs.Valid.{IsValid}
use Rattle.vfm_plain.specs.Legal.{IsLegal}
use Rattle.vfm_types.specs.declared.state.MigState.{MigState}
use Rattle.vfm_laws.specs.Standing.{EachStands, KeepsStates}
use Rattle.vfm_laws.proofs.Issue.{issue_keeps_states}
use Rattle.vfm_laws.proofs.Deliver.{deliver_keeps_states}
use Rattle.vfm_laws.proofs.Complete.{complete_keeps_states}
use Rattle.vfm_laws.proofs.Hold.{hold_keeps_states}
use Rattle.vfm_laws.proofs.Arc.{arc_keeps_states}
use Rattle.vfm_laws.proofs.Ends.{joint_keeps_states, abort_keeps_states, resume_keeps_states}

described_stands : (D : Desc) → KeepsStates D []
described_stands D = (each, (λ d e inside_d inside_e still. absurd (false≢true still)), (λ joint aborted resumed d inside. absurd (false≢true joint)))
  where
    none_some : (to : MigState) → None ≡ Some to → ⊥
    none_some to same = cc

    each : EachStands D []
    each d inside = record { known = refl; held = λ to same. absurd (none_some to same); still = λ still. refl; unbarred = λ slow. refl }

pub keeps_states : (D : Desc) → IsValid D → (past : List Entry) → IsLegal D past → KeepsStates D past
keeps_states D valid [] legal = described_stands D
keeps_states D valid (Issue e n ∷ past) legal = issue_keeps_states D past e n legal.1 (keeps_states D valid past legal.2)
keeps_states D valid (Deliver e n ∷ past) legal = deliver_keeps_states D past e n (keeps_states D valid past legal.2)
keeps_states D valid (Complete e n ∷ past) legal = complete_keeps_states D past e n (keeps_states D valid past legal.2)
keeps_states D valid (Hold e to ∷ past) legal = hold_keeps_states D past e to legal.1 (keeps_states D valid past legal.2)
keeps_states D valid (Arc e to ∷ past) legal = arc_keeps_states D past e to valid legal.0 legal.1 (keeps_states D valid past legal.2)
keeps_states D valid (Joint ∷ past) legal = joint_keeps_states D past legal.1 (keeps_states D valid past legal.2)
keeps_states D valid (Abort ∷ past) legal = abort_keeps_states D past (keeps_states D valid past legal.2)
keeps_states D valid (Resume ∷ past) legal = resume_keeps_states D past legal.1 (keeps_states D valid past legal.2)
keeps_states D valid (entry ∷ past) legal = keeps_states D valid past legal.2
