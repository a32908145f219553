-- Both directions.
use Rattle.vfm_record.proofs.Writable.{has_machine, is_writable}
use Rattle.vfm_record.proofs.laws.what_can_be_written.Goals as goal

pub returns-clause-exact : goal.returns-clause-exact
returns-clause-exact c r fits =
    (λ h. has_machine r fits h, λ h. is_writable h.1.machine h.1.stream r h.1.valid h.1.known h.1.of h.0)

pub returns-clause-read : goal.returns-clause-read
returns-clause-read c D stream r valid known is whole = is_writable D stream r valid known is whole
