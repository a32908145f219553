-- Each entry names what the machine has.
use Rattle.vfm_audit.proofs.Audits.{all_there}
use Rattle.vfm_audit.proofs.laws.printed_entries_can_be_audited.Goals as goal

pub returns : goal.returns
returns c = all_there
