-- Stream by stream.
use Rattle.vfm_intake_laws.proofs.SameFaults.{refused-same}
use Rattle.vfm_intake_laws.proofs.order.order_of_arrival_changes_no_refusal.Goals as goal

pub returns : goal.returns
returns c = refused-same
