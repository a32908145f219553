use Rattle.vfm_device.proofs.Kept.{undelivered_pending}
use Rattle.vfm_device.proofs.laws.undelivered_requests_are_pending.Goals as goal

pub returns : goal.returns
returns c = undelivered_pending
