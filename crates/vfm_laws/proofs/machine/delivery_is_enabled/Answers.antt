-- A request that waits is enabled.
use Rattle.vfm_laws.proofs.Enabled.{deliver_enabled}
use Rattle.vfm_laws.proofs.machine.delivery_is_enabled.Goals as goal

pub returns : goal.returns
returns c = deliver_enabled
