-- By induction over the turns.
use Rattle.vfm_loads.proofs.SerialRun.{serial_reached}
use Rattle.vfm_loads.proofs.serial.serial_does_enabled_requests.Goals as goal

pub returns : goal.returns
returns c = serial_reached
