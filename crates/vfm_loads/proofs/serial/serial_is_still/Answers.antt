-- By induction over the turns.
use Rattle.vfm_loads.proofs.SerialRun.{serial_still}
use Rattle.vfm_loads.proofs.serial.serial_is_still.Goals as goal

pub returns : goal.returns
returns c = serial_still
