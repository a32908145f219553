use Rattle.vfm_plain.proofs.Effects.{serial-no_requests}
use Rattle.vfm_plain.proofs.laws.serial_without_requests.Goals as goal

pub returns : goal.returns
returns c = serial-no_requests
