use Rattle.vfm_plain.proofs.Effects.{can_lose}
use Rattle.vfm_plain.proofs.laws.sound_machines_can_lose.Goals as goal

pub returns : goal.returns
returns c = can_lose
