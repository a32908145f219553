use Rattle.vfm_device_part.proofs.Deliveries.{aimed_is, aimless_turn}
use Rattle.vfm_device_part.proofs.laws.targets_are_aims.Goals as goal

pub returns-clause-aimed : goal.returns-clause-aimed
returns-clause-aimed c D d n dev region is fine = aimed_is D d n dev region is

pub returns-clause-none : goal.returns-clause-none
returns-clause-none c = aimless_turn
