-- Kind by kind, over parts that hold the facts of the list.
use Rattle.vfm_parts.specs.Parts.{parts_in}
use Rattle.vfm_parts.specs.PartsOf.{world_of}
use Rattle.vfm_parts.proofs.Faults.{fault_told}
use Rattle.vfm_parts.proofs.Worlds.{world_tells}
use Rattle.vfm_parts.proofs.local.faults_are_local.Goals as goal

pub returns : goal.returns
returns c = λ D past entry inside. fault_told D past (parts_in (world_of D past)) (world_tells D past) entry inside
