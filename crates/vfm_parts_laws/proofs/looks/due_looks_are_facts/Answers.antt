-- Until Resume the parts have the pages and blocks that the list says.
use Rattle.vfm_parts_laws.proofs.LookFacts.{copy_told, part_told, block_told}
use Rattle.vfm_parts_laws.proofs.looks.due_looks_are_facts.Goals as goal

pub returns-clause-copy : goal.returns-clause-copy
returns-clause-copy c = copy_told

pub returns-clause-part : goal.returns-clause-part
returns-clause-part c = part_told

pub returns-clause-block : goal.returns-clause-block
returns-clause-block c = block_told
