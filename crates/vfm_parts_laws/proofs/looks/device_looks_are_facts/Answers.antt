-- Field by field.
use Rattle.vfm_parts_laws.proofs.LookFacts.{look_told, arc_told, ready_told}
use Rattle.vfm_parts_laws.proofs.looks.device_looks_are_facts.Goals as goal

pub returns-clause-look : goal.returns-clause-look
returns-clause-look c = look_told

pub returns-clause-arc : goal.returns-clause-arc
returns-clause-arc c = arc_told

pub returns-clause-ready : goal.returns-clause-ready
returns-clause-ready c = ready_told
