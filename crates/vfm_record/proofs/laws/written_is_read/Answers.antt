-- What is encoded is read.
use Rattle.vfm_record.proofs.Again.{again}
use Rattle.vfm_record.proofs.laws.written_is_read.Goals as goal

pub returns-clause-passes : goal.returns-clause-passes
returns-clause-passes c D stream r is = (again D stream r is).0

pub returns-clause-same : goal.returns-clause-same
returns-clause-same c D stream r is = (again D stream r is).1
