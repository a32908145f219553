-- The line of a job by its kind.
use Rattle.vfm_record.proofs.shape.put_job.Goals as goal

pub returns-in-Read : goal.returns-in-Read
returns-in-Read c = rw c.in-Read.is (rw c.from.ensures at c.put_numbers.ensures)

pub returns-in-Add : goal.returns-in-Add
returns-in-Add c = rw c.in-Add.is c.put_numbers-in-Add.ensures
