-- By counting what was read.
use Rattle.vfm_copying.proofs.FewCopies.{few_blocks_in_pass, few_readings, most_readings, reading_stale}
use Rattle.vfm_copying.proofs.few.readings_are_few.Goals as goal

pub returns-clause-due : goal.returns-clause-due
returns-clause-due c = reading_stale

pub returns-clause-in_pass : goal.returns-clause-in_pass
returns-clause-in_pass c = few_blocks_in_pass

pub returns-clause-in_all : goal.returns-clause-in_all
returns-clause-in_all c = few_readings

pub returns-clause-at_most : goal.returns-clause-at_most
returns-clause-at_most c = most_readings
