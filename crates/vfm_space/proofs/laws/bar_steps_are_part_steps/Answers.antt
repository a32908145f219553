use Rattle.vfm_space.proofs.OfParts.{block_read, untouched, written}
use Rattle.vfm_space.proofs.laws.bar_steps_are_part_steps.Goals as goal

pub returns-clause-written : goal.returns-clause-written
returns-clause-written c = written

pub returns-clause-untouched : goal.returns-clause-untouched
returns-clause-untouched c = untouched

pub returns-clause-read : goal.returns-clause-read
returns-clause-read c = block_read
