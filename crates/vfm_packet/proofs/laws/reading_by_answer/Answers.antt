-- One step of a reading, by what stands at the place.
use Rattle.vfm_packet.proofs.Channels.{step_carried, step_end, step_abort, step_more, step_bad}
use Rattle.vfm_packet.proofs.laws.reading_by_answer.Goals as goal

pub returns-clause-carried : goal.returns-clause-carried
returns-clause-carried c limit e over place rest head used is carries = step_carried limit e over place rest head used is carries

pub returns-clause-ended : goal.returns-clause-ended
returns-clause-ended c limit e over place rest head used is kind = step_end limit e over place rest head used is kind

pub returns-clause-aborted : goal.returns-clause-aborted
returns-clause-aborted c limit e over place rest head used is kind = step_abort limit e over place rest head used is kind

pub returns-clause-unfinished : goal.returns-clause-unfinished
returns-clause-unfinished c limit e over place rest is = step_more limit e over place rest is

pub returns-clause-bad : goal.returns-clause-bad
returns-clause-bad c limit e over place rest cause is = step_bad limit e over place rest cause is
