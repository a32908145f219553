-- Frames that were sent stay.
use Rattle.vfm_control.proofs.Histories.{answer_stays_sent, go_stays_sent}
use Rattle.vfm_control.proofs.pair_laws.sent_frames_stay.Goals as goal

pub returns-clause-answer : goal.returns-clause-answer
returns-clause-answer c own later earlier answer is = answer_stays_sent own later earlier answer is

pub returns-clause-go : goal.returns-clause-go
returns-clause-go c own later earlier digest is = go_stays_sent own later earlier digest is
