-- Frames are found in their bytes.
use Rattle.vfm_control.proofs.Calls.{read_answer, read_go}
use Rattle.vfm_control.proofs.call_laws.sent_frame_is_read.Goals as goal

pub returns-clause-answer : goal.returns-clause-answer
returns-clause-answer c p session bytes is = read_answer p session bytes is

pub returns-clause-go : goal.returns-clause-go
returns-clause-go c p session bytes is = read_go p session bytes is
