-- No copying entry follows.
use Rattle.vfm_stream_laws.proofs.Growth.{closed_stays}
use Rattle.vfm_stream_laws.proofs.sent.sent_stays_after_last_pass.Goals as goal

pub returns : goal.returns
returns c = closed_stays
