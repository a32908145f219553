-- Stream by stream.
use Rattle.vfm_stream_laws.proofs.FitClosed.{all_fit}
use Rattle.vfm_stream_laws.proofs.sent.sent_records_fit.Goals as goal

pub returns : goal.returns
returns c = all_fit
