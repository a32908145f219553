-- By the number of records in all.
use Rattle.vfm_stream_laws.proofs.SoundChannels.{indexes_fit, streams_low}
use Rattle.vfm_stream_laws.proofs.HowMuch.{few_indexes}
use Rattle.vfm_stream_laws.proofs.sizes.indexes_fit_their_field.Goals as goal

pub returns-clause-stream : goal.returns-clause-stream
returns-clause-stream c = streams_low

pub returns-clause-index : goal.returns-clause-index
returns-clause-index c = indexes_fit

pub returns-clause-few : goal.returns-clause-few
returns-clause-few c = few_indexes
