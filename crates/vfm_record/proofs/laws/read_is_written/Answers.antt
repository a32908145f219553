-- What is read was encoded.
use Rattle.std.proofs.Common.{sym}
use Rattle.vfm_record.proofs.Found.{found}
use Rattle.vfm_record.proofs.laws.read_is_written.Goals as goal

pub returns-clause-record_of_stream : goal.returns-clause-record_of_stream
returns-clause-record_of_stream c D stream bytes fits none = (found D stream bytes fits none).0

pub returns-clause-same : goal.returns-clause-same
returns-clause-same c D stream bytes fits none = sym (found D stream bytes fits none).1
