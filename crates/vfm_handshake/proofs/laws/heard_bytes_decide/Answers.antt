use Rattle.vfm_handshake.proofs.Hearing.{heard_once}
use Rattle.vfm_handshake.proofs.laws.heard_bytes_decide.Goals as goal

pub returns-clause-bytes : goal.returns-clause-bytes
returns-clause-bytes c = heard_once
