-- The bytes of a buffer are bytes.
use Rattle.vfm_base.proofs.NumbersInBytes.{IsBytes-take}
use Rattle.vfm_handshake.proofs.heard.HeardBytes.of.Goals as goal

pub returns-clause-fits : goal.returns-clause-fits
returns-clause-fits c = IsBytes-take c.min.result c.args.bytes.now (λ i. c.fits-bytes i)
