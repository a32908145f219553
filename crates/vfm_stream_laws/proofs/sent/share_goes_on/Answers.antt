-- Entry by entry.
use Rattle.vfm_stream_laws.proofs.Growth.{share_grows, shares_grow}
use Rattle.vfm_stream_laws.proofs.sent.share_goes_on.Goals as goal

pub returns-clause-one_more : goal.returns-clause-one_more
returns-clause-one_more c = share_grows

pub returns-clause-later : goal.returns-clause-later
returns-clause-later c = shares_grow
