-- The words are those that were made.
use Rattle.vfm_top.proofs.line.put_refused.Goals as goal

pub returns-in-Unsupported : goal.returns-in-Unsupported
returns-in-Unsupported g c = rw (c.in-Unsupported.is, ← c.state_name.ensures) c.put_line.ensures
