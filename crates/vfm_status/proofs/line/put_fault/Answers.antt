-- The words are those that were asked for.
use Rattle.vfm_status.proofs.line.put_fault.Goals as goal

pub returns-in-Some : goal.returns-in-Some
returns-in-Some g c = rw (← c.cause.ensures, ← c.in-Some.ensures, ← c.as_slice.ensures) c.put_line.ensures

pub returns-in-None : goal.returns-in-None
returns-in-None g c = rw (← c.cause-in-None.ensures, ← c.in-None.ensures) c.put_line-in-None.ensures
