-- What was gathered and flushed is the text.
use Rattle.std.proofs.Common.{rules}
use Rattle.vfm_text.proofs.Printing.{printed}
use Rattle.vfm_top.proofs.print.write_audit.Goals as goal

pub returns : goal.returns
returns g c = let h = printed c.flush.result c.new.ensures c.in_ok-put_audit.ensures.1 c.flush.ensures.printed in search rules
