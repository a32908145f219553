-- What was gathered and flushed is the text.
use Rattle.std.proofs.Common.{rules}
use Rattle.std.proofs.lemmas.Result.{err_from_is_err_and}
use Rattle.vfm_text.proofs.Printing.{printed, spilled}
use Rattle.vfm_top.proofs.summary.write_load.Goals as goal

pub returns-in_err-put_load : goal.returns-in_err-put_load
returns-in_err-put_load g c =
    let p = err_from_is_err_and c.from_residual.result c.from_residual.ensures.1 in
    let h = spilled c.from_residual.result p.0 p.1 c.new.ensures c.in_err-put_load.ensures.1 in
    search rules

pub returns : goal.returns
returns g c = let h = printed c.flush.result c.new.ensures c.in_ok-put_load.ensures.1 c.flush.ensures.printed in search rules
