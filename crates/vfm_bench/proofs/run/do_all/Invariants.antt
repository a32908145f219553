-- The machine stays sound, and each turn but the last does more of the requests that the budgets allow.
use Rattle.std.proofs.Common.{◌-◌}
use Rattle.vfm_plain.specs.Shape.{IsSound, all_done}
use Rattle.vfm_bench.proofs.run.do_all.Given as goal

abbrev pub invariant-turns : goal.invariant-turns
invariant-turns l = IsSound l.desc l.plain

abbrev pub decreases-turns : goal.decreases-turns
decreases-turns l = 400000 - all_done l.plain
