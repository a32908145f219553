-- A turn that does a request leaves fewer to be done.
use Rattle.std.proofs.Common.{arith}
use Rattle.vfm_bench.proofs.Turns.{most_done}
use Rattle.vfm_bench.proofs.run.do_all.Goals as goal

pub turns-smaller : goal.turns-smaller
turns-smaller c =
    omega (arith, c.do_turn-done.ensures.count, most_done _ _ c.requires.valid c.do_turn-done.ensures.sound)
