use Rattle.std.proofs.Common.{sym, subst, List}
use Rattle.vfm_intake.specs.declared.stream.StreamIntake.{StreamIntake}
use Rattle.vfm_dest.specs.Drained.{HasLoaded}
use Rattle.vfm_dest.proofs.judging.judge.Goals as goal

pub judge_rest-requires-clause-loaded : goal.judge_rest-requires-clause-loaded
judge_rest-requires-clause-loaded c =
    subst (λ (l : List StreamIntake). HasLoaded c.args.desc.now c.args.taken.funnels.items l) (sym c.in-Ok.ensures.streams)
    (c.requires.loaded c.if-is_short.false)
