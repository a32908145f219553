use Rattle.vfm_parts.specs.Fits.{DevFits, PageFits}
use Rattle.vfm_device_part.proofs.tests.parts_are_their_lists.Given as goal

abbrev pub invariant-loop-2 : goal.invariant-loop-2
invariant-loop-2 g l =
    DevFits l.desc 0 l.game.parts.a × DevFits l.desc 1 l.game.parts.b × PageFits l.desc l.game.parts.p × PageFits l.desc l.game.parts.q
