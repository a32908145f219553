use Rattle.vfm_parts.specs.Fits.{DevFits, PageFits}
use Rattle.vfm_device_part.proofs.tests.first_other.Given as goal

abbrev pub invariant-loop-i : goal.invariant-loop-i
invariant-loop-i l = DevFits l.desc 0 l.parts.a × DevFits l.desc 1 l.parts.b × PageFits l.desc l.parts.p × PageFits l.desc l.parts.q
