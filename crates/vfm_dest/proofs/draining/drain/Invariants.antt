-- All of the streams so far was taken.
use Rattle.std.proofs.Common.{◌≡◌}
use Rattle.vfm_mesh.specs.Meshes.{streams_left, channels_left}
use Rattle.vfm_intake.specs.Intakes.{IsIntakeOf}
use Rattle.vfm_dest.specs.Drained.{HasDrainedBelow}
use Rattle.vfm_dest.proofs.draining.drain.Given as goal

abbrev pub invariant-loop-stream : goal.invariant-loop-stream
invariant-loop-stream l = record {
  made : IsIntakeOf l.intake l.desc;
  streams : streams_left l.rest ≡ streams_left l.initial.rest;
  channels : channels_left l.rest ≡ channels_left l.initial.rest;
  drained : HasDrainedBelow l.desc l.stream l.initial.rest l.rest l.initial.intake l.intake;
}
