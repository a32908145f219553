-- Some parcels of the stream were taken; each taken is one less that is left.
use Rattle.std.proofs.Common.{◌≡◌}
use Rattle.vfm_mesh.specs.Meshes.{streams_left, channels_left}
use Rattle.vfm_intake.specs.Intakes.{IsIntakeOf, stream_count}
use Rattle.vfm_dest.specs.Drained.{Moves}
use Rattle.vfm_dest.proofs.Weights.{left_count}
use Rattle.vfm_dest.proofs.draining.drain_stream.Given as goal

abbrev pub invariant-loop-parcel : goal.invariant-loop-parcel
invariant-loop-parcel l = record {
  made : IsIntakeOf l.intake l.desc;
  count : stream_count l.intake ≡ stream_count l.initial.intake;
  streams : streams_left l.rest ≡ streams_left l.initial.rest;
  channels : channels_left l.rest ≡ channels_left l.initial.rest;
  moved : Moves l.desc l.stream l.initial.rest l.rest l.initial.intake l.intake;
}

abbrev pub decreases-loop-parcel : goal.decreases-loop-parcel
decreases-loop-parcel l = left_count l.rest l.stream
