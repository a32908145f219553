use Rattle.std.proofs.Common.{◌≡◌, All, vec_len, drop, map}
use Rattle.serde_json.specs.View.{view}
use Rattle.vfm_types.specs.Valid.{ShapeInRange}
use Rattle.vfm_desc.specs.Reading.{each}
use Rattle.vfm_desc.specs.Described.{device_in}
use Rattle.vfm_desc.proofs.Steps.{with_front}
use Rattle.vfm_desc.proofs.parts.each_device.Given as goal

abbrev pub invariant-loop-d : goal.invariant-loop-d
invariant-loop-d l = record {
  value : with_front l.shapes.items (each device_in l.d (map view (drop l.d l.objects))) ≡ each device_in 0 (map view l.objects);
  count : vec_len l.shapes ≡ l.d;
  in_range : All ShapeInRange l.shapes.items;
}
