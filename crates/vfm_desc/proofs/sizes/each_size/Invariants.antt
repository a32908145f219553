use Rattle.std.proofs.Common.{◌≡◌, IsTrue, drop, map}
use Rattle.std.specs.List.{list_all}
use Rattle.serde_json.specs.View.{view}
use Rattle.vfm_types.specs.declared.fault.FieldName.TheVariants.{Bar}
use Rattle.vfm_types.specs.Ranges.{takes}
use Rattle.vfm_desc.specs.Reading.{each, size_in}
use Rattle.vfm_desc.proofs.Steps.{with_front}
use Rattle.vfm_desc.proofs.sizes.each_size.Given as goal

abbrev pub invariant-loop-value : goal.invariant-loop-value
invariant-loop-value l = record {
  value : with_front l.sizes.items (each (λ k. size_in l.level) l.value-index (map view (drop l.value-index l.values))) ≡ each (λ k. size_in l.level) 0 (map view l.values);
  taken : IsTrue (list_all (takes Bar) l.sizes.items);
}
