use Rattle.std.proofs.Common.{◌≡◌, IsTrue, vec_len, drop, map, nat_lt}
use Rattle.std.specs.List.{list_all}
use Rattle.serde_json.specs.View.{view}
use Rattle.vfm_desc.specs.Reading.{each}
use Rattle.vfm_desc.specs.Described.{queued}
use Rattle.vfm_desc.proofs.Steps.{with_front}
use Rattle.vfm_desc.proofs.parts.each_queued.Given as goal

abbrev pub invariant-loop-value : goal.invariant-loop-value
invariant-loop-value l = record {
  value : with_front l.queue.items (each (λ k. queued l.d l.jobs) l.value-index (map view (drop l.value-index l.values))) ≡ each (λ k. queued l.d l.jobs) 0 (map view l.values);
  count : vec_len l.queue ≡ l.value-index;
  below : IsTrue (list_all (λ n. nat_lt n l.jobs) l.queue.items);
}
