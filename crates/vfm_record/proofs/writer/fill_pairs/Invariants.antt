-- The pairs so far are appended, and there is room for the rest.
use Rattle.std.proofs.Common.{◌≡◌, ◌+◌, ◌-◌, ◌*◌, ◌≤◌, ◌++◌, length, take, vec_len, vec_capacity}
use Rattle.std.specs.List.{flat_map}
use Rattle.vfm_record.specs.Record.{pair_bytes}
use Rattle.vfm_record.proofs.writer.fill_pairs.Given as goal

abbrev pub invariant-loop-pair : goal.invariant-loop-pair
invariant-loop-pair l = record {
  items : l.out.items ≡ l.fn.out.items ++ flat_map pair_bytes (take l.pair-index l.pairs);
  room : vec_len l.out + 8 * (length l.pairs - l.pair-index) ≤ vec_capacity l.out;
}
