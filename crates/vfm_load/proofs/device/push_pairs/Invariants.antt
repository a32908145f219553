-- So many of them stand behind the others.
use Rattle.std.proofs.Common.{◌≡◌, ◌+◌, ◌++◌, take}
use Rattle.std.specs.Prelude.{vec_len, vec_capacity}
use Rattle.vfm_record.specs.Record.{pairs_of}
use Rattle.vfm_load.proofs.device.push_pairs.Given as goal

abbrev pub invariant-loop-i : goal.invariant-loop-i
invariant-loop-i l =
    record {
      items : l.pending.items ≡ l.initial.pending.items ++ take l.i (pairs_of l.count l.bytes);
      len : vec_len l.pending ≡ vec_len l.initial.pending + l.i;
      room : vec_capacity l.pending ≡ vec_capacity l.initial.pending;
    }
