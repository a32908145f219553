-- What is left to test gives the answer of all.
use Rattle.std.proofs.Common.{◌≡◌, drop}
use Rattle.vfm_record.specs.Record.{pairs_of}
use Rattle.vfm_streams.specs.Judged.{number_after, pairs_fault}
use Rattle.vfm_load.proofs.device.number_behind.Given as goal

abbrev pub invariant-loop-i : goal.invariant-loop-i
invariant-loop-i l =
    record {
      fault : pairs_fault l.accepted l.jobs l.fn.low 0 (pairs_of l.count l.bytes) ≡ pairs_fault l.accepted l.jobs l.low l.i (drop l.i (pairs_of l.count l.bytes));
      after : number_after l.fn.low (pairs_of l.count l.bytes) ≡ number_after l.low (drop l.i (pairs_of l.count l.bytes));
    }
