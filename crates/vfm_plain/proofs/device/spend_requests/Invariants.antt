use Rattle.std.proofs.Common.{◌≡◌, ◌≤◌, vec_len, vec_capacity}
use Rattle.vfm_plain.proofs.device.spend_requests.Given as goal

abbrev pub invariant-loop-i : goal.invariant-loop-i
invariant-loop-i l = record { count : vec_len l.requests ≡ l._i; room : 50000 ≤ vec_capacity l.requests }
