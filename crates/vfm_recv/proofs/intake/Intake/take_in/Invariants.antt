use Rattle.std.proofs.Common.{◌≡◌, ◌+◌, ◌-◌, ◌≤◌, ◌++◌, ℕ, List, length, take}
use Rattle.vfm_mesh.specs.declared.fan.Fan.{Fan}
use Rattle.vfm_mesh.specs.Rows.{stream_count, fan_rings}
use Rattle.vfm_recv.specs.Intakes.{Standing, IsWaiting}
use Rattle.vfm_recv.proofs.intake.Intake.take_in.Given as goal

-- the first bytes were taken in
abbrev pub invariant-loop-at : goal.invariant-loop-at
invariant-loop-at l = record {
  in_range : l.at ≤ length l.bytes;
  stands : (came : List ℕ) (before : Fan) → Standing l.initial.self came before l.initial.fan → Standing l.self (came ++ take l.at l.bytes) before l.fan;
  waiting : IsWaiting l.self;
  streams : stream_count l.fan ≡ stream_count l.initial.fan;
  rings : fan_rings l.fan ≡ fan_rings l.initial.fan;
  expect : l.self.expect ≡ l.initial.self.expect;
  came : l.self.came ≡ l.initial.self.came + l.at;
}

abbrev pub decreases-loop-at : goal.decreases-loop-at
decreases-loop-at l = length l.bytes - l.at
