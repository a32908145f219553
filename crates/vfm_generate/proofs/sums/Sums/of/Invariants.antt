-- The sums are those of the devices before this one, each of whose counts is below 2^32.
use Rattle.std.proofs.Common.{◌≡◌, ◌*◌, ◌≤◌, take}
use Rattle.std.specs.List.{sum_by}
use Rattle.vfm_types.specs.Machine.{DeviceState}
use Rattle.vfm_generate.proofs.sums.Sums.of.Given as goal

abbrev pub invariant-loop-d : goal.invariant-loop-d
invariant-loop-d g l = record {
  accepted : l.sums.accepted ≡ sum_by (λ (dev : DeviceState). dev.accepted) (take l.d (g.M.MachineView.machine l.machine).devices);
  done : l.sums.done ≡ sum_by (λ (dev : DeviceState). dev.done) (take l.d (g.M.MachineView.machine l.machine).devices);
  lost : l.sums.lost ≡ sum_by (λ (dev : DeviceState). dev.lost) (take l.d (g.M.MachineView.machine l.machine).devices);
  few_accepted : l.sums.accepted ≤ l.d * 4294967296;
  few_done : l.sums.done ≤ l.d * 4294967296;
  few_lost : l.sums.lost ≤ l.d * 4294967296;
}
