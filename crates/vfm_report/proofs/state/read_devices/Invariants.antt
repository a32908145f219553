-- The devices that are read still come after those that were read.
use Rattle.std.proofs.Common.{◌≡◌, ◌-◌, ◌++◌}
use Rattle.vfm_types.specs.Desc.{device_count}
use Rattle.vfm_report.specs.Found.{found_map, row}
use Rattle.vfm_report.specs.LineList.{lines_left}
use Rattle.vfm_report.specs.Readers.{device_reader}
use Rattle.vfm_report.proofs.state.read_devices.Given as goal

abbrev pub invariant-loop-d : goal.invariant-loop-d
invariant-loop-d l =
    row (device_reader l.desc) (device_count l.desc) 0 (lines_left l.fn.lines) ≡ found_map (λ xs. l.devices.items ++ xs) (row (device_reader l.desc) (device_count l.desc - l.d) l.d (lines_left l.lines))
