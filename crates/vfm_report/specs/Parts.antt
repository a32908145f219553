-- A report that was read, as its parts.
use Rattle.std.specs.Option.{option_map}
use Rattle.vfm_report.specs.declared.report.Report.{Report}
use Rattle.vfm_report.specs.Readers.{Parts}

-- its parts in their order
abbrev pub parts_of : Report → Parts
parts_of r = (tt, (r.source.entries, (r.joint, (r.loaded, (option_map (λ j. j.entries) r.dest, (r.last, tt))))))
