-- What the parts of a report are lent as.
use Rattle.std.specs.Prelude.{◌<◌, option_map, IfSome}
use Rattle.vfm_types.specs.Desc.{device_count}
use Rattle.vfm_types.specs.Machine.{Machine}
use Rattle.vfm_plain.specs.Shape.{HasShape}
use Rattle.vfm_plain.specs.Report.{Made}
use Rattle.vfm_text.specs.declared.report.ReportParts.{ReportParts}

-- the parts of a report, wherever they lie; what holds a machine shows it by this function
abbrev pub made_of : {M : Type 0} → (M → Machine) → ReportParts M → Made
made_of machine parts =
    record {
      desc = parts.desc.now;
      source = parts.source.now.entries;
      joint = option_map (λ m. m.now) parts.joint;
      loaded = option_map (λ m. machine m.now) parts.loaded;
      destination = option_map (λ j. j.now.entries) parts.destination;
      final = option_map (λ m. machine m.now) parts.final_state;
    }

-- each machine among the parts has the sizes of the description, whose devices a byte can number
pub record CanPrint {M : Type 0} (machine : M → Machine) (parts : ReportParts M) : Type 0 where
  pub joint : IfSome parts.joint (λ m. HasShape parts.desc.now m.now)
  pub loaded : IfSome parts.loaded (λ m. HasShape parts.desc.now (machine m.now))
  pub final : IfSome parts.final_state (λ m. HasShape parts.desc.now (machine m.now))
  pub few : device_count parts.desc.now < 256
