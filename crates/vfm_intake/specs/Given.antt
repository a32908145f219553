-- What a buffer and a loader name, as what is wrong with a stream.
use Rattle.std.specs.Prelude.{ℕ, List}
use Rattle.vfm_types.specs.declared.desc.Desc.{Desc}
use Rattle.vfm_record.specs.Record.{Record}
use Rattle.vfm_streams.specs.Whole.{StreamFault, Past, NoConfig, Missing, BadRecord, ConfigDiffers, NotWhole}
use Rattle.vfm_reorder.specs.declared.faults.Gap.{Gap}
use Rattle.vfm_reorder.specs.declared.faults.Gap.TheVariants as gaps
use Rattle.vfm_load.specs.declared.faults.LoadFault.{LoadFault}
use Rattle.vfm_load.specs.declared.faults.LoadFault.TheVariants as loads
use Rattle.vfm_load.specs.Loads.{HasDigests}
use Rattle.vfm_intake.specs.declared.refusal.StreamRefusal.{StreamRefusal}
use Rattle.vfm_intake.specs.Causes.{NamesDigests}

-- a gap
abbrev pub gap_named : Gap → StreamFault
gap_named (gaps.Past index) = Past index
gap_named gaps.NoConfig = NoConfig
gap_named (gaps.Missing index) = Missing index

-- what a loader found
abbrev pub load_named : LoadFault → StreamFault
load_named (loads.BadRecord index place) = BadRecord index place
load_named (loads.ConfigDiffers ours theirs) = ConfigDiffers
load_named (loads.NotWhole least) = NotWhole least

-- the digests that the loader names are named again
abbrev pub KeepsDigests : Desc → ℕ → List Record → LoadFault → StreamRefusal → Type 0
KeepsDigests D s records fault refusal = HasDigests D s records fault → NamesDigests D s records refusal
