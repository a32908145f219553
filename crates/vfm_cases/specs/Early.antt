-- A machine with two devices that do nothing, moved in at most two passes by way of PRE_COPY.
use Rattle.std.specs.Prelude.{List, [], ◌∷◌, ◌++◌}
use Rattle.vfm_types.specs.declared.desc.Desc.{Desc}
use Rattle.vfm_types.specs.declared.state.MigState.TheVariants.{PreCopy, PreCopyP2p}
use Rattle.vfm_types.specs.declared.entry.Entry.{Entry}
use Rattle.vfm_types.specs.declared.entry.Entry.TheVariants.{Hold, Arc, Report, Pass, Copy, Block, Dry, Begin}
use Rattle.vfm_cases.specs.Bare.{bare_device, second_device, bare_machine}

abbrev pub early : Desc
early = record bare_machine { rounds = 2; devices = bare_device ∷ second_device ∷ [] }

-- the first pass begins
abbrev pub early_first : List Entry
early_first = Begin ∷ Arc 0 PreCopy ∷ Arc 1 PreCopy ∷ Pass 1 ∷ []

-- the first pass has ended
abbrev pub early_ended : List Entry
early_ended = early_first ++ Copy 0 ∷ Block 0 0 ∷ Block 1 0 ∷ []

-- the second pass has ended, and the devices are to stop
abbrev pub early_decided : List Entry
early_decided = early_ended ++ Report 0 ∷ Report 1 ∷ Pass 2 ∷ Dry 0 ∷ Dry 1 ∷ []

-- the first device is in PRE_COPY_P2P, the second one still in PRE_COPY
abbrev pub early_half : List Entry
early_half = early_decided ++ Hold 0 PreCopyP2p ∷ Arc 0 PreCopyP2p ∷ []
