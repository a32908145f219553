-- A machine with one page and one device that does nothing, moved by way of PRE_COPY.
use Rattle.std.specs.Prelude.{List, [], ◌∷◌, ◌++◌}
use Rattle.vfm_types.specs.declared.desc.Desc.{Desc}
use Rattle.vfm_types.specs.declared.state.MigState.TheVariants.{Stop, Running, StopCopy, RunningP2p, PreCopy, PreCopyP2p}
use Rattle.vfm_types.specs.declared.entry.Entry.{Entry}
use Rattle.vfm_types.specs.declared.entry.Entry.TheVariants.{Hold, Arc, Report, Pass, Copy, Block, Dry, Begin, Joint, Resume}
use Rattle.vfm_cases.specs.Bare.{bare_device, bare_machine}

abbrev pub lone : Desc
lone = record bare_machine { rounds = 1; devices = bare_device ∷ [] }

abbrev pub lone_source : List Entry
lone_source =
    Begin ∷ Arc 0 PreCopy ∷ Pass 1 ∷ Copy 0 ∷ Block 0 0 ∷ Hold 0 PreCopyP2p ∷ Arc 0 PreCopyP2p ∷ Hold 0 StopCopy
    ∷ Arc 0 StopCopy ∷ Joint ∷ Report 0 ∷ Pass 2 ∷ Dry 0 ∷ []

abbrev pub lone_joined : List Entry
lone_joined = lone_source ++ Resume ∷ Arc 0 Stop ∷ Arc 0 RunningP2p ∷ Arc 0 Running ∷ []
