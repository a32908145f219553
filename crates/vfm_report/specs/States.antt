-- States by their names.
use Rattle.std.specs.Prelude.{ℕ, List, Option, Some, None, if◌then◌else◌}
use Rattle.vfm_types.specs.declared.state.MigState.{MigState}
use Rattle.vfm_types.specs.declared.state.MigState.TheVariants.{Error, Stop, Running, StopCopy, Resuming, RunningP2p, PreCopy, PreCopyP2p}
use Rattle.vfm_plain.specs.Text.{state_name}
use Rattle.vfm_report.specs.Same.{same_text}

-- the state of this name, if there is one
abbrev pub state_named : List ℕ → Option MigState
state_named word =
    if same_text word (state_name Error) then Some Error else
    (if same_text word (state_name Stop) then Some Stop else
    (if same_text word (state_name Running) then Some Running else
    (if same_text word (state_name StopCopy) then Some StopCopy else
    (if same_text word (state_name Resuming) then Some Resuming else
    (if same_text word (state_name RunningP2p) then Some RunningP2p else
    (if same_text word (state_name PreCopy) then Some PreCopy else
    (if same_text word (state_name PreCopyP2p) then Some PreCopyP2p else None)))))))
