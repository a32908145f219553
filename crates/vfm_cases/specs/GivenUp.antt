-- The machine with two devices that write into each other, given up in every phase of its move.
use Rattle.std.specs.Prelude.{List, [], ◌∷◌, ◌++◌, take}
use Rattle.vfm_types.specs.declared.state.MigState.TheVariants.{Stop, Running, RunningP2p}
use Rattle.vfm_types.specs.declared.entry.Entry.{Entry}
use Rattle.vfm_types.specs.declared.entry.Entry.TheVariants.{Issue, Deliver, Complete, Arc, Abort}
use Rattle.vfm_cases.specs.Duo.{duo_ordered}

-- before the move begins
abbrev pub given_up_before_begin : List Entry
given_up_before_begin =
    take 2 duo_ordered
    ++ Abort ∷ Deliver 0 0 ∷ Deliver 1 0 ∷ Complete 0 0 ∷ Complete 1 0 ∷ Issue 0 1 ∷ Issue 1 1 ∷ Deliver 0 1
    ∷ Deliver 1 1 ∷ Complete 0 1 ∷ Complete 1 1 ∷ Issue 0 2 ∷ Deliver 0 2 ∷ Issue 1 2 ∷ Complete 0 2 ∷ Deliver 1 2
    ∷ Issue 0 3 ∷ Complete 1 2 ∷ Deliver 0 3 ∷ Complete 0 3 ∷ Issue 0 4 ∷ Deliver 0 4 ∷ Complete 0 4 ∷ Issue 0 5
    ∷ Deliver 0 5 ∷ Complete 0 5 ∷ []

-- with one device in PRE_COPY
abbrev pub given_up_entering : List Entry
given_up_entering =
    take 10 duo_ordered
    ++ Abort ∷ Deliver 0 1 ∷ Deliver 1 1 ∷ Arc 0 Running ∷ Complete 0 1 ∷ Complete 1 1 ∷ Issue 0 2 ∷ Deliver 0 2
    ∷ Issue 1 2 ∷ Complete 0 2 ∷ Deliver 1 2 ∷ Issue 0 3 ∷ Complete 1 2 ∷ Deliver 0 3 ∷ Complete 0 3 ∷ Issue 0 4
    ∷ Deliver 0 4 ∷ Complete 0 4 ∷ Issue 0 5 ∷ Deliver 0 5 ∷ Complete 0 5 ∷ []

-- while the first pass copies
abbrev pub given_up_copying : List Entry
given_up_copying =
    take 21 duo_ordered
    ++ Abort ∷ Complete 0 2 ∷ Deliver 1 2 ∷ Arc 0 Running ∷ Issue 0 3 ∷ Complete 1 2 ∷ Arc 1 Running ∷ Deliver 0 3
    ∷ Complete 0 3 ∷ Issue 0 4 ∷ Deliver 0 4 ∷ Complete 0 4 ∷ Issue 0 5 ∷ Deliver 0 5 ∷ Complete 0 5 ∷ []

-- while the first pass reads blocks
abbrev pub given_up_reading : List Entry
given_up_reading =
    take 29 duo_ordered
    ++ Abort ∷ Complete 0 3 ∷ Arc 0 Running ∷ Issue 0 4 ∷ Arc 1 Running ∷ Deliver 0 4 ∷ Complete 0 4 ∷ Issue 0 5
    ∷ Deliver 0 5 ∷ Complete 0 5 ∷ []

-- between two reports
abbrev pub given_up_reported : List Entry
given_up_reported =
    take 37 duo_ordered
    ++ Abort ∷ Issue 0 5 ∷ Arc 0 Running ∷ Deliver 0 5 ∷ Arc 1 Running ∷ Complete 0 5 ∷ []

-- in the second pass
abbrev pub given_up_second_pass : List Entry
given_up_second_pass =
    take 43 duo_ordered
    ++ Abort ∷ Arc 0 Running ∷ Arc 1 Running ∷ []

-- with both devices held
abbrev pub given_up_held : List Entry
given_up_held =
    take 48 duo_ordered
    ++ Abort ∷ Arc 0 Running ∷ Arc 1 Running ∷ []

-- with both devices in PRE_COPY_P2P
abbrev pub given_up_quiet : List Entry
given_up_quiet =
    take 50 duo_ordered
    ++ Abort ∷ Arc 0 RunningP2p ∷ Arc 0 Running ∷ Arc 1 RunningP2p ∷ Arc 1 Running ∷ []

-- with one device in STOP_COPY
abbrev pub given_up_one_stopped : List Entry
given_up_one_stopped =
    take 53 duo_ordered
    ++ Abort ∷ Arc 0 Stop ∷ Arc 0 RunningP2p ∷ Arc 0 Running ∷ Arc 1 RunningP2p ∷ Arc 1 Running ∷ []

-- with both devices in STOP_COPY
abbrev pub given_up_stopped : List Entry
given_up_stopped =
    take 54 duo_ordered
    ++ Abort ∷ Arc 0 Stop ∷ Arc 0 RunningP2p ∷ Arc 1 Stop ∷ Arc 1 RunningP2p ∷ Arc 0 Running ∷ Arc 1 Running ∷ []

-- after Joint
abbrev pub given_up_joint : List Entry
given_up_joint =
    take 55 duo_ordered
    ++ Abort ∷ Arc 0 Stop ∷ Arc 0 RunningP2p ∷ Arc 1 Stop ∷ Arc 1 RunningP2p ∷ Arc 0 Running ∷ Arc 1 Running ∷ []

-- in the last pass
abbrev pub given_up_last_pass : List Entry
given_up_last_pass =
    take 58 duo_ordered
    ++ Abort ∷ Arc 0 Stop ∷ Arc 0 RunningP2p ∷ Arc 1 Stop ∷ Arc 1 RunningP2p ∷ Arc 0 Running ∷ Arc 1 Running ∷ []

-- after the last pass
abbrev pub given_up_last_ended : List Entry
given_up_last_ended =
    take 61 duo_ordered
    ++ Abort ∷ Arc 0 Stop ∷ Arc 0 RunningP2p ∷ Arc 1 Stop ∷ Arc 1 RunningP2p ∷ Arc 0 Running ∷ Arc 1 Running ∷ []
