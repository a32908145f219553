-- How far the move as a whole has come, read off a list of entries. Every fact of a list takes what stands in it
-- newest first: the head is the last entry made, the tail is what stood before it.
use Rattle.std.specs.Prelude.{ℕ, ◌+◌, ◌&&◌, not, Bool, true, false, List, [], ◌∷◌}
use Rattle.vfm_types.specs.declared.entry.Entry.{Entry}
use Rattle.vfm_types.specs.declared.entry.Entry.TheVariants.{Fail, Pass, Begin, Joint, Abort, Resume}

-- the move has begun
abbrev pub is_begun : List Entry → Bool
is_begun [] = false
is_begun (Begin ∷ past) = true
is_begun (entry ∷ past) = is_begun past

-- every device was found in STOP_COPY
abbrev pub is_joint : List Entry → Bool
is_joint [] = false
is_joint (Joint ∷ past) = true
is_joint (entry ∷ past) = is_joint past

-- the source gave up
abbrev pub is_aborted : List Entry → Bool
is_aborted [] = false
is_aborted (Abort ∷ past) = true
is_aborted (entry ∷ past) = is_aborted past

-- the destination took over
abbrev pub is_resumed : List Entry → Bool
is_resumed [] = false
is_resumed (Resume ∷ past) = true
is_resumed (entry ∷ past) = is_resumed past

-- an arc failed, and the source hasn't given up since
abbrev pub is_failed : List Entry → Bool
is_failed [] = false
is_failed (Fail d to ∷ past) = true
is_failed (Abort ∷ past) = false
is_failed (entry ∷ past) = is_failed past

-- the move is on: begun, not given up, not taken over, and no arc has failed
abbrev pub is_on : List Entry → Bool
is_on past = is_begun past && not (is_aborted past) && not (is_resumed past) && not (is_failed past)

-- how many copying passes have begun
abbrev pub pass_count : List Entry → ℕ
pass_count [] = 0
pass_count (Pass k ∷ past) = pass_count past + 1
pass_count (entry ∷ past) = pass_count past

-- the last pass has begun: the newest one began after Joint
abbrev pub is_last_begun : List Entry → Bool
is_last_begun [] = false
is_last_begun (Pass k ∷ past) = is_joint past
is_last_begun (entry ∷ past) = is_last_begun past
