-- What links report, one by one and all those of two ends.
use Rattle.std.specs.Prelude.{◌≡◌, ℕ, ◌+◌, ◌==◌, ◌&&◌, ◌||◌, nat_lt, Bool, false, Option, Result, Ok, Err, List, length, All, sum_by}
use Rattle.vfm_outside.specs.Told.{TellsNone}

-- whether the end has been received after a receipt that gave so many bytes into a buffer with this room
abbrev pub ended_after : {E : Type 0} → Result ℕ E → ℕ → Bool → Bool
ended_after (Ok n) room before = before || (n == 0 && nat_lt 0 room)
ended_after (Err e) room before = before

-- what one link reports
pub record Told : Type 0 where
  pub ended : Bool
  pub failed_out : ℕ
  pub failed_in : ℕ
  pub sent : Option (List ℕ)
  pub received : Option (List ℕ)

-- what the links of the two ends report
pub record ToldEnds : Type 0 where
  pub source_control : Told
  pub source : List Told
  pub dest_control : Told
  pub dest : List Told

-- the faults of a link, of both its directions
abbrev pub link_faults : Told → ℕ
link_faults link = link.failed_out + link.failed_in

-- the faults of all the links of the two ends
abbrev pub ends_faults : ToldEnds → ℕ
ends_faults ends =
    link_faults ends.source_control + sum_by link_faults ends.source
    + (link_faults ends.dest_control + sum_by link_faults ends.dest)

-- a new link: it has sent and received nothing, hasn't ended and has no faults
pub record IsNew (link : Told) : Type 0 where
  pub ended : link.ended ≡ false
  pub failed_out : link.failed_out ≡ 0
  pub failed_in : link.failed_in ≡ 0
  pub sent : TellsNone link.sent
  pub received : TellsNone link.received

-- for each end a new control link and so many new channels
pub record AreNew (channels : ℕ) (ends : ToldEnds) : Type 0 where
  pub source_count : length ends.source ≡ channels
  pub dest_count : length ends.dest ≡ channels
  pub source_control : IsNew ends.source_control
  pub source : All IsNew ends.source
  pub dest_control : IsNew ends.dest_control
  pub dest : All IsNew ends.dest
