-- One wanted entry after another, until none is wanted: each takes room, and the room of a run is bounded.
use Rattle.std.proofs.Common.{◌≡◌, ℕ, zero, suc, ◌+◌, ◌≤◌, ◌&&◌, Bool, true, false, List, [], ◌∷◌, ◌++◌, length, refl, sym, ap, ◌∙◌, arith}
use Rattle.std.specs.Prelude.{IsTrue}
use Rattle.std.proofs.lemmas.Bool.{false≢true}
use Rattle.std.proofs.lemmas.List.{length-append}
use Rattle.vfm_types.specs.declared.desc.Desc.{Desc}
use Rattle.vfm_types.specs.declared.entry.Entry.{Entry}
use Rattle.vfm_types.specs.declared.entry.Entry.TheVariants.{Issue, Deliver, Complete}
use Rattle.vfm_types.specs.Desc.{device_count}
use Rattle.vfm_types.specs.Valid.{IsValid}
use Rattle.vfm_types.specs.Words.{is_idle}
use Rattle.vfm_plain.specs.Legal.{IsLegal}
use Rattle.vfm_parts.specs.Parts.{parts_in}
use Rattle.vfm_parts.specs.PartsOf.{world_of}
use Rattle.vfm_parts_laws.specs.EntriesLeft.{entries_left, room_of_run}
use Rattle.vfm_parts_laws.proofs.RoomWorlds.{list_short}
use Rattle.vfm_quiet.specs.declared.want.Want.{Want}
use Rattle.vfm_quiet.specs.declared.want.Want.TheVariants.{Do, Done, Wait}
use Rattle.vfm_quiet.specs.Order.{next_want}
use Rattle.vfm_order.specs.Coordinator.{AllIdle, is_coordinators}
use Rattle.vfm_order.specs.LookAfter.{look_after}
use Rattle.vfm_order.proofs.Motion.{rest_moves}
use Rattle.vfm_order.proofs.Still.{idle_rests}
use Rattle.vfm_order.proofs.Wants.{want_made}
use Rattle.vfm_endings.specs.Following.{ComesToEnd, Follows}

-- an entry of the coordinator leaves every device as idle as it was
idle_kept : (D : Desc) (past : List Entry) (entry : Entry) → is_coordinators entry ≡ true → AllIdle D past → AllIdle D (entry ∷ past)
idle_kept D past (Issue d n) own idle = absurd (false≢true own)
idle_kept D past (Deliver d n) own idle = absurd (false≢true own)
idle_kept D past (Complete d n) own idle = absurd (false≢true own)
idle_kept D past entry own idle = idle

-- a legal list is no longer than the room of a run
short : (D : Desc) (past : List Entry) → IsValid D → IsLegal D past → length past ≤ room_of_run D
short D past valid legal =
    let all : length past + entries_left D (parts_in (world_of D past)) ≤ room_of_run D = list_short D past valid legal in
    omega (arith, all)

-- the order wants an entry, or all is done
wanted : (D : Desc) (past : List Entry) (n : ℕ) (made : List Entry) → IsValid D → Follows D past n made → IsLegal D (made ++ past)
    → AllIdle D (made ++ past)
    → ((entry : Entry) → next_want D (look_after D (made ++ past)) n ≡ Do entry → ComesToEnd D past n)
    → ComesToEnd D past n
wanted D past n made valid follows legal idle next = by (next_want D (look_after D (made ++ past)) n) refl
  where
    by : (want : Want) → next_want D (look_after D (made ++ past)) n ≡ want → ComesToEnd D past n
    by Done is =
        let all : length (made ++ past) ≤ room_of_run D = short D (made ++ past) valid legal in
        record {
          made = made;
          follows = follows;
          legal = legal;
          done = is;
          few = omega (arith, all, length-append made past);
        }
    by Wait is = absurd (rest_moves D (made ++ past) n valid legal (idle_rests D (made ++ past) idle) is)
    by (Do entry) is = next entry is

-- with so much room left
with_room : (room : ℕ) (D : Desc) (past : List Entry) (n : ℕ) (made : List Entry) → IsValid D → Follows D past n made → IsLegal D (made ++ past)
    → AllIdle D (made ++ past) → room_of_run D ≤ length (made ++ past) + room → ComesToEnd D past n
with_room zero D past n made valid follows legal idle enough =
    wanted D past n made valid follows legal idle (λ entry is.
    let meets = want_made D valid (made ++ past) legal n entry is in
    let longer : suc (length (made ++ past)) ≤ room_of_run D = short D (entry ∷ made ++ past) valid (meets.0.0, meets.0.1, legal) in
    absurd (omega (arith, longer)))
with_room (suc room) D past n made valid follows legal idle enough =
    wanted D past n made valid follows legal idle (λ entry is.
    let meets = want_made D valid (made ++ past) legal n entry is in
    with_room room D past n (entry ∷ made) valid (is, follows) (meets.0.0, meets.0.1, legal) (idle_kept D (made ++ past) entry meets.1 idle) (omega arith))

pub ends : (D : Desc) (past : List Entry) (abort_after : ℕ) → IsValid D → IsLegal D past → AllIdle D past → ComesToEnd D past abort_after
ends D past n valid legal idle = with_room (room_of_run D) D past n [] valid tt legal idle (omega arith)
