-- What the order wants along a journal.
use Rattle.std.specs.Prelude.{◌≡◌, ℕ, List, [], ◌∷◌, reverse, take, drop}
use Rattle.vfm_types.specs.declared.desc.Desc.{Desc}
use Rattle.vfm_types.specs.declared.entry.Entry.{Entry}
use Rattle.vfm_types.specs.declared.entry.Entry.TheVariants.{Issue, Deliver, Complete, Resume}
use Rattle.vfm_quiet.specs.declared.want.Want.{Want}
use Rattle.vfm_quiet.specs.declared.want.Want.TheVariants.{Do, Done}
use Rattle.vfm_quiet.specs.Order.{next_want}
use Rattle.vfm_order.specs.LookAfter.{look_after}

-- What the order wants wherever the coordinator makes an entry of a journal, oldest first, after what stood before it,
-- newest first; and what it wants after all.
abbrev pub wants_along : Desc → ℕ → List Entry → List Entry → List Want
wants_along D abort_after past [] = next_want D (look_after D past) abort_after ∷ []
wants_along D abort_after past (Issue d n ∷ entries) = wants_along D abort_after (Issue d n ∷ past) entries
wants_along D abort_after past (Deliver d n ∷ entries) = wants_along D abort_after (Deliver d n ∷ past) entries
wants_along D abort_after past (Complete d n ∷ entries) = wants_along D abort_after (Complete d n ∷ past) entries
wants_along D abort_after past (entry ∷ entries) =
    next_want D (look_after D past) abort_after ∷ wants_along D abort_after (entry ∷ past) entries

-- Each entry that the coordinator makes in a journal, as what was wanted, and what is wanted after all. The destination
-- takes over where all is done.
abbrev pub made_along : List Entry → Want → List Want
made_along [] last = last ∷ []
made_along (Issue d n ∷ entries) last = made_along entries last
made_along (Deliver d n ∷ entries) last = made_along entries last
made_along (Complete d n ∷ entries) last = made_along entries last
made_along (Resume ∷ entries) last = Done ∷ made_along entries last
made_along (entry ∷ entries) last = Do entry ∷ made_along entries last

-- From this place on, whatever the coordinator makes in a journal is what the order wants there, and all is done after it.
abbrev pub IsOrderedFrom : Desc → ℕ → List Entry → Type 0
IsOrderedFrom D place journal =
    wants_along D 0 (reverse (take place journal)) (drop place journal) ≡ made_along (drop place journal) Done

-- the whole journal is so
abbrev pub IsOrdered : Desc → List Entry → Type 0
IsOrdered D journal = IsOrderedFrom D 0 journal
