-- What a core stands for: the entries of a run, of a machine that was described or of one that was staged.
use Rattle.std.specs.Prelude.{◌≡◌, ℕ, ◌+◌, ◌≤◌, List, [], ◌++◌, length, reverse, Option, None, Some}
use Rattle.vfm_types.specs.declared.desc.Desc.{Desc}
use Rattle.vfm_types.specs.declared.entry.Entry.{Entry}
use Rattle.vfm_types.specs.declared.entry.Entry.TheVariants.{Resume}
use Rattle.vfm_plain.specs.Rules.{fault_of}
use Rattle.vfm_parts.specs.Parts.{World, parts_in}
use Rattle.vfm_parts_laws.specs.EntriesLeft.{entries_left}
use Rattle.vfm_quiet.specs.declared.move_look.MoveLook.{MoveLook}
use Rattle.vfm_quiet.specs.declared.want.Want.{Want}
use Rattle.vfm_quiet.specs.Order.{next_want}
use Rattle.vfm_order.specs.LookAfter.{look_after, staged_look_after}
use Rattle.vfm_core.specs.CoreState.{CoreState, IsAfter, IsStagedOn}

-- All entries of a run, newest first. Its machine began as described (`None`), or was staged after a list (`Some`);
-- since then it made the entries `mine`.
abbrev pub whole : Option (List Entry) → List Entry → List Entry
whole None mine = mine
whole (Some before) mine = mine ++ before

-- The parts are those of such a run, which is legal. Where the machine was staged, it was after a list after which it
-- may be taken over.
abbrev pub IsOn : Desc → Option (List Entry) → List Entry → World → Type 0
IsOn D None mine w = IsAfter D mine w
IsOn D (Some before) mine w = IsStagedOn D before mine w × (fault_of D before Resume ≡ None)

-- the parts are those of some run
pub record HasRun (D : Desc) (w : World) : Type 0 where
  pub origin : Option (List Entry)
  pub mine : List Entry
  pub run : IsOn D origin mine w

-- what a coordinator sees after a run
abbrev pub look_on : Desc → Option (List Entry) → List Entry → MoveLook
look_on D None mine = look_after D mine
look_on D (Some before) mine = staged_look_after D before mine

-- what the order wants after a run
abbrev pub want_on : Desc → Option (List Entry) → List Entry → ℕ → Want
want_on D origin mine abort_after = next_want D (look_on D origin mine) abort_after

-- how many entries are left to a core at most
abbrev pub left_in : CoreState → ℕ
left_in core = entries_left core.desc (parts_in core.world)

-- A run goes on from one core to another: these entries, newest first, stand behind those of the journal, and at least
-- as many fewer are left.
pub record GoesOn (old new : CoreState) (origin : Option (List Entry)) (mine : List Entry) : Type 0 where
  pub more : List Entry
  pub desc : new.desc ≡ old.desc
  pub journal : new.entries ≡ old.entries ++ reverse more
  pub run : IsOn new.desc origin (more ++ mine) new.world
  pub room : length more + left_in new ≤ left_in old

-- the parts are those of a machine that was staged after some list, after which it may be taken over, and that made
-- nothing yet
pub record HasStaged (D : Desc) (w : World) : Type 0 where
  pub before : List Entry
  pub staged : IsStagedOn D before [] w
  pub may : fault_of D before Resume ≡ None
