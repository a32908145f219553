-- The coordinator's order: what is to be done next, read off a look.
use Rattle.std.specs.Prelude.{ℕ, ◌+◌, ◌==◌, ◌&&◌, ◌||◌, not, Bool, nat_lt, nat_le, if◌then◌else◌, List, [], ◌∷◌, Option, Some, None}
use Rattle.vfm_types.specs.declared.desc.Desc.{Desc}
use Rattle.vfm_types.specs.declared.entry.Entry.{Entry}
use Rattle.vfm_types.specs.declared.entry.Entry.TheVariants.{Hold, Arc, Report, Pass, Copy, Block, Dry, Begin, Joint, Abort}
use Rattle.vfm_types.specs.declared.state.MigState.TheVariants.{Running, StopCopy, PreCopy}
use Rattle.vfm_base.specs.Least.{all_below, least_below}
use Rattle.vfm_quiet.specs.declared.move_look.MoveLook.{MoveLook}
use Rattle.vfm_quiet.specs.declared.want.Want.{Want}
use Rattle.vfm_quiet.specs.declared.want.Want.TheVariants.{Do, Wait, Done}
use Rattle.vfm_quiet.specs.Seen.{sees_reported, sees_all_in, sees_warm, sees_decided, next_seen, arc_or_fail, may_go_home, may_enter_pre_copy, may_be_held, way_out_of, may_go_out}

-- the entry for this number, if there is one, or else another want
abbrev pub do_for : (ℕ → Entry) → Option ℕ → Want → Want
do_for entry None other = other
do_for entry (Some d) other = Do (entry d)

-- the pass after which the source is to give up has begun, or a later one, and the newest has ended
abbrev pub is_abort_asked : MoveLook → ℕ → Bool
is_abort_asked look abort_after = nat_lt 0 abort_after && nat_le abort_after look.passes && look.ended

-- home: the least device that may take an arc towards RUNNING, until all are there
abbrev pub way_home : Desc → MoveLook → Want
way_home D look =
    do_for (λ d. Arc d (next_seen D look d Running)) (least_below look.count (λ d. may_go_home look d))
    (if sees_all_in look Running then Done else Wait)

-- before the move: it begins once each device has completed enough or is idle
abbrev pub beginning : Desc → MoveLook → Want
beginning D look = if all_below look.count (λ d. sees_warm D look d) then Do Begin else Wait

-- the block of the device that is due, or that it has none
abbrev pub part_of_pass : Option ℕ → Option ℕ → Want
part_of_pass None block = Wait
part_of_pass (Some d) None = Do (Dry d)
part_of_pass (Some d) (Some b) = Do (Block d b)

-- in a pass: its pages, then the blocks of the devices that have a part in it
abbrev pub rest_of_pass : MoveLook → Want
rest_of_pass look = do_for Copy look.next_copy (part_of_pass look.part look.next_block)

-- the first pass, once the devices that have PRE_COPY are in it
abbrev pub first_pass : Desc → MoveLook → Want
first_pass D look =
    do_for (λ d. arc_or_fail D look d PreCopy) (least_below look.count (λ d. may_enter_pre_copy D look d)) (Do (Pass 1))

-- another pass, once each device has reported
abbrev pub another_pass : MoveLook → Want
another_pass look =
    do_for Report (least_below look.count (λ d. not (sees_reported look d))) (Do (Pass (look.passes + 1)))

-- to STOP_COPY: holds come first, then arcs, and Joint once all are there
abbrev pub way_out : Desc → MoveLook → Want
way_out D look =
    do_for (λ d. Hold d (next_seen D look d StopCopy)) (least_below look.count (λ d. may_be_held D look d))
    (do_for (λ d. arc_or_fail D look d (way_out_of look d)) (least_below look.count (λ d. may_go_out look d))
    (if sees_all_in look StopCopy then Do Joint else Wait))

-- the last pass; where it is the first, nothing is reported before
abbrev pub last_pass : MoveLook → Want
last_pass look = if look.passes == 0 then Do (Pass 1) else another_pass look

-- the order: when each line applies, and what is to be done then
abbrev pub lines : Desc → MoveLook → ℕ → List (Bool × Want)
lines D look abort_after =
    (look.aborted || look.resumed, way_home D look)
    ∷ (look.failed, Do Abort)
    ∷ (is_abort_asked look abort_after, Do Abort)
    ∷ (not look.begun, beginning D look)
    ∷ (not look.ended, rest_of_pass look)
    ∷ (not look.joint && nat_lt 0 D.rounds && look.passes == 0, first_pass D look)
    ∷ (not look.joint && not (sees_decided D look), another_pass look)
    ∷ (not look.joint, way_out D look)
    ∷ (not look.last, last_pass look)
    ∷ []

-- the first line that applies; where none does, all is done
abbrev pub first_line : List (Bool × Want) → Want
first_line [] = Done
first_line (line ∷ others) = if line.0 then line.1 else first_line others

-- what is to be done next
abbrev pub next_want : Desc → MoveLook → ℕ → Want
next_want D look abort_after = first_line (lines D look abort_after)
