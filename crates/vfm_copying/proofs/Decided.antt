-- Before the joint stop: a device that has reported since the newest pass began has a move that isn't decided, and a device
-- that is held or stopped has one that is.
use Rattle.std.proofs.Common.{◌≡◌, ℕ, ◌==◌, Bool, true, false, not, ◌&&◌, ◌||◌, if◌then◌else◌, List, [], ◌∷◌, nat_lt, nat_le, Option, Some, None, is_none, refl, ap, subst, ⊎_elim}
use Rattle.std.proofs.lemmas.Bool.{and_parts, and_right, or_cases, or_left, or_right, not-true, false≢true, true≢false, both_ways}
use Rattle.vfm_types.specs.declared.desc.Desc.{Desc}
use Rattle.vfm_types.specs.declared.entry.Entry.{Entry}
use Rattle.vfm_types.specs.declared.entry.Entry.TheVariants.{Hold, Arc, Report, Pass, Copy, Block, Dry, Joint, Abort, Resume}
use Rattle.vfm_types.specs.declared.state.MigState.{MigState}
use Rattle.vfm_types.specs.declared.state.MigState.TheVariants.{PreCopy}
use Rattle.vfm_types.specs.State.{has_pre_copy}
use Rattle.vfm_types.specs.Desc.{device_count, shape_at}
use Rattle.vfm_types.specs.Paths.{same_state}
use Rattle.vfm_base.specs.Least.{all_below}
use Rattle.vfm_types.specs.Phases.{is_joint, is_aborted, is_resumed, is_last_begun, pass_count}
use Rattle.vfm_types.specs.Arcs.{state_of, hold_of, is_stopped}
use Rattle.vfm_types.specs.Marks.{has_reported, next_copy, set_size}
use Rattle.vfm_types.specs.Blocks.{next_part, is_no_pass_open}
use Rattle.vfm_types.specs.Words.{is_decided}
use Rattle.vfm_plain.specs.Legal.{IsLegal}
use Rattle.vfm_laws.proofs.Rising.{by_bool}
use Rattle.vfm_laws.proofs.Conditions.{OpenWay, ArcWay, early, held, final, homeward, outward, arc_met, arc_way, resume_met}
use Rattle.vfm_copying.proofs.Conditions.{pass_parts, report_parts, copy_parts, block_parts, dry_parts, hold_decided}

-- a pass is open where a page or a part is due
pub open_copy : (D : Desc) (past : List Entry) (p : ℕ) → next_copy D past ≡ Some p → is_no_pass_open D past ≡ false
open_copy D past p next = ap (λ (o : Option ℕ). is_none o && is_none (next_part D past)) next

pub open_part : (D : Desc) (past : List Entry) (d : ℕ) → next_part D past ≡ Some d → is_no_pass_open D past ≡ false
open_part D past d part = and_right (is_none (next_copy D past)) (is_none (next_part D past)) (ap (λ (o : Option ℕ). is_none o) part)

-- a report that counts for the next pass was made after the newest one ended, and with nothing decided
pub reported_undecided : (D : Desc) (past : List Entry) → IsLegal D past → is_joint past ≡ false → (d : ℕ) → has_reported d past ≡ true
    → (is_no_pass_open D past ≡ true) × (is_decided D past ≡ false)
reported_undecided D [] legal apart d reported = absurd (false≢true reported)
reported_undecided D (Report e ∷ past) legal apart d reported =
    let met = report_parts D past e legal.1 in (
      met.ended,
      not-true (is_decided D past)
          (subst (λ (b : Bool). (if b then not (is_last_begun past) else not (is_decided D past)) ≡ true) apart met.wanted),
    )
reported_undecided D (Pass k ∷ past) legal apart d reported = absurd (false≢true reported)
reported_undecided D (Copy p ∷ past) legal apart d reported =
    absurd (both_ways (is_no_pass_open D past) (open_copy D past p (copy_parts D past p legal.1).next) (reported_undecided D past legal.2 apart d reported).0)
reported_undecided D (Block e b ∷ past) legal apart d reported =
    absurd (both_ways (is_no_pass_open D past) (open_part D past e (block_parts D past e b legal.1).part) (reported_undecided D past legal.2 apart d reported).0)
reported_undecided D (Dry e ∷ past) legal apart d reported =
    absurd (both_ways (is_no_pass_open D past) (open_part D past e (dry_parts D past e legal.1).part) (reported_undecided D past legal.2 apart d reported).0)
reported_undecided D (Joint ∷ past) legal apart d reported = absurd (true≢false apart)
reported_undecided D (entry ∷ past) legal apart d reported = reported_undecided D past legal.2 apart d reported

-- device d is held or stopped
abbrev pub is_halting : ℕ → List Entry → Bool
is_halting d past = not (is_none (hold_of d past)) || is_stopped (state_of d past)

-- the destination takes over only after the joint stop
pub resumed_joint : (D : Desc) (past : List Entry) → IsLegal D past → is_resumed past ≡ true → is_joint past ≡ true
resumed_joint D [] legal over = absurd (false≢true over)
resumed_joint D (Resume ∷ past) legal over = (resume_met D past legal.1).0
resumed_joint D (Joint ∷ past) legal over = refl
resumed_joint D (entry ∷ past) legal over = resumed_joint D past legal.2 over

-- a way to a stopped state is open for a device that is held or stopped
halting_way : (past : List Entry) (d : ℕ) (to : MigState) → OpenWay past d to → is_stopped to ≡ true → is_halting d past ≡ true
halting_way past d to (early running is) stopped = absurd (both_ways (is_stopped to) (ap is_stopped is) stopped)
halting_way past d to (held is) stopped = or_left (not (is_none (hold_of d past))) (is_stopped (state_of d past)) (ap (λ (o : Option MigState). not (is_none o)) is)
halting_way past d to (final stop is) stopped = or_right (not (is_none (hold_of d past))) (is_stopped (state_of d past)) (ap is_stopped stop)

halting_arc : (D : Desc) (past : List Entry) (d : ℕ) (to : MigState) → IsLegal D past → is_joint past ≡ false → is_aborted past ≡ false
    → ArcWay D past d to → is_stopped to ≡ true → is_halting d past ≡ true
halting_arc D past d to legal apart going (homeward over away is) stopped =
    ⊎_elim (λ (gone : is_aborted past ≡ true). absurd (both_ways (is_aborted past) going gone))
    (λ (taken_over : is_resumed past ≡ true). absurd (both_ways (is_joint past) apart (resumed_joint D past legal taken_over)))
    (or_cases (is_aborted past) (is_resumed past) over)
halting_arc D past d to legal apart going (outward over way) stopped = halting_way past d to way stopped

arc_decided : (D : Desc) (past : List Entry) (e d : ℕ) (to : MigState) → IsLegal D (Arc e to ∷ past) → is_joint past ≡ false → is_aborted past ≡ false
    → ((k : ℕ) → is_halting k past ≡ true → is_decided D past ≡ true) → is_halting d (Arc e to ∷ past) ≡ true → is_decided D past ≡ true
arc_decided D past e d to legal apart going before halting =
    by_bool (e == d)
    (λ b. (not (is_none (if b then None else hold_of d past)) || is_stopped (if b then to else state_of d past)) ≡ true → is_decided D past ≡ true)
    (λ same h. before e (halting_arc D past e to legal.2 apart going (arc_way D past e to (arc_met D past e to legal.1).1) h))
    (λ other h. before d h) halting

-- what is decided in an open pass is that no pass is wanted
still_decided : (D : Desc) (past : List Entry) (rest : Bool) → is_no_pass_open D past ≡ false → is_decided D past ≡ true → ((D.rounds == 0) || rest) ≡ true
still_decided D past rest open_ decided =
    ⊎_elim (λ (none : (D.rounds == 0) ≡ true). or_left (D.rounds == 0) rest none)
    (λ (few : (nat_lt 0 (pass_count past) && is_no_pass_open D past && (nat_le D.rounds (pass_count past) || nat_le (set_size D past) D.threshold)) ≡ true).
    absurd (both_ways (is_no_pass_open D past) open_
    (and_parts (nat_lt 0 (pass_count past)) (is_no_pass_open D past)
    (and_parts (nat_lt 0 (pass_count past) && is_no_pass_open D past) (nat_le D.rounds (pass_count past) || nat_le (set_size D past) D.threshold) few).0).1))
    (or_cases (D.rounds == 0) (nat_lt 0 (pass_count past) && is_no_pass_open D past && (nat_le D.rounds (pass_count past) || nat_le (set_size D past) D.threshold)) decided)

-- whether it is decided once a pass has ended
abbrev is_enough : Desc → List Entry → Bool
is_enough D past = nat_lt 0 (pass_count past) && is_no_pass_open D past && (nat_le D.rounds (pass_count past) || nat_le (set_size D past) D.threshold)

-- a device is held or stopped only where that is decided
pub halting_decided : (D : Desc) (past : List Entry) → IsLegal D past → is_joint past ≡ false → is_aborted past ≡ false → (d : ℕ) → is_halting d past ≡ true
    → is_decided D past ≡ true
halting_decided D [] legal apart going d halting = absurd (false≢true halting)
halting_decided D (Hold e to ∷ past) legal apart going d halting = hold_decided D past e to legal.1
halting_decided D (Arc e to ∷ past) legal apart going d halting =
    arc_decided D past e d to legal apart going (λ k h. halting_decided D past legal.2 apart going k h) halting
halting_decided D (Pass k ∷ past) legal apart going d halting =
    let wanted = subst
    (λ (b : Bool). (if b then not (is_last_begun past) else not (is_decided D past)
    && (not (k == 1) || all_below (device_count D) (λ e. not (has_pre_copy (shape_at D e).flags) || same_state (state_of e past) PreCopy))) ≡ true)
    apart (pass_parts D past k legal.1).wanted in
    absurd (both_ways (is_decided D past) (not-true (is_decided D past) (and_parts (not (is_decided D past))
    (not (k == 1) || all_below (device_count D) (λ e. not (has_pre_copy (shape_at D e).flags) || same_state (state_of e past) PreCopy)) wanted).0)
    (halting_decided D past legal.2 apart going d halting))
halting_decided D (Copy p ∷ past) legal apart going d halting =
    still_decided D past (is_enough D (Copy p ∷ past)) (open_copy D past p (copy_parts D past p legal.1).next) (halting_decided D past legal.2 apart going d halting)
halting_decided D (Block e b ∷ past) legal apart going d halting =
    still_decided D past (is_enough D (Block e b ∷ past)) (open_part D past e (block_parts D past e b legal.1).part) (halting_decided D past legal.2 apart going d halting)
halting_decided D (Dry e ∷ past) legal apart going d halting =
    still_decided D past (is_enough D (Dry e ∷ past)) (open_part D past e (dry_parts D past e legal.1).part) (halting_decided D past legal.2 apart going d halting)
halting_decided D (Joint ∷ past) legal apart going d halting = absurd (true≢false apart)
halting_decided D (Abort ∷ past) legal apart going d halting = absurd (true≢false going)
halting_decided D (Resume ∷ past) legal apart going d halting = absurd (both_ways (is_joint past) apart (resume_met D past legal.1).0)
halting_decided D (entry ∷ past) legal apart going d halting = halting_decided D past legal.2 apart going d halting
