-- Lists after which no entry of the coordinator but Abort may be made, from each kind of entry.
use Rattle.std.proofs.Common.{◌≡◌, ◌≢◌, ℕ, ◌+◌, ◌==◌, nat_lt, ◌&&◌, not, true, false, List, [], ◌∷◌, IsTrue, refl, sym, ◌∙◌, is_none}
use Rattle.std.proofs.lemmas.Bool.{and_parts, false≢true, true≢false, not-true}
use Rattle.vfm_types.specs.declared.desc.Desc.{Desc}
use Rattle.vfm_types.specs.declared.entry.Entry.{Entry}
use Rattle.vfm_types.specs.declared.entry.Entry.TheVariants.{Issue, Deliver, Complete, Hold, Arc, Fail, Report, Pass, Copy, Block, Dry, Begin, Joint, Abort, Resume}
use Rattle.vfm_types.specs.declared.entry.Rule.TheVariants.{Path, Quiet, Start, Pages, Blocks, Decide, Order, Joint as Standing}
use Rattle.vfm_types.specs.declared.state.MigState.{MigState}
use Rattle.vfm_types.specs.declared.state.MigState.TheVariants.{StopCopy}
use Rattle.vfm_types.specs.Phases.{is_begun, is_joint, is_aborted, is_resumed, is_on}
use Rattle.vfm_types.specs.Desc.{shape_at}
use Rattle.vfm_types.specs.Paths.{same_state, next_towards}
use Rattle.vfm_types.specs.Arcs.{arc_count, hold_of, state_of, is_stopped}
use Rattle.vfm_types.specs.Words.{is_decided, is_way_open, all_stand_in}
use Rattle.vfm_plain.specs.ArcRules.{is_quiet_for_arc, is_right_arc, may_take_arcs}
use Rattle.vfm_plain.specs.FailRules.{is_right_fail}
use Rattle.vfm_plain.specs.HoldRules.{may_be_held, is_next_to_stop_copy, is_quiet_for_hold}
use Rattle.vfm_plain.specs.ReportRules.{may_report_log}
use Rattle.vfm_plain.specs.PassRules.{is_next_pass, is_pass_wanted}
use Rattle.vfm_plain.specs.CopyRules.{is_copy_due}
use Rattle.vfm_plain.specs.BlockRules.{is_block_due}
use Rattle.vfm_plain.specs.DryRules.{is_dry_due}
use Rattle.vfm_plain.specs.BeginRules.{is_before_move, may_begin_move}
use Rattle.vfm_plain.specs.JointRules.{is_before_joint}
use Rattle.vfm_plain.specs.ResumeRules.{is_state_copied}
use Rattle.vfm_laws.proofs.Conditions.{met}
use Rattle.vfm_order.specs.Coordinator.{is_coordinators, MayMake}

-- no entry of these kinds may be made
pub record Barred (D : Desc) (past : List Entry) : Type 0 where
  pub no_hold : (d : ℕ) (to : MigState) → MayMake D past (Hold d to) → ⊥
  pub no_arc : (d : ℕ) (to : MigState) → MayMake D past (Arc d to) → ⊥
  pub no_fail : (d : ℕ) (to : MigState) → MayMake D past (Fail d to) → ⊥
  pub no_report : (d : ℕ) → MayMake D past (Report d) → ⊥
  pub no_pass : (k : ℕ) → MayMake D past (Pass k) → ⊥
  pub no_copy : (p : ℕ) → MayMake D past (Copy p) → ⊥
  pub no_block : (d b : ℕ) → MayMake D past (Block d b) → ⊥
  pub no_dry : (d : ℕ) → MayMake D past (Dry d) → ⊥
  pub no_begin : MayMake D past Begin → ⊥
  pub no_joint : MayMake D past Joint → ⊥
  pub no_resume : MayMake D past Resume → ⊥

pub all_barred : (D : Desc) (past : List Entry) → Barred D past → (entry : Entry) → IsTrue (is_coordinators entry) → entry ≢ Abort → MayMake D past entry → ⊥
all_barred D past barred (Issue d n) own other made = false≢true own
all_barred D past barred (Deliver d n) own other made = false≢true own
all_barred D past barred (Complete d n) own other made = false≢true own
all_barred D past barred (Hold d to) own other made = barred.no_hold d to made
all_barred D past barred (Arc d to) own other made = barred.no_arc d to made
all_barred D past barred (Fail d to) own other made = barred.no_fail d to made
all_barred D past barred (Report d) own other made = barred.no_report d made
all_barred D past barred (Pass k) own other made = barred.no_pass k made
all_barred D past barred (Copy p) own other made = barred.no_copy p made
all_barred D past barred (Block d b) own other made = barred.no_block d b made
all_barred D past barred (Dry d) own other made = barred.no_dry d made
all_barred D past barred Begin own other made = barred.no_begin made
all_barred D past barred Joint own other made = barred.no_joint made
all_barred D past barred Abort own other made = other refl
all_barred D past barred Resume own other made = barred.no_resume made

-- where the move isn't on, arcs and Begin alone are left
pub off_barred : (D : Desc) (past : List Entry) → is_on past ≡ false → ((d : ℕ) (to : MigState) → MayMake D past (Arc d to) → ⊥)
    → ((d : ℕ) (to : MigState) → MayMake D past (Fail d to) → ⊥) → (MayMake D past Begin → ⊥) → Barred D past
off_barred D past off no_arc no_fail no_begin =
    record {
      no_hold = λ d to made.
          on_not
          (and_parts (is_on past) (not (is_joint past))
          (and_parts (is_on past && not (is_joint past)) (is_none (hold_of d past))
          (met (may_be_held d past) Order ((is_decided D past, Decide) ∷ (is_next_to_stop_copy D d to past, Path) ∷ (is_quiet_for_hold D to past, Quiet) ∷ []) made.1).0).0).0;
      no_arc = no_arc;
      no_fail = no_fail;
      no_report = λ d made. on_not (met (is_on past) Order ((may_report_log D d past, Pages) ∷ []) made.1).0;
      no_pass = λ k made. on_not (met (is_on past) Order ((is_next_pass D k past, Pages) ∷ (is_pass_wanted D k past, Decide) ∷ []) made.1).0;
      no_copy = λ p made. on_not (met (is_on past) Order ((is_copy_due D p past, Pages) ∷ []) made.1).0;
      no_block = λ d b made. on_not (met (is_on past) Order ((is_block_due D d b past, Blocks) ∷ []) made.1).0;
      no_dry = λ d made. on_not (met (is_on past) Order ((is_dry_due D d past, Blocks) ∷ []) made.1).0;
      no_begin = no_begin;
      no_joint = λ made.
          on_not (and_parts (is_on past) (not (is_joint past)) (met (is_before_joint past) Order ((all_stand_in D StopCopy past, Standing) ∷ []) made.1).0).0;
      no_resume = λ made. on_not (met (is_on past) Order ((is_state_copied D past, Standing) ∷ []) made.1).0;
    }
  where
    on_not : is_on past ≡ true → ⊥
    on_not on_ = true≢false (sym on_ ∙ off)

-- what Begin asks for
pub begin_met : (D : Desc) (past : List Entry) → MayMake D past Begin → (is_begun past ≡ false) × (is_aborted past ≡ false) × (is_resumed past ≡ false) × (may_begin_move D past ≡ true)
begin_met D past made =
    let first = met (is_before_move past) Order ((may_begin_move D past, Start) ∷ []) made.1 in
    let two = and_parts (not (is_begun past) && not (is_aborted past)) (not (is_resumed past)) first.0 in
    let one = and_parts (not (is_begun past)) (not (is_aborted past)) two.0 in (
      not-true (is_begun past) one.0,
      not-true (is_aborted past) one.1,
      not-true (is_resumed past) two.1,
      (met (may_begin_move D past) Start [] first.1).0,
    )

-- what an arc asks for, and one that fails
pub arc_rules : (D : Desc) (past : List Entry) (d : ℕ) (to : MigState) → MayMake D past (Arc d to)
    → (may_take_arcs past ≡ true) × (is_right_arc D d to past ≡ true) × (is_quiet_for_arc D d to past ≡ true)
arc_rules D past d to made =
    let order = met (may_take_arcs past) Order ((is_right_arc D d to past, Path) ∷ (is_quiet_for_arc D d to past, Quiet) ∷ []) made.1 in
    let right = met (is_right_arc D d to past) Path ((is_quiet_for_arc D d to past, Quiet) ∷ []) order.1 in
    (order.0, right.0, (met (is_quiet_for_arc D d to past) Quiet [] right.1).0)

pub fail_rules : (D : Desc) (past : List Entry) (d : ℕ) (to : MigState) → MayMake D past (Fail d to)
    → (is_way_open D d to past ≡ true) × (is_quiet_for_arc D d to past ≡ true)
fail_rules D past d to made =
    let order = met (may_take_arcs past) Order ((is_right_fail D d to past, Path) ∷ (is_quiet_for_arc D d to past, Quiet) ∷ []) made.1 in
    let right = met (is_right_fail D d to past) Path ((is_quiet_for_arc D d to past, Quiet) ∷ []) order.1 in
    let four = not (is_aborted past) && not (is_resumed past) && is_way_open D d to past && nat_lt 0 (shape_at D d).fails in
    let three = (and_parts four (arc_count d past + 1 == (shape_at D d).fails) right.0).0 in
    let two = (and_parts (not (is_aborted past) && not (is_resumed past) && is_way_open D d to past) (nat_lt 0 (shape_at D d).fails) three).0 in
    ((and_parts (not (is_aborted past) && not (is_resumed past)) (is_way_open D d to past) two).1, (met (is_quiet_for_arc D d to past) Quiet [] right.1).0)

-- what a hold asks for
pub record HoldRules (D : Desc) (past : List Entry) (d : ℕ) (to : MigState) : Type 0 where
  pub free : is_none (hold_of d past) ≡ true
  pub awake : not (is_stopped (state_of d past)) ≡ true
  pub next : same_state to (next_towards (state_of d past) StopCopy (shape_at D d).flags) ≡ true
  pub quiet : is_quiet_for_hold D to past ≡ true

pub hold_rules : (D : Desc) (past : List Entry) (d : ℕ) (to : MigState) → MayMake D past (Hold d to) → HoldRules D past d to
hold_rules D past d to made =
    let order = met (may_be_held d past) Order ((is_decided D past, Decide) ∷ (is_next_to_stop_copy D d to past, Path) ∷ (is_quiet_for_hold D to past, Quiet) ∷ []) made.1 in
    let decided = met (is_decided D past) Decide ((is_next_to_stop_copy D d to past, Path) ∷ (is_quiet_for_hold D to past, Quiet) ∷ []) order.1 in
    let path = met (is_next_to_stop_copy D d to past) Path ((is_quiet_for_hold D to past, Quiet) ∷ []) decided.1 in
    let parts = and_parts (not (is_stopped (state_of d past))) (same_state to (next_towards (state_of d past) StopCopy (shape_at D d).flags)) path.0 in
    record {
      free = (and_parts (is_on past && not (is_joint past)) (is_none (hold_of d past)) order.0).1;
      awake = parts.0;
      next = parts.1;
      quiet = (met (is_quiet_for_hold D to past) Quiet [] path.1).0;
    }
