-- A run that is brought to its end.
use Rattle.std.proofs.Common.{◌≡◌, ℕ, ◌<◌, ◌&&◌, not, Bool, true, false, nat_lt, if◌then◌else◌, List, [], ◌∷◌, ◌++◌, length, reverse, Option, None, Some, refl, ap, ap₂, sym, ◌∙◌, subst, arith, ltb-true}
use Rattle.std.proofs.lemmas.Bool.{and_parts, or_parts, or_right, true≢false}
use Rattle.std.proofs.lemmas.List.{append_assoc, length-append, length-reverse}
use Rattle.vfm_base.specs.Tests.{first_failed}
use Rattle.vfm_types.specs.declared.desc.Desc.{Desc}
use Rattle.vfm_types.specs.declared.entry.Entry.{Entry}
use Rattle.vfm_types.specs.declared.entry.Entry.TheVariants.{Abort, Begin, Joint, Resume}
use Rattle.vfm_types.specs.declared.entry.Rule.TheVariants.{Order, Joint as Standing}
use Rattle.vfm_types.specs.Phases.{is_aborted, is_begun, is_failed, is_joint, is_last_begun, is_on, is_resumed}
use Rattle.vfm_types.specs.Blocks.{is_no_pass_open}
use Rattle.vfm_types.specs.Words.{all_stand_in}
use Rattle.vfm_types.specs.declared.state.MigState.TheVariants.{StopCopy}
use Rattle.vfm_types.specs.Valid.{IsValid}
use Rattle.vfm_plain.specs.Ended.{has_ended, is_last_ended}
use Rattle.vfm_plain.specs.Legal.{IsLegal}
use Rattle.vfm_plain.specs.Rules.{fault_of}
use Rattle.vfm_laws.proofs.Conditions.{met, resume_met}
use Rattle.vfm_parts.specs.Steps.{fault_on}
use Rattle.vfm_order.specs.Coordinator.{MayMake}
use Rattle.vfm_order.specs.LookAfter.{is_over}
use Rattle.vfm_core.specs.CoreState.{CoreState, FitsDesc, IsStagedOn}
use Rattle.vfm_drive.specs.Endings.{GoesHome, HasGivenUp, HasTakenOver}
use Rattle.vfm_drive.specs.Rounds.{ByRounds, IsAtEnd, with_made}
use Rattle.vfm_drive.specs.Runs.{GoesOn, HasRun, IsOn, left_in, whole}
use Rattle.vfm_drive.proofs.Runs.{fine_on, fits_after, legal_on, run_after}
use Rattle.vfm_drive.proofs.Still.{ended_on}

-- where the journal is longer, fewer entries are left
pub falls : (old new : CoreState) (origin : Option (List Entry)) (mine : List Entry) → GoesOn old new origin mine
    → nat_lt (length old.entries) (length new.entries) ≡ true → left_in new < left_in old
falls old new origin mine on grown =
    let longer : length old.entries < length new.entries = ltb-true (length old.entries) (length new.entries) grown in
    let all : length new.entries ≡ length (old.entries ++ reverse on.more) = ap (λ (list : List Entry). length list) on.journal in
    let sum = length-append old.entries (reverse on.more) in
    let turned = length-reverse on.more in
    let room = on.room in
    omega (arith, longer, all, sum, turned, room)

-- ---- what was made stays made

over_one : (entry : Entry) (past : List Entry) → is_over past ≡ true → is_over (entry ∷ past) ≡ true
over_one Abort past over = refl
over_one Resume past over = or_right (is_aborted past) true refl
over_one entry past over = over

pub over_more : (more past : List Entry) → is_over past ≡ true → is_over (more ++ past) ≡ true
over_more [] past over = over
over_more (entry ∷ more) past over = over_one entry (more ++ past) (over_more more past over)

aborted_one : (entry : Entry) (past : List Entry) → is_aborted past ≡ true → is_aborted (entry ∷ past) ≡ true
aborted_one Abort past aborted = refl
aborted_one entry past aborted = aborted

pub aborted_more : (more past : List Entry) → is_aborted past ≡ true → is_aborted (more ++ past) ≡ true
aborted_more [] past aborted = aborted
aborted_more (entry ∷ more) past aborted = aborted_one entry (more ++ past) (aborted_more more past aborted)

unresumed_one : (D : Desc) (entry : Entry) (past : List Entry) → fault_of D past entry ≡ None → is_aborted past ≡ true → is_resumed past ≡ false
    → is_resumed (entry ∷ past) ≡ false
unresumed_one D Resume past fine aborted unresumed = absurd (true≢false (sym aborted ∙ (resume_met D past fine).1))
unresumed_one D entry past fine aborted unresumed = unresumed

-- what was given up isn't taken over
pub unresumed_more : (D : Desc) (more past : List Entry) → IsLegal D (more ++ past) → is_aborted past ≡ true → is_resumed past ≡ false
    → is_resumed (more ++ past) ≡ false
unresumed_more D [] past legal aborted unresumed = unresumed
unresumed_more D (entry ∷ more) past legal aborted unresumed =
    unresumed_one D entry (more ++ past) legal.1 (aborted_more more past aborted) (unresumed_more D more past legal.2 aborted unresumed)

pub whole_more : (origin : Option (List Entry)) (more mine : List Entry) → whole origin (more ++ mine) ≡ more ++ whole origin mine
whole_more None more mine = refl
whole_more (Some before) more mine = append_assoc more mine before

whole_one : (origin : Option (List Entry)) (entry : Entry) (mine : List Entry) → whole origin (entry ∷ mine) ≡ entry ∷ whole origin mine
whole_one None entry mine = refl
whole_one (Some before) entry mine = refl

-- ---- Abort

pub abort_may : (D : Desc) (past : List Entry) → is_over past ≡ false → MayMake D past Abort
abort_may D past open_ =
    let parts = or_parts (is_aborted past) (is_resumed past) open_ in
    (refl, ap₂ (λ (a r : Bool). first_failed ((not a && not r, Order) ∷ [])) parts.0 parts.1)

module _ (old : CoreState) (fit : FitsDesc old.desc old.world) (origin : Option (List Entry)) (mine : List Entry) (run : IsOn old.desc origin mine old.world) where
  pub abort_fine : is_over (whole origin mine) ≡ false → fault_on old.desc old.world Abort ≡ None
  abort_fine open_ = fine_on old.desc origin mine old.world Abort run (abort_may old.desc (whole origin mine) open_)

  pub abort_run : is_over (whole origin mine) ≡ false
      → IsOn (with_made (Some Abort) old).desc origin (Abort ∷ mine) (with_made (Some Abort) old).world
  abort_run open_ = run_after old Abort fit refl (abort_fine open_) origin mine run

-- a run that was over has ended
module _ (old new : CoreState) (n : ℕ) (fit : FitsDesc old.desc old.world) (origin : Option (List Entry)) (mine : List Entry)
    (on : GoesOn old new origin mine) (end : IsAtEnd new.desc origin (on.more ++ mine) n) (over : is_over (whole origin mine) ≡ true) where
  pub home_ended : has_ended new.desc (whole origin (on.more ++ mine)) ≡ true
  home_ended =
      ended_on new.desc origin (on.more ++ mine) new.world n (subst IsValid (sym on.desc) fit.valid) on.run end
      (ap is_over (whole_more origin on.more mine) ∙ over_more on.more (whole origin mine) over)

  pub goes_home : ByRounds old new 0 → GoesHome old new origin mine
  goes_home rounds = record { on = on; rounds = rounds; ended = home_ended }

-- with Abort, where it is due, the run goes on
pub due_run : (old : CoreState) → FitsDesc old.desc old.world → (origin : Option (List Entry)) (mine : List Entry) → IsOn old.desc origin mine old.world
    → (o : Option Entry) → o ≡ (if is_over (whole origin mine) then None else Some Abort) → HasRun (with_made o old).desc (with_made o old).world
due_run old fit origin mine run None is = record { origin = origin; mine = mine; run = run }
due_run old fit origin mine run (Some entry) is = by (is_over (whole origin mine)) refl
  where
    by : (over : Bool) → is_over (whole origin mine) ≡ over → HasRun (with_made (Some entry) old).desc (with_made (Some entry) old).world
    by true over = absurd (some_none (is ∙ ap (λ (b : Bool). if b then None else Some Abort) over))
      where
        some_none : Some entry ≡ None → ⊥
        some_none same = cc
    by false open_ =
        let this : Some entry ≡ Some Abort = is ∙ ap (λ (b : Bool). if b then None else Some Abort) open_ in
        subst (λ (o : Option Entry). HasRun (with_made o old).desc (with_made o old).world) (sym this)
        (record { origin = origin; mine = Abort ∷ mine; run = abort_run old fit origin mine run open_ })

-- the source gave up
module _ (old new : CoreState) (fit : FitsDesc old.desc old.world) (origin : Option (List Entry)) (mine : List Entry) (run : IsOn old.desc origin mine old.world)
    (open_ : is_over (whole origin mine) ≡ false) (on : GoesOn (with_made (Some Abort) old) new origin (Abort ∷ mine))
    (end : IsAtEnd new.desc origin (on.more ++ Abort ∷ mine) 0) where
  given_list : whole origin (on.more ++ Abort ∷ mine) ≡ on.more ++ Abort ∷ whole origin mine
  given_list = whole_more origin on.more (Abort ∷ mine) ∙ ap (λ (list : List Entry). on.more ++ list) (whole_one origin Abort mine)

  given_ended : has_ended new.desc (whole origin (on.more ++ Abort ∷ mine)) ≡ true
  given_ended =
      home_ended (with_made (Some Abort) old) new 0 (fits_after old Abort fit refl (abort_fine old fit origin mine run open_)) origin (Abort ∷ mine) on end
      (ap is_over (whole_one origin Abort mine))

  pub given_up : ByRounds (with_made (Some Abort) old) new 0 → HasGivenUp old new origin mine
  given_up rounds =
      let aborted : is_aborted (whole origin (on.more ++ Abort ∷ mine)) ≡ true =
      ap is_aborted given_list ∙ aborted_more on.more (Abort ∷ whole origin mine) refl in
      let unresumed : is_resumed (whole origin (on.more ++ Abort ∷ mine)) ≡ false =
      ap is_resumed given_list
      ∙ unresumed_more new.desc on.more (Abort ∷ whole origin mine)
      (subst (IsLegal new.desc) given_list (legal_on new.desc origin (on.more ++ Abort ∷ mine) new.world on.run)) refl
      (or_parts (is_aborted (whole origin mine)) (is_resumed (whole origin mine)) open_).1 in
      record {
        on = on;
        rounds = rounds;
        went_on = ap₂ (λ (a b : Bool). a && b) (ap₂ (λ (a b : Bool). a && b) given_ended aborted) (ap not unresumed);
      }

-- the destination takes over
module _ (old : CoreState) (fit : FitsDesc old.desc old.world) (before : List Entry) (staged : IsStagedOn old.desc before [] old.world)
    (may : fault_of old.desc before Resume ≡ None) where
  pub resume_fine : fault_on old.desc old.world Resume ≡ None
  resume_fine = fine_on old.desc (Some before) [] old.world Resume (staged, may) (refl, may)

  pub resume_run : IsOn (with_made (Some Resume) old).desc (Some before) (Resume ∷ []) (with_made (Some Resume) old).world
  resume_run = run_after old Resume fit refl resume_fine (Some before) [] (staged, may)

  pub taken_over : (new : CoreState) (on : GoesOn (with_made (Some Resume) old) new (Some before) (Resume ∷ []))
      → IsAtEnd new.desc (Some before) (on.more ++ Resume ∷ []) 0
      → ByRounds (with_made (Some Resume) old) new 0 → HasTakenOver old new before
  taken_over new on end rounds =
      record {
        on = on;
        rounds = rounds;
        ended =
            ap (has_ended new.desc) (sym (append_assoc on.more (Resume ∷ []) before))
            ∙ home_ended (with_made (Some Resume) old) new 0 (fits_after old Resume fit refl resume_fine) (Some before) (Resume ∷ []) on end
            (or_right (is_aborted before) true refl);
      }

-- a move that is joint has begun
joint_begun : (D : Desc) (past : List Entry) → IsLegal D past → is_joint past ≡ true → is_begun past ≡ true
joint_begun D [] legal joint = absurd (true≢false (sym joint))
joint_begun D (Begin ∷ past) legal joint = refl
joint_begun D (Joint ∷ past) legal joint =
    let order = met (is_on past && not (is_joint past)) Order ((all_stand_in D StopCopy past, Standing) ∷ []) legal.1 in
    let moving = (and_parts (is_on past) (not (is_joint past)) order.0).0 in
    let three = (and_parts (is_begun past && not (is_aborted past) && not (is_resumed past)) (not (is_failed past)) moving).0 in
    let two = (and_parts (is_begun past && not (is_aborted past)) (not (is_resumed past)) three).0 in
    (and_parts (is_begun past) (not (is_aborted past)) two).0
joint_begun D (entry ∷ past) legal joint = joint_begun D past legal.2 joint

pub copied_may : (D : Desc) (past : List Entry) → IsLegal D past → is_last_ended D past ≡ true → is_aborted past ≡ false → is_resumed past ≡ false
    → is_failed past ≡ false → fault_of D past Resume ≡ None
copied_may D past legal ended unaborted unresumed unfailed =
    let joint = (and_parts (is_joint past) (is_last_begun past) (and_parts (is_joint past && is_last_begun past) (is_no_pass_open D past) ended).0).0 in
    let moving : is_on past ≡ true =
    ap₂ (λ (b a : Bool). b && not a && not (is_resumed past) && not (is_failed past)) (joint_begun D past legal joint) unaborted
    ∙ ap₂ (λ (r f : Bool). not r && not f) unresumed unfailed in
    ap₂ (λ (b c : Bool). first_failed ((b, Order) ∷ (c, Standing) ∷ [])) moving ended
