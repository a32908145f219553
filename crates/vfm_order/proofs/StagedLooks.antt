-- The look of a staged move: before it is over nothing is wanted, and then what the whole list wants.
use Rattle.std.proofs.Common.{◌≡◌, ℕ, ◌<◌, ◌≤◌, ◌==◌, ◌&&◌, ◌||◌, not, Bool, true, false, nat_lt, nat_le, if◌then◌else◌, List, [], ◌∷◌, ◌++◌, Option, Some, None, refl, ap, sym, ◌∙◌, arith, ltb-true, leb-true}
use Rattle.std.proofs.lemmas.Bool.{and_left, and_parts, or_right, not-true, true≢false, cond-true}
use Rattle.vfm_types.specs.declared.desc.Desc.{Desc}
use Rattle.vfm_types.specs.declared.look.DevLook.{DevLook}
use Rattle.vfm_types.specs.declared.entry.Entry.{Entry}
use Rattle.vfm_types.specs.declared.entry.Entry.TheVariants.{Arc, Fail, Begin, Joint, Abort, Resume}
use Rattle.vfm_types.specs.declared.entry.Rule.TheVariants.{Order, Joint as Standing}
use Rattle.vfm_types.specs.declared.state.MigState.TheVariants.{Running}
use Rattle.vfm_types.specs.Desc.{device_count, shape_at}
use Rattle.vfm_types.specs.Paths.{same_state}
use Rattle.vfm_types.specs.Phases.{is_begun, is_joint, is_aborted, is_resumed, is_failed, is_on, is_last_begun}
use Rattle.vfm_types.specs.Blocks.{is_no_pass_open}
use Rattle.vfm_types.specs.Valid.{IsValid}
use Rattle.vfm_base.specs.Least.{least_below}
use Rattle.vfm_plain.specs.ResumeRules.{is_state_copied}
use Rattle.vfm_plain.specs.Rules.{fault_of}
use Rattle.vfm_plain.specs.Legal.{IsLegal}
use Rattle.vfm_laws.proofs.Rising.{by_bool}
use Rattle.vfm_laws.proofs.Conditions.{met, fail_met, no_move}
use Rattle.vfm_quiet.specs.declared.want.Want.{Want}
use Rattle.vfm_quiet.specs.declared.want.Want.TheVariants.{Do, Wait, Done}
use Rattle.vfm_quiet.specs.declared.move_look.MoveLook.{MoveLook}
use Rattle.vfm_quiet.specs.Seen.{seen, sees_ready, sees_all_in, sees_decided, next_seen, next_or_stay, may_go_home, no_look}
use Rattle.vfm_quiet.specs.Order.{do_for, first_line, next_want, is_abort_asked, way_home, beginning, rest_of_pass, first_pass, another_pass, way_out, last_pass}
use Rattle.vfm_order.specs.LookAfter.{is_over, look_after, staged_look_of, staged_look_after}
use Rattle.vfm_order.specs.Coordinator.{is_coordinators, MayMake}
use Rattle.vfm_order.proofs.Numbers.{eight_at, least_is, all_below_same, least_below_same}
use Rattle.vfm_order.proofs.Seeing.{few_devices, seen_after}
use Rattle.vfm_order.proofs.Wants.{want_made}

-- entries that agree where they count
pub do_for_same : (first second : ℕ → Entry) (o : Option ℕ) (other : Want) → ((d : ℕ) → o ≡ Some d → first d ≡ second d) → do_for first o other ≡ do_for second o other
do_for_same first second None other same = refl
do_for_same first second (Some d) other same = ap Do (same d refl)

module _ (D : Desc) (valid : IsValid D) (before mine : List Entry) where
  whole : List Entry
  whole = mine ++ before

  -- states and readiness are those of the whole list
  staged_state : (d : ℕ) → d < device_count D → seen (staged_look_after D before mine) d ≡ staged_look_of D before mine d
  staged_state d inside = let few = few_devices D valid in eight_at (staged_look_of D before mine) d no_look (omega arith)

  same_seen : (d : ℕ) → d < device_count D → (seen (staged_look_after D before mine) d).state ≡ (seen (look_after D (mine ++ before)) d).state
  same_seen d inside = ap (λ (v : DevLook). v.state) (staged_state d inside) ∙ ap (λ (v : DevLook). v.state) (sym (seen_after D (mine ++ before) d valid inside))

  same_home : way_home D (staged_look_after D before mine) ≡ way_home D (look_after D (mine ++ before))
  same_home =
      let staged = staged_look_after D before mine in
      let look = look_after D (mine ++ before) in
      let test : MoveLook → ℕ → Bool = λ l d. may_go_home l d in
      let end : MoveLook → Want = λ l. if sees_all_in l Running then Done else Wait in
      let least : least_below (device_count D) (test staged) ≡ least_below (device_count D) (test look) =
      least_below_same (device_count D) (test staged) (test look)
      (λ d inside. ap (λ s. not (same_state s Running) && sees_ready look d) (same_seen d inside)) in
      let all : sees_all_in staged Running ≡ sees_all_in look Running =
      all_below_same (device_count D) (λ d. same_state (seen staged d).state Running) (λ d. same_state (seen look d).state Running)
      (λ d inside. ap (λ s. same_state s Running) (same_seen d inside)) in
      do_for_same (λ d. Arc d (next_seen D staged d Running)) (λ d. Arc d (next_seen D look d Running)) (least_below (device_count D) (test staged)) (end staged)
      (λ d found.
      ap (λ s. Arc d (next_or_stay s Running (shape_at D d).flags)) (same_seen d (least_is (device_count D) (test staged) d found).inside))
      ∙ ap (λ (o : Option ℕ). do_for (λ d. Arc d (next_seen D look d Running)) o (end staged)) least
      ∙ ap (λ (b : Bool). do_for (λ d. Arc d (next_seen D look d Running)) (least_below (device_count D) (test look)) (if b then Done else Wait)) all

  -- where the first line applies, it says what is wanted
  first_applies : (look : MoveLook) (n : ℕ) → (look.aborted || look.resumed) ≡ true → next_want D look n ≡ way_home D look
  first_applies look n over =
      let rest = (look.failed, Do Abort) ∷ (is_abort_asked look n, Do Abort) ∷ (not look.begun, beginning D look) ∷ (not look.ended, rest_of_pass look)
      ∷ (not look.joint && nat_lt 0 D.rounds && look.passes == 0, first_pass D look)
      ∷ (not look.joint && not (sees_decided D look), another_pass look)
      ∷ (not look.joint, way_out D look) ∷ (not look.last, last_pass look) ∷ [] in
      cond-true (look.aborted || look.resumed) (way_home D look) (first_line rest) over

  pub staged_home : (n : ℕ) → is_over (mine ++ before) ≡ true → next_want D (staged_look_after D before mine) n ≡ next_want D (look_after D (mine ++ before)) n
  staged_home n over =
      first_applies (staged_look_after D before mine) n over ∙ same_home ∙ sym (first_applies (look_after D (mine ++ before)) n over)

-- what the source's list hands over
record Handed (past : List Entry) : Type 0 where
  begun : is_begun past ≡ true
  joint : is_joint past ≡ true
  unfailed : is_over past ≡ false → is_failed past ≡ false

handed_first : (D : Desc) (past : List Entry) → fault_of D past Resume ≡ None → Handed past
handed_first D past unbroken =
    let first = met (is_on past) Order ((is_state_copied D past, Standing) ∷ []) unbroken in
    let copied = (met (is_state_copied D past) Standing [] first.1).0 in
    let three = and_parts (is_begun past && not (is_aborted past) && not (is_resumed past)) (not (is_failed past)) first.0 in
    let two = and_parts (is_begun past && not (is_aborted past)) (not (is_resumed past)) three.0 in
    record {
      begun = (and_parts (is_begun past) (not (is_aborted past)) two.0).0;
      joint = (and_parts (is_joint past) (is_last_begun past) (and_parts (is_joint past && is_last_begun past) (is_no_pass_open D past) copied).0).0;
      unfailed = λ open_. not-true (is_failed past) three.1;
    }

-- and every entry keeps
handed : (D : Desc) (before mine : List Entry) → fault_of D before Resume ≡ None → IsLegal D (mine ++ before) → Handed (mine ++ before)
handed D before [] unbroken legal = handed_first D before unbroken
handed D before (Fail d to ∷ mine) unbroken legal =
    let old = handed D before mine unbroken legal.2 in
    let rules = fail_met D (mine ++ before) d to legal.1 in
    absurd (no_move (is_on (mine ++ before)) (is_joint (mine ++ before)) (is_aborted (mine ++ before)) (is_resumed (mine ++ before)) rules.0 old.joint rules.1 rules.2)
handed D before (Begin ∷ mine) unbroken legal =
    let old = handed D before mine unbroken legal.2 in record { begun = refl; joint = old.joint; unfailed = old.unfailed }
handed D before (Joint ∷ mine) unbroken legal =
    let old = handed D before mine unbroken legal.2 in record { begun = old.begun; joint = refl; unfailed = old.unfailed }
handed D before (Abort ∷ mine) unbroken legal =
    let old = handed D before mine unbroken legal.2 in record { begun = old.begun; joint = old.joint; unfailed = λ open_. refl }
handed D before (Resume ∷ mine) unbroken legal =
    let old = handed D before mine unbroken legal.2 in
    record {
      begun = old.begun;
      joint = old.joint;
      unfailed = λ open_. absurd (true≢false (sym (or_right (is_aborted (mine ++ before)) true refl) ∙ open_));
    }
handed D before (entry ∷ mine) unbroken legal =
    let old = handed D before mine unbroken legal.2 in record { begun = old.begun; joint = old.joint; unfailed = old.unfailed }

-- before it is over nothing is wanted
pub staged_held : (D : Desc) (before mine : List Entry) (n : ℕ) → fault_of D before Resume ≡ None → IsLegal D (mine ++ before)
    → is_over (mine ++ before) ≡ false → next_want D (staged_look_after D before mine) n ≡ Done
staged_held D before mine n unbroken legal open_ =
    let look = staged_look_after D before mine in
    let all = handed D before mine unbroken legal in
    through
    (is_over (mine ++ before)) (is_failed (mine ++ before)) (nat_lt 0 n && nat_le n 0) (is_begun (mine ++ before)) (is_joint (mine ++ before))
    (way_home D look) (beginning D look) (rest_of_pass look) (nat_lt 0 D.rounds) (sees_decided D look) (first_pass D look) (another_pass look) (way_out D look)
    (last_pass look)
    open_ (all.unfailed open_) (and_left (nat_lt 0 n && nat_le n 0) true (never (nat_lt 0 n) (nat_le n 0) refl refl)) all.begun all.joint
  where
    through : (over failed asked begun joint : Bool) (home start rest : Want) (rounds decided : Bool) (first more out last : Want)
        → over ≡ false → failed ≡ false → (asked && true) ≡ false → begun ≡ true → joint ≡ true
        → first_line
        ((over, home) ∷ (failed, Do Abort) ∷ (asked && true, Do Abort) ∷ (not begun, start) ∷ (not true, rest) ∷ (not joint && rounds && true, first)
        ∷ (not joint && not decided, more) ∷ (not joint, out) ∷ (not true, last) ∷ []) ≡ Done
    through over failed asked begun joint home start rest rounds decided first more out last a b c d e = rw (a, b, c, d, e) refl

    never : (a b : Bool) → nat_lt 0 n ≡ a → nat_le n 0 ≡ b → (a && b) ≡ false
    never true true x y = let low : 0 < n = ltb-true 0 n x in let high : n ≤ 0 = leb-true n 0 y in absurd (omega arith)
    never true false x y = refl
    never false b x y = refl

-- what is wanted may be made after the whole list
pub staged_made : (D : Desc) (valid : IsValid D) (before mine : List Entry) → fault_of D before Resume ≡ None → IsLegal D (mine ++ before) → (n : ℕ) (entry : Entry)
    → next_want D (staged_look_after D before mine) n ≡ Do entry → MayMake D (mine ++ before) entry × (is_coordinators entry ≡ true)
staged_made D valid before mine unbroken legal n entry same =
    by_bool (is_over (mine ++ before)) (λ b. is_over (mine ++ before) ≡ b → MayMake D (mine ++ before) entry × (is_coordinators entry ≡ true))
    (λ over e.
    let fits = want_made D valid (mine ++ before) legal n entry (sym (staged_home D valid before mine n e) ∙ same) in (fits.0, fits.1))
    (λ open_ e. absurd (done_do entry (sym (staged_held D before mine n unbroken legal e) ∙ same))) refl
  where
    done_do : (e : Entry) → Done ≡ Do e → ⊥
    done_do e same = cc
