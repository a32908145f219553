-- What the order wants after a legal list is right, whichever line applies.
use Rattle.std.proofs.Common.{◌≡◌, ℕ, ◌==◌, ◌&&◌, ◌||◌, not, Bool, true, false, nat_lt, nat_le, if◌then◌else◌, List, ◌∷◌, drop, refl, ap, sym, ◌∙◌, arith, eq-eqb, eqb-true, lt-ltb}
use Rattle.std.proofs.lemmas.Bool.{and_from, and_parts, and_right, or_from, or_left, or_right, not-true, not-false, true≢false, false≢true}
use Rattle.vfm_types.specs.declared.desc.Desc.{Desc}
use Rattle.vfm_types.specs.declared.entry.Entry.{Entry}
use Rattle.vfm_types.specs.declared.entry.Entry.TheVariants.{Abort}
use Rattle.vfm_types.specs.declared.state.MigState.TheVariants.{Running}
use Rattle.vfm_types.specs.Phases.{is_begun, is_joint, is_failed, is_on, is_last_begun, pass_count}
use Rattle.vfm_types.specs.Marks.{set_size}
use Rattle.vfm_types.specs.Blocks.{is_no_pass_open}
use Rattle.vfm_types.specs.Words.{all_stand_in, is_decided}
use Rattle.vfm_types.specs.Valid.{IsValid}
use Rattle.vfm_plain.specs.Legal.{IsLegal}
use Rattle.vfm_quiet.specs.declared.want.Want.{Want}
use Rattle.vfm_quiet.specs.declared.want.Want.TheVariants.{Do}
use Rattle.vfm_quiet.specs.Seen.{sees_decided}
use Rattle.vfm_quiet.specs.Order.{first_line, lines, next_want, is_abort_asked, way_home, beginning, rest_of_pass, first_pass, another_pass, way_out, last_pass}
use Rattle.vfm_order.specs.LookAfter.{is_over, look_after}
use Rattle.vfm_order.specs.Coordinator.{is_abort_due, is_done}
use Rattle.vfm_order.proofs.Seeing.{decided_after}
use Rattle.vfm_order.proofs.Meets.{IsGoing, going_on, abort_made}
use Rattle.vfm_order.proofs.Fits.{Fits, way_home_fits, beginning_fits}
use Rattle.vfm_order.proofs.Passes.{rest_of_pass_fits, first_pass_fits, another_pass_fits, last_pass_fits}
use Rattle.vfm_order.proofs.Outward.{way_out_fits}

-- the first line that applies, or the rest
pub line : (P : Want → Type 0) (applies : Bool) (here : Want) (others : List (Bool × Want)) → (applies ≡ true → P here) → (applies ≡ false → P (first_line others))
    → P (first_line ((applies, here) ∷ others))
line P true here others first rest = first refl
line P false here others first rest = rest refl

module _ (D : Desc) (past : List Entry) (n : ℕ) (valid : IsValid D) (legal : IsLegal D past) where
  pub due_from : is_over past ≡ false → (is_failed past || is_abort_asked (look_after D past) n) ≡ true → is_abort_due D past n ≡ true
  due_from open_ why = and_from (not (is_over past)) (is_failed past || is_abort_asked (look_after D past) n) (ap not open_) why

  not_due : is_failed past ≡ false → is_abort_asked (look_after D past) n ≡ false → is_abort_due D past n ≡ false
  not_due unfailed unasked =
      and_right (not (is_over past)) (is_failed past || is_abort_asked (look_after D past) n) (or_from (is_failed past) (is_abort_asked (look_after D past) n) unfailed unasked)

  -- where it isn't decided, passes are to be made
  rounds_left : is_decided D past ≡ false → nat_lt 0 D.rounds ≡ true
  rounds_left undecided =
      let some : D.rounds ≡ 0 → ⊥ = λ none.
      true≢false
      (sym (or_left (D.rounds == 0) (nat_lt 0 (pass_count past) && is_no_pass_open D past && (nat_le D.rounds (pass_count past) || nat_le (set_size D past) D.threshold)) (eq-eqb D.rounds 0 none))
      ∙ undecided) in
      lt-ltb 0 D.rounds (omega arith)

  done_on : IsGoing D past → is_no_pass_open D past ≡ true → is_joint past ≡ true → is_last_begun past ≡ true → is_done D past ≡ true
  done_on going ended joint last =
      ap (λ (b : Bool). if b then all_stand_in D Running past else is_on past && is_joint past && is_last_begun past && is_no_pass_open D past) going.open_
      ∙ and_from (is_on past && is_joint past && is_last_begun past) (is_no_pass_open D past)
      (and_from (is_on past && is_joint past) (is_last_begun past) (and_from (is_on past) (is_joint past) (going_on D past going) joint) last) ended

  -- the lines from one on
  unfoldable pub from_line : ℕ → List (Bool × Want)
  from_line k = drop k (lines D (look_after D past) n)

  -- between two passes, and at the end
  between : IsGoing D past → is_abort_due D past n ≡ false → is_no_pass_open D past ≡ true → Fits D past n (first_line (from_line 5))
  unfolding from_line
  between going due ended =
      let look = look_after D past in
      let P : Want → Type 0 = λ want. Fits D past n want in
      let decided = decided_after D past in
      line P (not (is_joint past) && nat_lt 0 D.rounds && pass_count past == 0) (first_pass D look) (from_line 6)
      (λ first.
      let two = and_parts (not (is_joint past) && nat_lt 0 D.rounds) (pass_count past == 0) first in
      let one = and_parts (not (is_joint past)) (nat_lt 0 D.rounds) two.0 in
      first_pass_fits D past n valid legal going due ended (not-true (is_joint past) one.0) one.1 (eqb-true (pass_count past) 0 two.1))
      (λ later.
      line P (not (is_joint past) && not (sees_decided D look)) (another_pass look) (from_line 7)
      (λ more.
      let parts = and_parts (not (is_joint past)) (not (sees_decided D look)) more in
      let undecided : is_decided D past ≡ false = sym decided ∙ not-true (sees_decided D look) parts.1 in
      another_pass_fits D past n valid legal going due ended (not-true (is_joint past) parts.0)
      (some_pass later parts.0 (rounds_left undecided)) undecided)
      (λ enough.
      line P (not (is_joint past)) (way_out D look) (from_line 8)
      (λ before.
      way_out_fits D past n valid legal going due ended (not-true (is_joint past) before) (sym decided ∙ is_enough (not (is_joint past)) (sees_decided D look) enough before))
      (λ joint.
      line P (not (is_last_begun past)) (last_pass look) (from_line 9)
      (λ unlast. last_pass_fits D past n valid legal going due ended (not-false (is_joint past) joint) (not-true (is_last_begun past) unlast))
      (λ last. (done_on going ended (not-false (is_joint past) joint) (not-false (is_last_begun past) last), due)))))
    where
      is_enough : (a b : Bool) → (a && not b) ≡ false → a ≡ true → b ≡ true
      is_enough true true x y = refl
      is_enough true false x y = absurd (true≢false x)
      is_enough false b x y = absurd (false≢true y)

      some_pass : (not (is_joint past) && nat_lt 0 D.rounds && pass_count past == 0) ≡ false → not (is_joint past) ≡ true → nat_lt 0 D.rounds ≡ true
          → nat_lt 0 (pass_count past) ≡ true
      some_pass later before rounds =
          let some : pass_count past ≡ 0 → ⊥ = λ none.
          true≢false
          (sym (and_from (not (is_joint past) && nat_lt 0 D.rounds) (pass_count past == 0) (and_from (not (is_joint past)) (nat_lt 0 D.rounds) before rounds)
          (eq-eqb (pass_count past) 0 none)) ∙ later) in
          lt-ltb 0 (pass_count past) (omega arith)

  pub order_fits : Fits D past n (next_want D (look_after D past) n)
  unfolding from_line
  order_fits =
      let look = look_after D past in
      let P : Want → Type 0 = λ want. Fits D past n want in
      line P (is_over past) (way_home D look) (from_line 1) (λ over. way_home_fits D past n valid legal over)
      (λ open_.
      line P (is_failed past) (Do Abort) (from_line 2)
      (λ failed. (abort_made D past open_, refl, sym (due_from open_ (or_left (is_failed past) (is_abort_asked look n) failed))))
      (λ unfailed.
      line P (is_abort_asked look n) (Do Abort) (from_line 3)
      (λ told. (abort_made D past open_, refl, sym (due_from open_ (or_right (is_failed past) (is_abort_asked look n) told))))
      (λ untold.
      let due = not_due unfailed untold in
      line P (not (is_begun past)) (beginning D look) (from_line 4)
      (λ unbegun. beginning_fits D past n valid legal open_ due (not-true (is_begun past) unbegun))
      (λ begun.
      let going : IsGoing D past = record { begun = not-false (is_begun past) begun; open_ = open_; unfailed = unfailed } in
      line P (not (is_no_pass_open D past)) (rest_of_pass look) (from_line 5)
      (λ opened. rest_of_pass_fits D past n valid legal going due (not-true (is_no_pass_open D past) opened))
      (λ closed. between going due (not-false (is_no_pass_open D past) closed))))))
