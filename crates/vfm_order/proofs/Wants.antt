-- Each answer of the order against what holds after the list.
use Rattle.std.proofs.Common.{◌≡◌, ◌≢◌, ℕ, ◌==◌, ◌&&◌, not, Bool, true, false, nat_lt, if◌then◌else◌, List, Option, None, IsTrue, refl, ap, sym, ◌∙◌, subst}
use Rattle.std.proofs.lemmas.Bool.{and_left, and_parts, or_left, or_right, not-true, true≢false, false≢true, cond-true, cond-false}
use Rattle.vfm_types.specs.declared.desc.Desc.{Desc}
use Rattle.vfm_types.specs.declared.entry.Entry.{Entry}
use Rattle.vfm_types.specs.declared.entry.Entry.TheVariants.{Arc, Abort}
use Rattle.vfm_types.specs.declared.look.DevLook.{DevLook}
use Rattle.vfm_types.specs.declared.state.MigState.TheVariants.{Running}
use Rattle.vfm_types.specs.Desc.{device_count}
use Rattle.vfm_types.specs.Paths.{same_state}
use Rattle.vfm_types.specs.Phases.{is_begun, is_joint, is_aborted, is_resumed, is_failed, is_on, is_last_begun, pass_count}
use Rattle.vfm_types.specs.Arcs.{state_of}
use Rattle.vfm_types.specs.Blocks.{is_no_pass_open}
use Rattle.vfm_types.specs.Words.{all_stand_in}
use Rattle.vfm_types.specs.Valid.{IsValid}
use Rattle.vfm_base.specs.Least.{least_below}
use Rattle.vfm_base.proofs.LeastPages.{least_below_none}
use Rattle.vfm_plain.specs.Legal.{IsLegal}
use Rattle.vfm_laws.proofs.Rising.{by_bool}
use Rattle.vfm_laws.proofs.Below.{all_below_at}
use Rattle.vfm_quiet.specs.declared.want.Want.{Want}
use Rattle.vfm_quiet.specs.declared.want.Want.TheVariants.{Do, Wait, Done}
use Rattle.vfm_quiet.specs.Seen.{seen, sees_ready, sees_all_in, sees_decided, next_seen, may_go_home}
use Rattle.vfm_quiet.specs.Order.{do_for, is_abort_asked, next_want, way_home, beginning, rest_of_pass, first_pass, another_pass, way_out, last_pass}
use Rattle.vfm_order.specs.LookAfter.{is_over, look_after}
use Rattle.vfm_order.specs.Coordinator.{is_coordinators, MayMake, is_abort_due, is_done, IsStuck}
use Rattle.vfm_order.proofs.Seeing.{seen_after, all_in_after}
use Rattle.vfm_order.proofs.Fits.{Fits, is_abort, unbegun_off}
use Rattle.vfm_order.proofs.Whole.{line, from_line, due_from, order_fits}

-- an entry that isn't Abort
other_entry : (entry : Entry) → is_abort entry ≡ false → entry ≢ Abort
other_entry entry other same = true≢false (sym (ap is_abort same) ∙ other)

abort_entry : (entry : Entry) → is_abort entry ≡ true → entry ≡ Abort
abort_entry Abort same = refl
abort_entry _ same = absurd (false≢true same)

module _ (D : Desc) (valid : IsValid D) (past : List Entry) (legal : IsLegal D past) (n : ℕ) where
  fits : Fits D past n (next_want D (look_after D past) n)
  fits = order_fits D past n valid legal

  pub want_made : (entry : Entry) → next_want D (look_after D past) n ≡ Do entry
      → MayMake D past entry × IsTrue (is_coordinators entry) × (is_abort entry ≡ is_abort_due D past n)
  want_made entry same = subst (λ (w : Want). Fits D past n w) same fits

  pub stuck_of_wait : next_want D (look_after D past) n ≡ Wait → IsStuck D past n
  stuck_of_wait same = subst (λ (w : Want). Fits D past n w) same fits

  pub done_of_done : next_want D (look_after D past) n ≡ Done → (is_done D past ≡ true) × (is_abort_due D past n ≡ false)
  done_of_done same = subst (λ (w : Want). Fits D past n w) same fits

  wait_fits : (w : Want) → Fits D past n w → IsStuck D past n → w ≡ Wait
  wait_fits Wait fit stuck = refl
  wait_fits Done fit stuck = absurd (true≢false (sym fit.0 ∙ stuck.undone))
  wait_fits (Do entry) fit stuck =
      by_bool (is_abort entry) (λ b. is_abort entry ≡ b → Do entry ≡ Wait)
      (λ same e. absurd (true≢false (sym e ∙ fit.2 ∙ stuck.no_abort)))
      (λ other e. absurd (stuck.barred entry fit.1 (other_entry entry e) fit.0)) refl

  pub wait_of_stuck : IsStuck D past n → next_want D (look_after D past) n ≡ Wait
  wait_of_stuck stuck = wait_fits (next_want D (look_after D past) n) fits stuck

  abort_fits : (w : Want) → Fits D past n w → is_abort_due D past n ≡ true → w ≡ Do Abort
  abort_fits Wait fit due = absurd (true≢false (sym due ∙ fit.no_abort))
  abort_fits Done fit due = absurd (true≢false (sym due ∙ fit.1))
  abort_fits (Do entry) fit due = ap Do (abort_entry entry (fit.2 ∙ due))

  pub abort_of_due : is_abort_due D past n ≡ true → next_want D (look_after D past) n ≡ Do Abort
  abort_of_due due = abort_fits (next_want D (look_after D past) n) fits due

  -- where all are home, nothing is left
  home_ends : is_over past ≡ true → is_done D past ≡ true → way_home D (look_after D past) ≡ Done
  home_ends over done =
      let look = look_after D past in
      let all : all_stand_in D Running past ≡ true =
      sym (cond-true (is_over past) (all_stand_in D Running past) (is_on past && is_joint past && is_last_begun past && is_no_pass_open D past) over) ∙ done in
      let nobody : least_below (device_count D) (λ d. may_go_home look d) ≡ None =
      least_below_none (λ d. may_go_home look d) (device_count D)
      (λ d inside.
      and_left (not (same_state (seen look d).state Running)) (sees_ready look d)
      (ap (λ (v : DevLook). not (same_state v.state Running)) (seen_after D past d valid inside)
      ∙ ap not (all_below_at (device_count D) (λ k. same_state (state_of k past) Running) d all inside))) in
      ap (λ (o : Option ℕ). do_for (λ d. Arc d (next_seen D look d Running)) o (if sees_all_in look Running then Done else Wait)) nobody
      ∙ ap (λ (b : Bool). if b then Done else Wait) (all_in_after D past Running valid ∙ all)

  -- what a move that is done is, where it isn't over
  record IsEnd : Type 0 where
    running : is_on past ≡ true
    joint : is_joint past ≡ true
    last : is_last_begun past ≡ true
    ended : is_no_pass_open D past ≡ true

  end_parts : is_over past ≡ false → is_done D past ≡ true → IsEnd
  end_parts open_ done =
      let all = sym (cond-false (is_over past) (all_stand_in D Running past) (is_on past && is_joint past && is_last_begun past && is_no_pass_open D past) open_) ∙ done in
      let three = and_parts (is_on past && is_joint past && is_last_begun past) (is_no_pass_open D past) all in
      let two = and_parts (is_on past && is_joint past) (is_last_begun past) three.0 in
      let one = and_parts (is_on past) (is_joint past) two.0 in
      record { running = one.0; joint = one.1; last = two.1; ended = three.1 }

  pub done_if_done : is_done D past ≡ true → is_abort_due D past n ≡ false → next_want D (look_after D past) n ≡ Done
  unfolding from_line
  done_if_done done undue =
      let look = look_after D past in
      let P : Want → Type 0 = λ want. want ≡ Done in
      let rest : ℕ → List (Bool × Want) = from_line D past n valid legal in
      line P (is_over past) (way_home D look) (rest 1) (λ over. home_ends over done)
      (λ open_.
      let end = end_parts open_ done in
      line P (is_failed past) (Do Abort) (rest 2)
      (λ failed. absurd (true≢false (sym (due_from D past n valid legal open_ (or_left (is_failed past) (is_abort_asked look n) failed)) ∙ undue)))
      (λ unfailed.
      line P (is_abort_asked look n) (Do Abort) (rest 3)
      (λ told. absurd (true≢false (sym (due_from D past n valid legal open_ (or_right (is_failed past) (is_abort_asked look n) told)) ∙ undue)))
      (λ untold.
      line P (not (is_begun past)) (beginning D look) (rest 4)
      (λ unbegun.
      absurd
      (true≢false
      (sym end.running ∙ unbegun_off (is_begun past) (is_aborted past) (is_resumed past) (is_failed past) (not-true (is_begun past) unbegun))))
      (λ begun.
      line P (not (is_no_pass_open D past)) (rest_of_pass look) (rest 5) (λ opened. absurd (true≢false (sym end.ended ∙ not-true (is_no_pass_open D past) opened)))
      (λ closed.
      line P (not (is_joint past) && nat_lt 0 D.rounds && pass_count past == 0) (first_pass D look) (rest 6)
      (λ first.
      unjoint end (and_parts (not (is_joint past)) (nat_lt 0 D.rounds) (and_parts (not (is_joint past) && nat_lt 0 D.rounds) (pass_count past == 0) first).0).0)
      (λ later.
      line P (not (is_joint past) && not (sees_decided D look)) (another_pass look) (rest 7)
      (λ more. unjoint end (and_parts (not (is_joint past)) (not (sees_decided D look)) more).0)
      (λ enough.
      line P (not (is_joint past)) (way_out D look) (rest 8) (λ before. unjoint end before)
      (λ joint.
      line P (not (is_last_begun past)) (last_pass look) (rest 9) (λ unlast. absurd (true≢false (sym end.last ∙ not-true (is_last_begun past) unlast)))
      (λ last. refl)))))))))
    where
      unjoint : {w : Want} → IsEnd → not (is_joint past) ≡ true → w ≡ Done
      unjoint end before = absurd (true≢false (sym end.joint ∙ not-true (is_joint past) before))
