-- What the order wants of a source that is under way, and what that tells.
use Rattle.std.proofs.Common.{◌≡◌, ℕ, ◌<◌, ◌≤◌, ◌&&◌, ◌||◌, not, Bool, true, false, nat_lt, List, [], ◌∷◌, ◌++◌, length, Option, None, Some, Result, Ok, Err, IfOk, OnOk, OnErr, IsTrue, IsFalse, refl, ap, ap₂, sym, ◌∙◌, subst, arith}
use Rattle.std.proofs.lemmas.Bool.{and_parts, cond-false, lt-ltb, ltb-false, not-true}
use Rattle.std.proofs.lemmas.List.{length-append}
use Rattle.vfm_types.specs.declared.desc.Desc.{Desc}
use Rattle.vfm_types.specs.declared.entry.Entry.{Entry}
use Rattle.vfm_types.specs.declared.entry.Entry.TheVariants.{Abort, Resume}
use Rattle.vfm_types.specs.declared.entry.Rule.TheVariants.{Order, Joint as Standing}
use Rattle.vfm_types.specs.declared.state.MigState.TheVariants.{Running}
use Rattle.vfm_types.specs.Desc.{device_count}
use Rattle.vfm_types.specs.Blocks.{is_no_pass_open}
use Rattle.vfm_types.specs.Machine.{Machine}
use Rattle.vfm_types.specs.Phases.{is_aborted, is_begun, is_failed, is_joint, is_last_begun, is_on, is_resumed}
use Rattle.vfm_types.specs.Valid.{IsValid}
use Rattle.vfm_types.specs.Words.{all_stand_in}
use Rattle.vfm_plain.specs.Ended.{is_last_ended}
use Rattle.vfm_plain.specs.Legal.{IsLegal}
use Rattle.vfm_plain.specs.ResumeRules.{is_state_copied}
use Rattle.vfm_laws.proofs.Conditions.{met, on_parts}
use Rattle.vfm_laws.proofs.Rising.{by_bool}
use Rattle.vfm_parts.specs.Steps.{fault_on}
use Rattle.vfm_quiet.specs.declared.want.Want.{Want}
use Rattle.vfm_quiet.specs.declared.want.Want.TheVariants.{Do, Wait, Done}
use Rattle.vfm_quiet.specs.Order.{next_want}
use Rattle.vfm_order.specs.Coordinator.{AllStill, MayMake, is_done}
use Rattle.vfm_order.specs.LookAfter.{is_over, look_after}
use Rattle.vfm_order.proofs.Motion.{rest_moves}
use Rattle.vfm_order.proofs.Still.{still_rests}
use Rattle.vfm_order.proofs.Wants.{done_if_done, done_of_done, want_made}
use Rattle.vfm_core.specs.CoreState.{CoreState, FitsDesc}
use Rattle.vfm_drive.specs.Rounds.{all_stepped, with_made}
use Rattle.vfm_drive.specs.Runs.{GoesOn, left_in, want_on}
use Rattle.vfm_drive.proofs.Ends.{falls}
use Rattle.vfm_drive.proofs.Runs.{fine_on, one_made}
use Rattle.vfm_drive.proofs.Steps.{Unmoved, made_desc, none_still, unmoved, want_may}
use Rattle.vfm_source.specs.declared.order.Turn.{Turn}
use Rattle.vfm_source.specs.Moving.{IsUnderWay, IsWanted, entry_made, past_in, turn_of}
use Rattle.vfm_source.specs.Rounds.{TurnTells}
use Rattle.vfm_source.proofs.Moves.{is_resume}

-- ---- the wanted entry

done_is_no_entry : (entry : Entry) → Do entry ≡ Done → ⊥
done_is_no_entry entry same = cc

-- where a machine may be taken over, its source is done
no_resume : (D : Desc) (past : List Entry) (n : ℕ) → IsValid D → IsLegal D past → next_want D (look_after D past) n ≡ Do Resume → ⊥
no_resume D past n valid legal want =
    let made = want_made D valid past legal n Resume want in
    let order = met (is_on past) Order ((is_state_copied D past, Standing) ∷ []) made.0.1 in
    let copied = met (is_state_copied D past) Standing [] order.1 in
    let open_ = on_parts past order.0 in
    let over : is_over past ≡ false = ap₂ (λ (a r : Bool). a || r) open_.0 open_.1 in
    let done : is_done D past ≡ true =
    cond-false (is_over past) (all_stand_in D Running past) (is_on past && is_joint past && is_last_begun past && is_no_pass_open D past) over
    ∙ ap (λ (b : Bool). b && is_joint past && is_last_begun past && is_no_pass_open D past) order.0 ∙ copied.0 in
    done_is_no_entry Resume (sym want ∙ done_if_done D valid past legal n done (sym made.2))

pub wanted_stays : (core : CoreState) (entry : Entry) → IsValid core.desc → IsLegal core.desc (past_in core) → IsWanted core entry → is_resume entry ≡ false
wanted_stays core entry valid legal wanted = by entry wanted.want
  where
    by : (e : Entry) → want_on core.desc None (past_in core) wanted.abort_after ≡ Do e → is_resume e ≡ false
    by Resume want = absurd (no_resume core.desc (past_in core) wanted.abort_after valid legal want)
    by e want = refl

pub wanted_may : (joint : Machine) (core : CoreState) (entry : Entry) → IsValid core.desc → IsUnderWay joint core → IsWanted core entry
    → MayMake core.desc (past_in core) entry
wanted_may joint core entry valid way wanted =
    (want_may core.desc None (past_in core) core.world wanted.abort_after entry valid way.run wanted.want).0

pub wanted_fine : (joint : Machine) (core : CoreState) (entry : Entry) → IsValid core.desc → IsUnderWay joint core → IsWanted core entry
    → fault_on core.desc core.world entry ≡ None
wanted_fine joint core entry valid way wanted =
    fine_on core.desc None (past_in core) core.world entry way.run (wanted_may joint core entry valid way wanted)

-- ---- what a turn tells

-- an entry that was made leaves fewer
one_falls : (joint : Machine) (core : CoreState) (entry : Entry) → FitsDesc core.desc core.world → IsUnderWay joint core
    → MayMake core.desc (past_in core) entry → left_in (with_made (Some entry) core) < left_in core
one_falls joint core entry fit way may =
    let on = one_made core entry fit may.0 (fine_on core.desc None (past_in core) core.world entry way.run may) None (past_in core) way.run in
    let more = length-append core.entries (entry ∷ []) in
    falls core (with_made (Some entry) core) None (past_in core) on
    (lt-ltb (length core.entries) (length (core.entries ++ entry ∷ [])) (omega (arith, more)))

-- a move that is done and goes on was copied whole, and no arc failed
done_tells : (D : Desc) (past : List Entry) → is_over past ≡ false → is_done D past ≡ true → IsTrue (is_last_ended D past) × IsFalse (is_failed past)
done_tells D past over done =
    let all = sym (cond-false (is_over past) (all_stand_in D Running past) (is_on past && is_joint past && is_last_begun past && is_no_pass_open D past) over) ∙ done in
    let three = and_parts (is_on past && is_joint past && is_last_begun past) (is_no_pass_open D past) all in
    let two = and_parts (is_on past && is_joint past) (is_last_begun past) three.0 in
    let one = and_parts (is_on past) (is_joint past) two.0 in (
      ap₂ (λ (j l : Bool). j && l && is_no_pass_open D past) one.1 two.1 ∙ three.1,
      not-true (is_failed past) (and_parts (is_begun past && not (is_aborted past) && not (is_resumed past)) (not (is_failed past)) one.0).1,
    )

-- What stands before a turn: the devices have stepped.
pub record IsTurn (joint : Machine) (old mid : CoreState) : Type 0 where
  pub first : FitsDesc old.desc old.world
  pub fit : FitsDesc mid.desc mid.world
  pub way : IsUnderWay joint mid
  pub was : IsUnderWay joint old
  pub stepped : mid ≡ all_stepped old
  pub on : GoesOn old mid None (past_in old)

module _ (joint : Machine) (old mid : CoreState) (n : ℕ) (is : IsTurn joint old mid) where
  -- the order doesn't wait where no device made anything
  moved : want_on mid.desc None (past_in mid) n ≡ Wait → nat_lt (length old.entries) (length mid.entries) ≡ true
  moved waits =
      by_bool (nat_lt (length old.entries) (length mid.entries)) (λ b. b ≡ true) (λ grown. refl)
      (λ e.
      let steps : length (all_stepped old).entries ≡ length mid.entries = ap (λ (s : CoreState). length s.entries) (sym is.stepped) in
      let short : length mid.entries ≤ length old.entries = ltb-false (length old.entries) (length mid.entries) e in
      let still : Unmoved (device_count old.desc) old = unmoved (device_count old.desc) old (omega (arith, short, steps)) in
      let rests : AllStill old.desc (past_in old) = none_still old is.first still.none None (past_in old) is.was.run in
      let same : mid ≡ old = is.stepped ∙ still.same in
      absurd (rest_moves old.desc (past_in old) n is.first.valid is.was.run.legal (still_rests old.desc (past_in old) is.first.valid is.was.run.legal rests)
      (ap (λ (s : CoreState). want_on s.desc None (past_in s) n) (sym same) ∙ waits)))

  by : (want : Want) → want ≡ want_on mid.desc None (past_in mid) n → TurnTells (turn_of want) old (with_made (entry_made want) mid) n
  by Wait wants = falls old mid None (past_in old) is.on (moved (sym wants))
  by Done wants =
      let done = done_of_done mid.desc is.fit.valid (past_in mid) is.way.run.legal n (sym wants) in
      let told = done_tells mid.desc (past_in mid) is.way.going done.0 in (told.0, told.1, done.1)
  by (Do Abort) wants = sym (want_made mid.desc is.fit.valid (past_in mid) is.way.run.legal n Abort (sym wants)).2
  by (Do entry) wants =
      let may = (want_may mid.desc None (past_in mid) mid.world n entry is.fit.valid is.way.run (sym wants)).0 in
      let one = one_falls joint mid entry is.fit is.way may in
      let room = is.on.room in omega (arith, one, room)

  pub turn_tells : (turn : Turn) (new : CoreState) → turn ≡ turn_of (want_on mid.desc None (past_in mid) n)
      → new ≡ with_made (entry_made (want_on mid.desc None (past_in mid) n)) mid → TurnTells turn old new n
  turn_tells turn new turned moves =
      subst (λ (t : Turn). TurnTells t old new n) (sym turned)
      (subst (λ (s : CoreState). TurnTells (turn_of (want_on mid.desc None (past_in mid) n)) old s n) (sym moves)
      (by (want_on mid.desc None (past_in mid) n) refl))

  pub tells_by : {E : Type 0} (r : Result Turn E) (new : CoreState) → IfOk r (λ turn. turn ≡ turn_of (want_on mid.desc None (past_in mid) n))
      → OnOk r (new ≡ with_made (entry_made (want_on mid.desc None (past_in mid) n)) mid) → IfOk r (λ turn. TurnTells turn old new n)
  tells_by (Ok turn) new turned moves = turn_tells turn new turned moves
  tells_by (Err e) new turned moves = tt

-- a core that made an entry or none has the same description
pub same_desc_by : {T E : Type 0} (r : Result T E) (old new : CoreState) (o : Option Entry) → OnOk r (new ≡ with_made o old) → OnErr r (new ≡ old)
    → new.desc ≡ old.desc
same_desc_by (Ok value) old new o made unmade = ap (λ (s : CoreState). s.desc) made ∙ made_desc o old
same_desc_by (Err e) old new o made unmade = ap (λ (s : CoreState). s.desc) unmade
