-- The steps of devices, and what the order wants, as entries of a run.
use Rattle.std.proofs.Common.{◌≡◌, ◌↔◌, ℕ, zero, suc, ◌+◌, ◌-◌, ◌^◌, ◌<◌, ◌≤◌, ◌%◌, true, nat_lt, List, [], ◌∷◌, ◌++◌, length, Option, None, Some, IsTrue, refl, ap, sym, ◌∙◌, subst, arith, eq-eqb, eqb-true, ltb-true}
use Rattle.std.proofs.lemmas.Bool.{false≢true, true≢false, lt-ltb, cases_lt}
use Rattle.std.proofs.lemmas.Option.{none-some}
use Rattle.std.proofs.lemmas.List.{length-append}
use Rattle.std.proofs.Common.{⊎_elim}
use Rattle.vfm_types.specs.declared.desc.Desc.{Desc}
use Rattle.vfm_types.specs.declared.entry.Entry.{Entry}
use Rattle.vfm_types.specs.declared.entry.Entry.TheVariants.{Issue, Deliver, Complete}
use Rattle.vfm_types.specs.Desc.{device_count}
use Rattle.vfm_types.specs.Phases.{pass_count}
use Rattle.vfm_types.specs.Valid.{IsValid}
use Rattle.vfm_plain.specs.Legal.{is_entry_of}
use Rattle.vfm_laws.proofs.Counts.{passes_in_all}
use Rattle.vfm_parts.specs.Parts.{World, dev_at, parts_in}
use Rattle.vfm_parts.specs.Steps.{fault_on}
use Rattle.vfm_device_part.specs.DeviceSteps.{is_step_of}
use Rattle.vfm_device_part.specs.Pick.{enabled_steps}
use Rattle.vfm_device_part.proofs.AllowedSteps.{enabled_allowed, picked_none_iff}
use Rattle.vfm_device_part.proofs.Entries.{fault_is}
use Rattle.vfm_quiet.specs.declared.move_look.MoveLook.{MoveLook}
use Rattle.vfm_quiet.specs.declared.want.Want.{Want}
use Rattle.vfm_quiet.specs.declared.want.Want.TheVariants.{Do, Wait, Done}
use Rattle.vfm_quiet.specs.Order.{next_want}
use Rattle.vfm_order.specs.Alike.{IsAlike}
use Rattle.vfm_order.specs.Coordinator.{AllStill, MayMake, is_coordinators}
use Rattle.vfm_order.specs.LookAfter.{look_after, staged_look_after}
use Rattle.vfm_order.proofs.SameLooks.{same_want}
use Rattle.vfm_order.proofs.StagedLooks.{staged_made}
use Rattle.vfm_order.proofs.Wants.{want_made}
use Rattle.vfm_core.specs.CoreState.{CoreState, FitsDesc, IsAfter, IsStagedOn}
use Rattle.vfm_drive.specs.Rounds.{devices_stepped, entry_wanted, first_step, made_on, with_made}
use Rattle.vfm_drive.specs.Runs.{GoesOn, IsOn, look_on, want_on, whole}
use Rattle.vfm_drive.proofs.Runs.{fine_on, fits_after, may_on, none_made, one_made, run_after, then_on}

-- ---- the step of a device

-- a step of a device that is there names what the machine has
step_there : (D : Desc) (d : ℕ) (entry : Entry) → d < device_count D → is_step_of d entry ≡ true → IsTrue (is_entry_of D entry)
step_there D d (Issue e n) inside own = ap (λ (k : ℕ). nat_lt k (device_count D)) (eqb-true e d own) ∙ lt-ltb d (device_count D) inside
step_there D d (Deliver e n) inside own = ap (λ (k : ℕ). nat_lt k (device_count D)) (eqb-true e d own) ∙ lt-ltb d (device_count D) inside
step_there D d (Complete e n) inside own = ap (λ (k : ℕ). nat_lt k (device_count D)) (eqb-true e d own) ∙ lt-ltb d (device_count D) inside
step_there D d entry inside own = absurd (false≢true own)

module _ (core : CoreState) (d : ℕ) (fit : FitsDesc core.desc core.world) (inside : d < device_count core.desc) where
  -- what device d makes first names what the machine has
  pub step_named : (entry : Entry) → first_step d core ≡ Some entry → IsTrue (is_entry_of core.desc entry)
  step_named entry is =
      let steps = enabled_steps core.desc d (dev_at core.world d) in
      step_there core.desc d entry inside (enabled_allowed core.desc d (dev_at core.world d) (0 % length steps) entry (fit.fits.dev d inside) is).own

  -- and breaks no rule
  pub step_fine : (entry : Entry) → first_step d core ≡ Some entry → fault_on core.desc core.world entry ≡ None
  step_fine entry is =
      let steps = enabled_steps core.desc d (dev_at core.world d) in
      let allowed = enabled_allowed core.desc d (dev_at core.world d) (0 % length steps) entry (fit.fits.dev d inside) is in
      fault_is core.desc (parts_in core.world) d entry allowed.own ∙ allowed.fine

  -- there is none exactly where none may be made
  pub none_iff : (origin : Option (List Entry)) (mine : List Entry) → IsOn core.desc origin mine core.world
      → (first_step d core ≡ None) ↔ ((entry : Entry) → is_step_of d entry ≡ true → MayMake core.desc (whole origin mine) entry → ⊥)
  none_iff origin mine is =
      let iff = picked_none_iff core.desc d 0 (dev_at core.world d) (fit.fits.dev d inside) in (
        λ none entry own may.
            iff.0 none entry own
            (sym (fault_is core.desc (parts_in core.world) d entry own) ∙ fine_on core.desc origin mine core.world entry is may),
        λ barred.
            iff.1 (λ entry own fine.
            barred entry own (may_on core.desc origin mine core.world entry is (step_there core.desc d entry inside own)
            (fault_is core.desc (parts_in core.world) d entry own ∙ fine))),
      )

  -- with it made the parts fit, and the run goes on
  pub stepped_fits : FitsDesc (with_made (first_step d core) core).desc (with_made (first_step d core) core).world
  stepped_fits = by (first_step d core) refl
    where
      by : (o : Option Entry) → first_step d core ≡ o → FitsDesc (with_made o core).desc (with_made o core).world
      by None is = fit
      by (Some entry) is = fits_after core entry fit (step_named entry is) (step_fine entry is)

  pub stepped_run : (origin : Option (List Entry)) (mine : List Entry) → IsOn core.desc origin mine core.world
      → IsOn (with_made (first_step d core) core).desc origin (made_on (first_step d core) mine) (with_made (first_step d core) core).world
  stepped_run origin mine run = by (first_step d core) refl
    where
      by : (o : Option Entry) → first_step d core ≡ o → IsOn (with_made o core).desc origin (made_on o mine) (with_made o core).world
      by None is = run
      by (Some entry) is = run_after core entry fit (step_named entry is) (step_fine entry is) origin mine run

  pub stepped_on : (origin : Option (List Entry)) (mine : List Entry) → IsOn core.desc origin mine core.world
      → GoesOn core (with_made (first_step d core) core) origin mine
  stepped_on origin mine run = by (first_step d core) refl
    where
      by : (o : Option Entry) → first_step d core ≡ o → GoesOn core (with_made o core) origin mine
      by None is = none_made core origin mine run
      by (Some entry) is = one_made core entry fit (step_named entry is) (step_fine entry is) origin mine run

-- ---- the steps of all devices

pub made_desc : (o : Option Entry) (core : CoreState) → (with_made o core).desc ≡ core.desc
made_desc None core = refl
made_desc (Some entry) core = refl

pub made_longer : (o : Option Entry) (core : CoreState) → length core.entries ≤ length (with_made o core).entries
made_longer None core = omega arith
made_longer (Some entry) core = let all = length-append core.entries (entry ∷ []) in omega (arith, all)

pub stepped_desc : (n : ℕ) (core : CoreState) → (devices_stepped n core).desc ≡ core.desc
stepped_desc zero core = refl
stepped_desc (suc d) core =
    made_desc (first_step d (devices_stepped d core)) (devices_stepped d core) ∙ stepped_desc d core

pub stepped_longer : (n : ℕ) (core : CoreState) → length core.entries ≤ length (devices_stepped n core).entries
stepped_longer zero core = omega arith
stepped_longer (suc d) core =
    let before = stepped_longer d core in
    let more = made_longer (first_step d (devices_stepped d core)) (devices_stepped d core) in
    omega (arith, before, more)

-- what holds after the steps of the n first devices
record Stepped (n : ℕ) (core : CoreState) : Type 0 where
  fit : FitsDesc (devices_stepped n core).desc (devices_stepped n core).world
  on : (origin : Option (List Entry)) (mine : List Entry) → IsOn core.desc origin mine core.world → GoesOn core (devices_stepped n core) origin mine

stepped : (n : ℕ) (core : CoreState) → FitsDesc core.desc core.world → n ≤ device_count core.desc → Stepped n core
stepped zero core fit within = record { fit = fit; on = none_made core }
stepped (suc d) core fit within =
    let before = stepped d core fit (omega (arith, within)) in
    let inside : d < device_count (devices_stepped d core).desc =
    subst (λ (D : Desc). d < device_count D) (sym (stepped_desc d core)) (omega (arith, within)) in
    record {
      fit = stepped_fits (devices_stepped d core) d before.fit inside;
      on = λ origin mine run.
          let first = before.on origin mine run in
          then_on core (devices_stepped d core) (devices_stepped (suc d) core) origin mine first
          (stepped_on (devices_stepped d core) d before.fit inside origin (first.more ++ mine) first.run);
    }

pub all_fit : (core : CoreState) → FitsDesc core.desc core.world
    → FitsDesc (devices_stepped (device_count core.desc) core).desc (devices_stepped (device_count core.desc) core).world
all_fit core fit = (stepped (device_count core.desc) core fit (omega arith)).fit

pub all_on : (core : CoreState) → FitsDesc core.desc core.world → (origin : Option (List Entry)) (mine : List Entry) → IsOn core.desc origin mine core.world
    → GoesOn core (devices_stepped (device_count core.desc) core) origin mine
all_on core fit = (stepped (device_count core.desc) core fit (omega arith)).on

-- where the journal is no longer than before, no device had a step
pub record Unmoved (n : ℕ) (core : CoreState) : Type 0 where
  pub same : devices_stepped n core ≡ core
  pub none : (d : ℕ) → d < n → first_step d core ≡ None

pub unmoved : (n : ℕ) (core : CoreState) → length (devices_stepped n core).entries ≤ length core.entries → Unmoved n core
unmoved zero core short = record { same = refl; none = λ d h. absurd (omega (arith, h)) }
unmoved (suc d) core short =
    let longer = made_longer (first_step d (devices_stepped d core)) (devices_stepped d core) in
    let before = unmoved d core (omega (arith, short, longer)) in
    by before (first_step d core) refl
  where
    longer_by : (entry : Entry) → length (with_made (Some entry) core).entries ≡ length core.entries + 1
    longer_by entry = length-append core.entries (entry ∷ [])

    by : Unmoved d core → (o : Option Entry) → first_step d core ≡ o → Unmoved (suc d) core
    by before None is =
        record {
          same = ap (λ (c : CoreState). with_made (first_step d c) c) before.same ∙ ap (λ (o : Option Entry). with_made o core) is;
          none = λ k h.
              ⊎_elim (λ (low : k < d). before.none k low)
              (λ (high : d ≤ k). let same : k ≡ d = omega (arith, h, high) in ap (λ (j : ℕ). first_step j core) same ∙ is) (cases_lt k d);
        }
    by before (Some entry) is =
        let made : length (devices_stepped (suc d) core).entries ≡ length (with_made (Some entry) core).entries =
        ap (λ (c : CoreState). length (with_made (first_step d c) c).entries) before.same
        ∙ ap (λ (o : Option Entry). length (with_made o core).entries) is in
        let more = longer_by entry in
        absurd (omega (arith, made, more, short))

-- a request's entry that may be made is a step of a device
pub none_still : (core : CoreState) → FitsDesc core.desc core.world → ((d : ℕ) → d < device_count core.desc → first_step d core ≡ None)
    → (origin : Option (List Entry)) (mine : List Entry) → IsOn core.desc origin mine core.world → AllStill core.desc (whole origin mine)
none_still core fit none origin mine run = by
  where
    at : (d : ℕ) (entry : Entry) → is_step_of d entry ≡ true → nat_lt d (device_count core.desc) ≡ true → MayMake core.desc (whole origin mine) entry → ⊥
    at d entry own there may =
        let inside = ltb-true d (device_count core.desc) there in
        (none_iff core d fit inside origin mine run).0 (none d inside) entry own may

    by : AllStill core.desc (whole origin mine)
    by (Issue d n) other may = at d (Issue d n) (eq-eqb d d refl) may.0 may
    by (Deliver d n) other may = at d (Deliver d n) (eq-eqb d d refl) may.0 may
    by (Complete d n) other may = at d (Complete d n) (eq-eqb d d refl) may.0 may
    by entry other may = absurd (true≢false other)

-- ---- what the order wants

pub want_may : (D : Desc) (origin : Option (List Entry)) (mine : List Entry) (w : World) (n : ℕ) (entry : Entry) → IsValid D → IsOn D origin mine w
    → want_on D origin mine n ≡ Do entry → MayMake D (whole origin mine) entry × IsTrue (is_coordinators entry)
want_may D None mine w n entry valid is want =
    let made = want_made D valid mine is.legal n entry want in
    (made.0, made.1)
want_may D (Some before) mine w n entry valid is want =
    let made = staged_made D valid before mine is.1 is.0.legal n entry want in
    (made.0, made.1)

-- a look that shows what is seen can be asked for what is wanted
pub passes_few : (D : Desc) (origin : Option (List Entry)) (mine : List Entry) (w : World) (look : MoveLook) → IsValid D → IsOn D origin mine w
    → IsAlike look (look_on D origin mine) → look.passes < 2 ^ 32 - 1
passes_few D None mine w look valid is alike =
    let passes : pass_count mine ≤ D.rounds + 1 = passes_in_all D mine is.legal in
    let rounds : D.rounds ≤ 8 = valid.in_range.rounds in
    let same = alike.passes in
    omega (arith, passes, rounds, same)
passes_few D (Some before) mine w look valid is alike = let same = alike.passes in omega (arith, same)

pub wanted_is : (D : Desc) (origin : Option (List Entry)) (mine : List Entry) (look : MoveLook) (n : ℕ)
    → IsAlike look (look_on D origin mine) → next_want D look n ≡ want_on D origin mine n
wanted_is D origin mine look n alike = same_want D look (look_on D origin mine) n alike

module _ (core : CoreState) (want : Want) (n : ℕ) (fit : FitsDesc core.desc core.world) (origin : Option (List Entry)) (mine : List Entry)
    (run : IsOn core.desc origin mine core.world) (is : want ≡ want_on core.desc origin mine n) where
  pub want_entry : (entry : Entry) → entry_wanted want ≡ Some entry → MayMake core.desc (whole origin mine) entry
  want_entry entry e = by want refl e
    where
      by : (x : Want) → want ≡ x → entry_wanted x ≡ Some entry → MayMake core.desc (whole origin mine) entry
      by (Do other) same some =
          let this : other ≡ entry = cc in
          (want_may core.desc origin mine core.world n entry fit.valid run (sym is ∙ same ∙ ap Do this)).0
      by Wait same some = absurd (none-some entry some)
      by Done same some = absurd (none-some entry some)

  pub want_run : IsOn (with_made (entry_wanted want) core).desc origin (made_on (entry_wanted want) mine) (with_made (entry_wanted want) core).world
  want_run = by (entry_wanted want) refl
    where
      by : (o : Option Entry) → entry_wanted want ≡ o → IsOn (with_made o core).desc origin (made_on o mine) (with_made o core).world
      by None e = run
      by (Some entry) e =
          let may = want_entry entry e in
          run_after core entry fit may.0 (fine_on core.desc origin mine core.world entry run may) origin mine run

  pub want_goes : GoesOn core (with_made (entry_wanted want) core) origin mine
  want_goes = by (entry_wanted want) refl
    where
      by : (o : Option Entry) → entry_wanted want ≡ o → GoesOn core (with_made o core) origin mine
      by None e = none_made core origin mine run
      by (Some entry) e =
          let may = want_entry entry e in
          one_made core entry fit may.0 (fine_on core.desc origin mine core.world entry run may) origin mine run

-- a look that shows what is seen of a core shows what is seen of its run
pub alike_on : (D : Desc) (w : World) (look : MoveLook) → ((past : List Entry) → IsAfter D past w → IsAlike look (look_after D past))
    → ((before mine : List Entry) → IsStagedOn D before mine w → IsAlike look (staged_look_after D before mine))
    → (origin : Option (List Entry)) (mine : List Entry) → IsOn D origin mine w → IsAlike look (look_on D origin mine)
alike_on D w look after staged None mine is = after mine is
alike_on D w look after staged (Some before) mine is = staged before mine is.0

pub one_more : (n : ℕ) → suc n ≡ n + 1
one_more n = omega arith
