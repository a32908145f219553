-- The steps of devices: they send nothing.
use Rattle.std.proofs.Common.{◌≡◌, ℕ, zero, suc, ◌<◌, ◌≤◌, ◌%◌, true, false, List, ◌∷◌, length, Option, None, Some, refl, ap, sym, ◌∙◌, subst, arith}
use Rattle.std.proofs.lemmas.Bool.{false≢true, true≢false}
use Rattle.vfm_types.specs.declared.desc.Desc.{Desc}
use Rattle.vfm_types.specs.declared.entry.Entry.{Entry}
use Rattle.vfm_types.specs.declared.entry.Entry.TheVariants.{Issue, Deliver, Complete}
use Rattle.vfm_types.specs.Desc.{device_count}
use Rattle.vfm_types.specs.Machine.{Machine}
use Rattle.vfm_parts.specs.Parts.{dev_at}
use Rattle.vfm_parts.specs.Steps.{after_on}
use Rattle.vfm_device_part.specs.DeviceSteps.{is_step_of}
use Rattle.vfm_device_part.specs.Pick.{enabled_steps}
use Rattle.vfm_device_part.proofs.AllowedSteps.{enabled_allowed}
use Rattle.vfm_order.specs.Coordinator.{is_coordinators}
use Rattle.vfm_order.specs.LookAfter.{is_over}
use Rattle.vfm_core.specs.CoreState.{CoreState, FitsDesc, IsAfter}
use Rattle.vfm_drive.specs.Rounds.{devices_stepped, first_step, with_made}
use Rattle.vfm_drive.proofs.Runs.{run_after}
use Rattle.vfm_drive.proofs.Steps.{step_fine, step_named, stepped_desc, stepped_fits}
use Rattle.vfm_streams.specs.Sent.{Sent, sent_in_passes}
use Rattle.vfm_outlets.specs.declared.outlets.Outlets.{Outlets}
use Rattle.vfm_outlets.specs.Carrying.{Carries}
use Rattle.vfm_source.specs.Moving.{IsMoving, KeepsJoint, past_in}
use Rattle.vfm_source.proofs.Moves.{past_more}

-- a step of a device is an entry of a request
request_of : (d : ℕ) (entry : Entry) → is_step_of d entry ≡ true → is_coordinators entry ≡ false
request_of d (Issue e n) own = refl
request_of d (Deliver e n) own = refl
request_of d (Complete e n) own = refl
request_of d entry own = absurd (false≢true own)

-- such an entry sends nothing, is no Joint, and neither gives up nor takes over
request_sends : (D : Desc) (entry : Entry) (past : List Entry) → is_coordinators entry ≡ false
    → sent_in_passes D (entry ∷ past) ≡ sent_in_passes D past
request_sends D (Issue e n) past own = refl
request_sends D (Deliver e n) past own = refl
request_sends D (Complete e n) past own = refl
request_sends D entry past own = absurd (true≢false own)

request_joint : (D : Desc) (entry : Entry) (past : List Entry) (joint : Machine) → is_coordinators entry ≡ false → KeepsJoint D past joint
    → KeepsJoint D (entry ∷ past) joint
request_joint D (Issue e n) past joint own kept = kept
request_joint D (Deliver e n) past joint own kept = kept
request_joint D (Complete e n) past joint own kept = kept
request_joint D entry past joint own kept = absurd (true≢false own)

request_going : (entry : Entry) (past : List Entry) → is_coordinators entry ≡ false → is_over (entry ∷ past) ≡ is_over past
request_going (Issue e n) past own = refl
request_going (Deliver e n) past own = refl
request_going (Complete e n) past own = refl
request_going entry past own = absurd (true≢false own)

-- so a source with one more of them is under way as before
request_moves : {L : Type 0} (sent : L → Option (List ℕ)) (starts : List (Option (List ℕ))) (core : CoreState) (entry : Entry) (joint : Machine)
    (outlets : Outlets L) → is_coordinators entry ≡ false → IsAfter core.desc (entry ∷ past_in core) (after_on core.desc core.world entry)
    → IsMoving sent starts joint core outlets → IsMoving sent starts joint (with_made (Some entry) core) outlets
request_moves sent starts core entry joint outlets own run moving =
    let D = core.desc in
    let new : CoreState = with_made (Some entry) core in
    let longer : past_in new ≡ entry ∷ past_in core = past_more core entry (after_on core.desc core.world entry) in
    record {
      way = record {
        run = subst (λ (list : List Entry). IsAfter D list new.world) (sym longer) run;
        keeps =
            subst (λ (list : List Entry). KeepsJoint D list joint) (sym longer)
            (request_joint D entry (past_in core) joint own moving.way.keeps);
        shape = moving.way.shape;
        going = ap is_over longer ∙ request_going entry (past_in core) own ∙ moving.way.going;
      };
      carries =
          subst (λ (all : List Sent). Carries sent D starts all outlets)
          (sym (ap (sent_in_passes D) longer ∙ request_sends D entry (past_in core) own)) moving.carries;
    }

-- ---- the first steps of devices

device_moves : {L : Type 0} (sent : L → Option (List ℕ)) (starts : List (Option (List ℕ))) (core : CoreState) (d : ℕ) (joint : Machine)
    (outlets : Outlets L) → FitsDesc core.desc core.world → d < device_count core.desc → IsMoving sent starts joint core outlets
    → IsMoving sent starts joint (with_made (first_step d core) core) outlets
device_moves sent starts core d joint outlets fit inside moving = by (first_step d core) refl
  where
    by : (o : Option Entry) → first_step d core ≡ o → IsMoving sent starts joint (with_made o core) outlets
    by None is = moving
    by (Some entry) is =
        let steps = enabled_steps core.desc d (dev_at core.world d) in
        let own = (enabled_allowed core.desc d (dev_at core.world d) (0 % length steps) entry (fit.fits.dev d inside) is).own in
        request_moves sent starts core entry joint outlets (request_of d entry own)
        (run_after core entry fit (step_named core d fit inside entry is) (step_fine core d fit inside entry is) None (past_in core) moving.way.run)
        moving

record Moved {L : Type 0} (sent : L → Option (List ℕ)) (starts : List (Option (List ℕ))) (joint : Machine) (core : CoreState) (outlets : Outlets L) : Type 0 where
  fit : FitsDesc core.desc core.world
  moving : IsMoving sent starts joint core outlets

moved_by : {L : Type 0} (sent : L → Option (List ℕ)) (starts : List (Option (List ℕ))) (joint : Machine) (outlets : Outlets L) (n : ℕ) (core : CoreState)
    → FitsDesc core.desc core.world → n ≤ device_count core.desc → IsMoving sent starts joint core outlets
    → Moved sent starts joint (devices_stepped n core) outlets
moved_by sent starts joint outlets zero core fit within moving = record { fit = fit; moving = moving }
moved_by sent starts joint outlets (suc d) core fit within moving =
    let before = moved_by sent starts joint outlets d core fit (omega (arith, within)) moving in
    let inside : d < device_count (devices_stepped d core).desc =
    subst (λ (D : Desc). d < device_count D) (sym (stepped_desc d core)) (omega (arith, within)) in
    record {
      fit = stepped_fits (devices_stepped d core) d before.fit inside;
      moving = device_moves sent starts (devices_stepped d core) d joint outlets before.fit inside before.moving;
    }

-- once each device has stepped, the source is under way as before
pub devices_move : {L : Type 0} (sent : L → Option (List ℕ)) (starts : List (Option (List ℕ))) (joint : Machine) (outlets : Outlets L) (core : CoreState)
    → FitsDesc core.desc core.world → IsMoving sent starts joint core outlets
    → IsMoving sent starts joint (devices_stepped (device_count core.desc) core) outlets
devices_move sent starts joint outlets core fit moving =
    (moved_by sent starts joint outlets (device_count core.desc) core fit (omega arith) moving).moving

-- ---- what each entry of a request keeps of the run

record Kept (P : List Entry → Type 0) (core : CoreState) : Type 0 where
  fit : FitsDesc core.desc core.world
  kept : P (past_in core)

module _ (P : List Entry → Type 0) (step : (entry : Entry) (past : List Entry) → is_coordinators entry ≡ false → P past → P (entry ∷ past)) where
  device_keeps : (core : CoreState) (d : ℕ) → FitsDesc core.desc core.world → d < device_count core.desc → P (past_in core)
      → P (past_in (with_made (first_step d core) core))
  device_keeps core d fit inside kept = by (first_step d core) refl
    where
      by : (o : Option Entry) → first_step d core ≡ o → P (past_in (with_made o core))
      by None is = kept
      by (Some entry) is =
          let steps = enabled_steps core.desc d (dev_at core.world d) in
          let own = (enabled_allowed core.desc d (dev_at core.world d) (0 % length steps) entry (fit.fits.dev d inside) is).own in
          subst P (sym (past_more core entry (after_on core.desc core.world entry))) (step entry (past_in core) (request_of d entry own) kept)

  kept_by : (n : ℕ) (core : CoreState) → FitsDesc core.desc core.world → n ≤ device_count core.desc → P (past_in core) → Kept P (devices_stepped n core)
  kept_by zero core fit within kept = record { fit = fit; kept = kept }
  kept_by (suc d) core fit within kept =
      let before = kept_by d core fit (omega (arith, within)) kept in
      let inside : d < device_count (devices_stepped d core).desc =
      subst (λ (D : Desc). d < device_count D) (sym (stepped_desc d core)) (omega (arith, within)) in
      record {
        fit = stepped_fits (devices_stepped d core) d before.fit inside;
        kept = device_keeps (devices_stepped d core) d before.fit inside before.kept;
      }

  -- is kept once each device has stepped
  pub devices_keep : (core : CoreState) → FitsDesc core.desc core.world → P (past_in core) → P (past_in (devices_stepped (device_count core.desc) core))
  devices_keep core fit kept = (kept_by (device_count core.desc) core fit (omega arith) kept).kept
