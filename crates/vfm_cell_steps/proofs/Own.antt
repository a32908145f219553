-- An Issue or a Complete on the cell of its device.
use Rattle.std.proofs.Common.{◌≡◌, ℕ, ◌+◌, ◌<◌, ◌==◌, ◌&&◌, Bool, true, [], ◌∷◌, Some, None, is_none, refl, ap, sym, subst, ◌∙◌, eqb-true, lt-ltb}
use Rattle.std.proofs.lemmas.Bool.{eq-eqb, cond-true, false≢true}
use Rattle.vfm_types.specs.declared.desc.Desc.{Desc}
use Rattle.vfm_types.specs.declared.entry.Entry.{Entry}
use Rattle.vfm_types.specs.declared.entry.Entry.TheVariants.{Issue, Complete}
use Rattle.vfm_types.specs.Desc.{device_count}
use Rattle.vfm_base.specs.Tests.{first_failed}
use Rattle.vfm_parts.specs.Parts.{Dev, Parts}
use Rattle.vfm_device_part.specs.DeviceSteps.{is_own_of, own_after, own_fault}
use Rattle.vfm_parts.specs.Steps.{parts_after, dev_after}
use Rattle.vfm_parts.specs.IssueStep.{issue_conditions_in, issued_dev}
use Rattle.vfm_parts.specs.CompleteStep.{complete_conditions_in, completed_dev}
use Rattle.vfm_cells.specs.Cells.{Cell, device_cell, dev_number, dev_or_none}
use Rattle.vfm_cells.specs.CellSteps.{given_parts, may_step, step_of}
use Rattle.vfm_cells.proofs.Whole.{cell_dev}

-- the parts in the cell of device d alone
abbrev alone : Desc → ℕ → Dev → Parts
alone D d own = given_parts D (dev_number d ∷ []) (device_cell own ∷ [])

alone_own : (D : Desc) (d : ℕ) (own : Dev) → d < device_count D → (alone D d own).dev d ≡ own
alone_own D d own inside =
    cond-true _ _ _ (lt-ltb d (device_count D) inside) ∙ ap dev_or_none (cond-true _ _ _ (eq-eqb (d + 1) (d + 1) refl))

-- an entry that may be made on the device's cell makes of it what it makes of the device
made : (D : Desc) (d : ℕ) (entry : Entry) (own after : Dev) → d < device_count D
    → may_step D (alone D d own) entry (dev_number d ∷ []) ≡ true → dev_after D (alone D d own) entry d ≡ after
    → step_of D entry (dev_number d ∷ []) (device_cell own ∷ []) ≡ Some (device_cell after ∷ [])
made D d entry own after inside may told =
    cond-true _ _ _ may
    ∙ ap (λ (c : Cell). Some (c ∷ [])) (cell_dev D (parts_after D (alone D d own) entry) d inside ∙ ap device_cell told)

all_true : {a b c d : Bool} → a ≡ true → b ≡ true → c ≡ true → d ≡ true → (a && b && c && d) ≡ true
all_true {a} {b} {c} {d} p q r s = rw (p, q, r, s) refl

same_one : (d : ℕ) → (dev_number d == dev_number d && true) ≡ true
same_one d = ap (λ (b : Bool). b && true) (eq-eqb (d + 1) (d + 1) refl)

pub issue_made : (D : Desc) (d n : ℕ) (own : Dev) → d < device_count D → first_failed (issue_conditions_in D d n own) ≡ None
    → step_of D (Issue d n) (dev_number d ∷ []) (device_cell own ∷ []) ≡ Some (device_cell (issued_dev n own) ∷ [])
issue_made D d n own inside fine =
    made D d (Issue d n) own (issued_dev n own) inside
    (all_true (lt-ltb d (device_count D) inside) refl (same_one d)
    (ap (λ (dev : Dev). is_none (first_failed (issue_conditions_in D d n dev))) (alone_own D d own inside) ∙ ap is_none fine))
    (cond-true _ _ _ (eq-eqb d d refl) ∙ ap (issued_dev n) (alone_own D d own inside))

pub complete_made : (D : Desc) (d n : ℕ) (own : Dev) → d < device_count D → first_failed (complete_conditions_in n own) ≡ None
    → step_of D (Complete d n) (dev_number d ∷ []) (device_cell own ∷ []) ≡ Some (device_cell (completed_dev D d n own) ∷ [])
complete_made D d n own inside fine =
    made D d (Complete d n) own (completed_dev D d n own) inside
    (all_true (lt-ltb d (device_count D) inside) refl (same_one d)
    (ap (λ (dev : Dev). is_none (first_failed (complete_conditions_in n dev))) (alone_own D d own inside) ∙ ap is_none fine))
    (cond-true _ _ _ (eq-eqb d d refl) ∙ ap (completed_dev D d n) (alone_own D d own inside))

-- an Issue or a Complete of device d that breaks no rule
pub own_made : (D : Desc) (d : ℕ) (entry : Entry) (own after : Dev) → d < device_count D → is_own_of d entry ≡ true
    → own_fault D entry own ≡ None → after ≡ own_after D entry own
    → step_of D entry (dev_number d ∷ []) (device_cell own ∷ []) ≡ Some (device_cell after ∷ [])
own_made D d (Issue k n) own after inside here fine told =
    let same : k ≡ d = eqb-true k d here in
    subst (λ (j : ℕ). first_failed (issue_conditions_in D j n own) ≡ None → after ≡ issued_dev n own
    → step_of D (Issue j n) (dev_number d ∷ []) (device_cell own ∷ []) ≡ Some (device_cell after ∷ [])) (sym same)
    (λ allowed e. issue_made D d n own inside allowed ∙ ap (λ (dev : Dev). Some (device_cell dev ∷ [])) (sym e)) fine told
own_made D d (Complete k n) own after inside here fine told =
    let same : k ≡ d = eqb-true k d here in
    subst (λ (j : ℕ). first_failed (complete_conditions_in n own) ≡ None → after ≡ completed_dev D j n own
    → step_of D (Complete j n) (dev_number d ∷ []) (device_cell own ∷ []) ≡ Some (device_cell after ∷ [])) (sym same)
    (λ allowed e. complete_made D d n own inside allowed ∙ ap (λ (dev : Dev). Some (device_cell dev ∷ [])) (sym e)) fine told
own_made D d entry own after inside here fine told = absurd (false≢true here)
