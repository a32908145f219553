-- A source under way with one entry more.
use Rattle.std.proofs.Common.{◌≡◌, ℕ, Bool, true, false, List, [], ◌∷◌, Option, Some, unwrap_or, ap, sym, ◌∙◌, subst}
use Rattle.std.proofs.lemmas.Bool.{true≢false}
use Rattle.std.proofs.lemmas.List.{reverse-append}
use Rattle.vfm_types.specs.declared.desc.Desc.{Desc}
use Rattle.vfm_types.specs.declared.entry.Entry.{Entry}
use Rattle.vfm_types.specs.declared.entry.Entry.TheVariants.{Abort, Joint, Resume}
use Rattle.vfm_types.specs.Deliveries.{machine_of}
use Rattle.vfm_types.specs.Machine.{Machine, described}
use Rattle.vfm_plain.specs.Shape.{HasShape}
use Rattle.vfm_laws.proofs.Enabled.{plain_exists}
use Rattle.vfm_parts.specs.Parts.{World}
use Rattle.vfm_parts.specs.Steps.{after_on}
use Rattle.vfm_order.specs.LookAfter.{is_over}
use Rattle.vfm_core.specs.CoreState.{CoreState, FitsDesc, IsAfter, with_entry}
use Rattle.vfm_core.specs.Machines.{machine_in}
use Rattle.vfm_core.proofs.Machines.{after_plain, shape_in}
use Rattle.vfm_drive.specs.Rounds.{with_made}
use Rattle.vfm_streams.specs.Sent.{sent_in_passes}
use Rattle.vfm_outlets.specs.declared.outlets.Outlets.{Outlets}
use Rattle.vfm_outlets.specs.Carrying.{Carries}
use Rattle.vfm_source.specs.Moving.{Conveys, IsMoving, IsUnderWay, KeepsJoint, course_in, is_abort, kept_at, past_in, then_made}

-- the entry is Resume
abbrev pub is_resume : Entry → Bool
is_resume Resume = true
is_resume entry = false

-- a core that made one entry more
pub past_more : (core : CoreState) (entry : Entry) (w : World) → past_in (with_entry entry w core) ≡ entry ∷ past_in core
past_more core entry w = reverse-append core.entries (entry ∷ [])

-- the machine in the parts of a legal list is that of the list
pub machine_now : (D : Desc) (past : List Entry) (w : World) → FitsDesc D w → IsAfter D past w → machine_in w ≡ machine_of D past
machine_now D past w fit is =
    ap (λ (o : Option Machine). unwrap_or o (described D)) (sym (after_plain D past w fit is) ∙ plain_exists D fit.valid past is.legal)

-- at Joint the machine as it stands is that at the joint stop; no other entry changes which one that is
joint_kept : (D : Desc) (entry : Entry) (past : List Entry) (now joint : Machine) → now ≡ machine_of D (entry ∷ past) → KeepsJoint D past joint
    → KeepsJoint D (entry ∷ past) (kept_at entry now joint)
joint_kept D Joint past now joint is kept = λ reached. is
joint_kept D entry past now joint is kept = kept

kept_shape : (D : Desc) (entry : Entry) (now joint : Machine) → HasShape D now → HasShape D joint → HasShape D (kept_at entry now joint)
kept_shape D Joint now joint shape_now shape = shape_now
kept_shape D entry now joint shape_now shape = shape

still_going : (entry : Entry) (past : List Entry) → is_abort entry ≡ false → is_resume entry ≡ false → is_over past ≡ false → is_over (entry ∷ past) ≡ false
still_going Abort past here taken going = absurd (true≢false here)
still_going Resume past here taken going = absurd (true≢false taken)
still_going entry past here taken going = going

module _ (core new : CoreState) (entry : Entry) (joint kept : Machine) (fit : FitsDesc new.desc new.world) (made : new ≡ with_made (Some entry) core)
    (here : is_abort entry ≡ false) (taken : is_resume entry ≡ false) (is_kept : kept ≡ kept_at entry (machine_in new.world) joint) where
  longer : past_in new ≡ entry ∷ past_in core
  longer = ap past_in made ∙ past_more core entry (after_on core.desc core.world entry)

  same_desc : new.desc ≡ core.desc
  same_desc = ap (λ (s : CoreState). s.desc) made

  pub way_on : IsUnderWay joint core → IsAfter new.desc (entry ∷ past_in core) new.world → IsUnderWay kept new
  way_on way run =
      record {
        run = subst (λ (list : List Entry). IsAfter new.desc list new.world) (sym longer) run;
        keeps =
            subst (KeepsJoint new.desc (past_in new)) (sym is_kept)
            (subst (λ (list : List Entry). KeepsJoint new.desc list (kept_at entry (machine_in new.world) joint)) (sym longer)
            (joint_kept new.desc entry (past_in core) (machine_in new.world) joint
            (machine_now new.desc (entry ∷ past_in core) new.world fit run)
            (subst (λ (D : Desc). KeepsJoint D (past_in core) joint) (sym same_desc) way.keeps)));
        shape =
            subst (HasShape new.desc) (sym is_kept)
            (kept_shape new.desc entry (machine_in new.world) joint (shape_in new.desc new.world fit)
            (subst (λ (D : Desc). HasShape D joint) (sym same_desc) way.shape));
        going = ap is_over longer ∙ still_going entry (past_in core) here taken way.going;
      }

  pub moved : {L : Type 0} (sent : L → Option (List ℕ)) (starts : List (Option (List ℕ))) (before outlets : Outlets L)
      → IsMoving sent starts joint core before → Conveys sent (then_made entry (course_in starts core)) new outlets
      → IsMoving sent starts kept new outlets
  moved sent starts before outlets moving conveys =
      record {
        way = way_on moving.way conveys.run;
        carries =
            subst (λ (list : List Entry). Carries sent new.desc starts (sent_in_passes new.desc list) outlets) (sym longer) conveys.carries;
      }

-- and one that made none
pub stayed : {L : Type 0} (sent : L → Option (List ℕ)) (starts : List (Option (List ℕ))) (core new : CoreState) (joint : Machine) (before outlets : Outlets L)
    → new ≡ core → IsMoving sent starts joint core before → Conveys sent (course_in starts core) new outlets → IsMoving sent starts joint new outlets
stayed sent starts core new joint before outlets same moving conveys =
    record {
      way = subst (IsUnderWay joint) (sym same) moving.way;
      carries =
          subst (λ (list : List Entry). Carries sent new.desc starts (sent_in_passes new.desc list) outlets) (ap past_in (sym same)) conveys.carries;
    }

-- what is under way conveys the run that it made
pub conveys_of : {L : Type 0} (sent : L → Option (List ℕ)) (starts : List (Option (List ℕ))) (core : CoreState) (joint : Machine) (outlets : Outlets L)
    → IsMoving sent starts joint core outlets → Conveys sent (course_in starts core) core outlets
conveys_of sent starts core joint outlets moving = record { run = moving.way.run; carries = moving.carries }
