-- The world of a staged core beside that of the joined list.
use Rattle.std.proofs.Common.{◌≡◌, ℕ, ◌<◌, ◌≤◌, ◌&&◌, ◌||◌, not, Bool, true, false, is_none, List, [], ◌∷◌, slice_index_or, Option, Some, None, IsTrue, IsFalse, refl, ap, sym, ◌∙◌, subst, arith, ⊎_elim}
use Rattle.std.proofs.lemmas.Bool.{cases_lt, false≢true, and_parts}
use Rattle.std.proofs.lemmas.List.{get_or_past}
use Rattle.vfm_types.specs.declared.desc.Desc.{Desc}
use Rattle.vfm_types.specs.declared.state.MigState.{MigState}
use Rattle.vfm_types.specs.declared.state.MigState.TheVariants.{StopCopy}
use Rattle.vfm_types.specs.declared.entry.Entry.{Entry}
use Rattle.vfm_types.specs.declared.entry.Entry.TheVariants.{Begin, Joint}
use Rattle.vfm_types.specs.declared.entry.Rule.TheVariants.{Order, Joint as Standing}
use Rattle.vfm_types.specs.Desc.{device_count, shape_at}
use Rattle.vfm_types.specs.Machine.{Machine, device_of}
use Rattle.vfm_types.specs.Deliveries.{machine_of}
use Rattle.vfm_types.specs.Phases.{is_begun, is_joint, is_aborted, is_resumed, is_failed, is_on, is_last_begun}
use Rattle.vfm_types.specs.Arcs.{state_of, hold_of, is_stopped}
use Rattle.vfm_types.specs.Outstanding.{outstanding_of}
use Rattle.vfm_types.specs.Blocks.{is_no_pass_open}
use Rattle.vfm_types.specs.Valid.{IsValid}
use Rattle.vfm_plain.specs.Legal.{IsLegal, is_entry_of}
use Rattle.vfm_plain.specs.Rules.{fault_of}
use Rattle.vfm_plain.specs.Ended.{is_last_ended}
use Rattle.vfm_plain.specs.JointRules.{is_all_in_stop_copy}
use Rattle.vfm_laws.specs.Standing.{is_hold_step, StateKept}
use Rattle.vfm_laws.proofs.Conditions.{met}
use Rattle.vfm_laws.proofs.KeptStates.{keeps_states}
use Rattle.vfm_parts.specs.Parts.{Dev, World, parts_in, no_dev, listed}
use Rattle.vfm_parts.specs.PartsOf.{dev_of, world_of}
use Rattle.vfm_parts.specs.Steps.{fault_on, after_on}
use Rattle.vfm_parts.proofs.Listed.{listed_at, length-listed}
use Rattle.vfm_parts.proofs.Words.{closed_is}
use Rattle.vfm_parts.proofs.Allowed.{none_is, on_begun}
use Rattle.vfm_parts.proofs.Faults.{fault_told}
use Rattle.vfm_parts.proofs.Worlds.{world_tells, world_after}
use Rattle.vfm_parts_laws.specs.StagedParts.{staged_dev, staged_world, IsSealed, still_asked, AgreesInRest, IsStagedAfter, is_pass}
use Rattle.vfm_parts_laws.proofs.LookFacts.{bare_ended}
use Rattle.vfm_parts_laws.proofs.Sealed.{fault_same, allowed_same}
use Rattle.vfm_parts_laws.proofs.SealedSteps.{is_refused, refused, after_agrees, after_sealed, world_agrees, world_sealed}

-- ---- a staged world and one more entry

pub staged_allowed : (D : Desc) (past : List Entry) (w : World) (entry : Entry) → IsStagedAfter D past w → IsTrue (is_entry_of D entry)
    → is_none (fault_on D w entry) ≡ is_none (fault_of D past entry)
staged_allowed D past w entry staged named =
    allowed_same D (parts_in w) (parts_in (world_of D past)) staged.own staged.listed staged.agrees entry named
    ∙ ap is_none (fault_told D past (parts_in (world_of D past)) (world_tells D past) entry named)

pub staged_rule : (D : Desc) (past : List Entry) (w : World) (entry : Entry) → IsStagedAfter D past w → IsTrue (is_entry_of D entry)
    → IsFalse (is_pass entry) → fault_on D w entry ≡ fault_of D past entry
staged_rule D past w entry staged named other =
    fault_same D (parts_in w) (parts_in (world_of D past)) staged.own staged.listed staged.agrees entry named other
    ∙ fault_told D past (parts_in (world_of D past)) (world_tells D past) entry named

pub staged_legal : (D : Desc) (past : List Entry) (w : World) (entry : Entry) → IsLegal D past → IsStagedAfter D past w → IsTrue (is_entry_of D entry)
    → fault_on D w entry ≡ None → IsLegal D (entry ∷ past)
staged_legal D past w entry legal staged named fine =
    (named, none_is (fault_of D past entry) (sym (staged_allowed D past w entry staged named) ∙ ap is_none fine), legal)

pub staged_follows : (D : Desc) (past : List Entry) (w : World) (entry : Entry) → IsValid D → IsLegal D past → IsStagedAfter D past w
    → IsTrue (is_entry_of D entry) → fault_on D w entry ≡ None → IsStagedAfter D (entry ∷ past) (after_on D w entry)
staged_follows D past w entry valid legal staged named fine =
    record {
      own = world_sealed D w entry (after_sealed D (parts_in w) staged.own entry going);
      listed = subst (λ (v : World). IsSealed D (parts_in v)) joined (world_sealed D (world_of D past) entry (after_sealed D (parts_in (world_of D past)) staged.listed entry going));
      agrees = subst (λ (v : World). AgreesInRest (parts_in (after_on D w entry)) (parts_in v)) joined
          (world_agrees D w (world_of D past) entry (after_agrees D (parts_in w) (parts_in (world_of D past)) staged.agrees entry going));
    }
  where
    going : is_refused entry ≡ true → ⊥
    going no_more = refused D (parts_in w) staged.own entry no_more fine

    joined : after_on D (world_of D past) entry ≡ world_of D (entry ∷ past)
    joined = world_after D past entry valid (staged_legal D past w entry legal staged named fine)

-- ---- the staged world at first

joint_begun : (D : Desc) (past : List Entry) → IsLegal D past → is_joint past ≡ true → is_begun past ≡ true
joint_begun D [] legal joint = absurd (false≢true joint)
joint_begun D (Begin ∷ past) legal joint = refl
joint_begun D (Joint ∷ past) legal joint =
    let order = met (is_on past && not (is_joint past)) Order ((is_all_in_stop_copy D past, Standing) ∷ []) legal.1 in
    on_begun past (and_parts (is_on past) (not (is_joint past)) order.0).0
joint_begun D (entry ∷ past) legal joint = joint_begun D past legal.2 joint

module _ (D : Desc) (past : List Entry) (valid : IsValid D) (legal : IsLegal D past) (ended : is_last_ended D past ≡ true)
    (kept : is_aborted past ≡ false) (live : is_resumed past ≡ false) (fine : is_failed past ≡ false) where
  abbrev here : Machine
  here = machine_of D past

  two : (is_joint past && is_last_begun past) ≡ true
  two = (and_parts (is_joint past && is_last_begun past) (is_no_pass_open D past) ended).0

  joint : is_joint past ≡ true
  joint = (and_parts (is_joint past) (is_last_begun past) two).0

  begun : is_begun past ≡ true
  begun = joint_begun D past legal joint

  stands : (d : ℕ) → d < device_count D → state_of d past ≡ StopCopy
  stands = (keeps_states D valid past legal).2 joint kept live

  stand_kept : (d : ℕ) → d < device_count D → StateKept D d (state_of d past) (hold_of d past) (outstanding_of D d past)
  stand_kept = (keeps_states D valid past legal).0

  nothing : (d : ℕ) → d < device_count D → outstanding_of D d past ≡ []
  nothing d h = (stand_kept d h).still (ap is_stopped (stands d h))

  unheld : (d : ℕ) → d < device_count D → hold_of d past ≡ None
  unheld d h = go (hold_of d past) refl
    where
      go : (hold : Option MigState) → hold_of d past ≡ hold → hold_of d past ≡ None
      go None e = e
      go (Some to) e = absurd (false≢true (ap (λ (s : MigState). is_hold_step s to) (sym (stands d h)) ∙ (stand_kept d h).held to e))

  logs : (is_begun past && not (is_resumed past)) ≡ true
  logs = rw (begun, live) refl

  released : (is_aborted past || is_resumed past) ≡ false
  released = rw (kept, live) refl

  dev_same : (d : ℕ) → d < device_count D → still_asked (staged_dev (shape_at D d) (device_of here d)) ≡ still_asked (dev_of D d past)
  dev_same d h = rw (nothing d h, stands d h, unheld d h, logs, released) refl

  pub staged_first : IsStagedAfter D past (staged_world D here)
  staged_first =
      record {
        own = record { begun = refl; joint = refl; last = refl; closed = bare_ended D; free = λ d h. ap (λ (dev : Dev). dev.logging || dev.released) (staged_at d h) };
        listed = record {
          begun = begun;
          joint = joint;
          last = (and_parts (is_joint past) (is_last_begun past) two).1;
          closed = closed_is D past ∙ (and_parts (is_joint past && is_last_begun past) (is_no_pass_open D past) ended).1;
          free = λ d h. ap (λ (dev : Dev). dev.logging || dev.released) (listed_dev d h) ∙ ap (λ (b : Bool). b || (is_aborted past || is_resumed past)) logs;
        };
        agrees = record {
          aborted = sym kept;
          resumed = sym live;
          failed = sym fine;
          dev = λ k. ⊎_elim (λ (h : k < device_count D). ap still_asked (staged_at k h) ∙ dev_same k h ∙ sym (ap still_asked (listed_dev k h)))
              (λ (h : device_count D ≤ k). ap still_asked (none_at _ k h ∙ sym (none_at _ k h))) (cases_lt k (device_count D));
          page = λ i. refl;
        };
      }
    where
      staged_at : (d : ℕ) → d < device_count D → (parts_in (staged_world D here)).dev d ≡ staged_dev (shape_at D d) (device_of here d)
      staged_at d h = listed_at (device_count D) (λ k. staged_dev (shape_at D k) (device_of here k)) d no_dev h

      listed_dev : (d : ℕ) → d < device_count D → (parts_in (world_of D past)).dev d ≡ dev_of D d past
      listed_dev d h = listed_at (device_count D) (λ k. dev_of D k past) d no_dev h

      none_at : (item : ℕ → Dev) (k : ℕ) → device_count D ≤ k → slice_index_or (listed (device_count D) item) k no_dev ≡ no_dev
      none_at item k h =
          let count = length-listed (device_count D) item in get_or_past (listed (device_count D) item) k no_dev (omega arith)
