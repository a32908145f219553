-- What a staged machine shows is the look of the list on which it stands and of its own entries.
use Rattle.std.proofs.Common.{◌≡◌, ℕ, ◌+◌, ◌<◌, ◌≤◌, ◌==◌, ◌&&◌, ◌||◌, not, Bool, true, false, is_none, if◌then◌else◌, List, [], ◌∷◌, ◌++◌, length, nat_lt, slice_index_or, unwrap_or, Option, None, Some, refl, ap, ap₂, sym, ◌∙◌, subst, arith}
use Rattle.std.proofs.lemmas.Bool.{and_parts, false≢true}
use Rattle.vfm_base.specs.Tests.{first_failed}
use Rattle.vfm_types.specs.declared.desc.Desc.{Desc}
use Rattle.vfm_types.specs.declared.entry.Entry.{Entry}
use Rattle.vfm_types.specs.declared.entry.Rule.{Rule}
use Rattle.vfm_types.specs.declared.entry.Rule.TheVariants.{Barred, Start, Turn}
use Rattle.vfm_types.specs.declared.look.DevLook.{DevLook}
use Rattle.vfm_types.specs.declared.state.MigState.{MigState}
use Rattle.vfm_types.specs.Arcs.{is_p2p, is_stopped}
use Rattle.vfm_types.specs.Desc.{device_count}
use Rattle.vfm_types.specs.Phases.{is_aborted, is_resumed}
use Rattle.vfm_types.specs.Valid.{IsValid}
use Rattle.vfm_types.specs.Words.{has_barred, is_nothing}
use Rattle.vfm_plain.specs.ArcRules.{is_entering_p2p, is_stopping, is_leaving_p2p}
use Rattle.vfm_plain.specs.IssueRules.{first_number}
use Rattle.vfm_plain.specs.Looks.{is_ready, look_of}
use Rattle.vfm_laws.proofs.Rising.{by_bool}
use Rattle.vfm_parts.specs.ArcStep.{is_quiet_for_arc_in}
use Rattle.vfm_parts.specs.IssueStep.{is_next_to_issue_in, is_request_allowed_in, may_issue_yet_in}
use Rattle.vfm_parts.specs.Parts.{Dev, Lead, Parts, World, dev_at, parts_in}
use Rattle.vfm_parts.specs.PartWords.{has_reported_in, is_quiet_in, next_copy_in, next_part_in, none_stopped_in}
use Rattle.vfm_parts.specs.PartsOf.{world_of}
use Rattle.vfm_parts.proofs.Listed.{all_below_same, listed_at}
use Rattle.vfm_parts_laws.specs.LooksIn.{block_of_part, due_block_in, due_copy_in, due_of_pass, due_part_in, is_ready_in, issue_barred_in, look_in, next_arc_in, unissued_in}
use Rattle.vfm_parts_laws.specs.StagedParts.{AgreesInRest, still_asked}
use Rattle.vfm_parts_laws.proofs.LookFacts.{look_told, ready_told}
use Rattle.vfm_quiet.specs.declared.move_look.MoveLook.{MoveLook}
use Rattle.vfm_quiet.specs.Seen.{no_look}
use Rattle.vfm_order.specs.Alike.{IsAlike}
use Rattle.vfm_order.specs.LookAfter.{staged_look_after, staged_look_of}
use Rattle.vfm_order.proofs.Numbers.{eight_at}
use Rattle.vfm_lead.specs.Shown.{Shows}
use Rattle.vfm_core.specs.CoreState.{HaveCounted, IsBare, IsStagedOn, steps_in, steps_of}

-- ---- a device

-- what bars the next issue of a device that may issue as far as the time goes
barred_free : (D : Desc) (d : ℕ) (dev : Dev) → (dev.logging || dev.released) ≡ true
    → issue_barred_in D d dev
    ≡ first_failed ((is_next_to_issue_in D d (unwrap_or (first_number (unissued_in dev)) 0) dev, Turn)
    ∷ (is_request_allowed_in D d (unwrap_or (first_number (unissued_in dev)) 0) dev, Barred) ∷ (true, Start) ∷ [])
barred_free D d dev free =
    ap (λ (b : Bool). first_failed ((is_next_to_issue_in D d (unwrap_or (first_number (unissued_in dev)) 0) dev, Turn)
    ∷ (is_request_allowed_in D d (unwrap_or (first_number (unissued_in dev)) 0) dev, Barred) ∷ (b || nat_lt dev.issues D.begin, Start) ∷ [])) free

-- a look at a device, with other counts of its steps
abbrev counting : ℕ × (ℕ × ℕ) → DevLook → DevLook
counting steps look = record look { issued = steps.0; completes = steps.1.0; arcs = steps.1.1 }

look_free : (D : Desc) (d : ℕ) (dev : Dev) → (dev.logging || dev.released) ≡ true
    → look_in D d dev ≡ counting (steps_in dev) (look_in D d (still_asked dev))
look_free D d dev free =
    ap (λ (o : Option Rule). record (look_in D d dev) { blocked = o }) (barred_free D d dev free ∙ sym (barred_free D d (still_asked dev) free))

-- ---- the move

none_is : {X : Type 0} (o : Option X) → is_none o ≡ true → o ≡ None
none_is None e = refl
none_is (Some x) e = absurd (false≢true e)

nothing_due : (over : Bool) (due : Option ℕ) → due ≡ None → due_of_pass over due ≡ None
nothing_due over due none = ap (due_of_pass over) none ∙ by_bool over (λ b. due_of_pass b None ≡ None) (λ over_now. refl) (λ on. refl)

module _ (D : Desc) (before mine : List Entry) (w : World) (valid : IsValid D) (is : IsStagedOn D before mine w) where
  past : List Entry
  past = mine ++ before

  joined : World
  joined = world_of D (mine ++ before)

  low : (d : ℕ) → d < device_count D → d < 8
  low d h = let most = valid.in_range.count_high in omega arith

  device_shown : (d : ℕ) → d < device_count D → look_in D d (dev_at w d) ≡ staged_look_of D before mine d
  device_shown d h =
      let listed_dev = dev_at (world_of D (mine ++ before)) d in
      look_free D d (dev_at w d) (is.after.own.free d h)
      ∙ ap (λ (dev : Dev). counting (steps_in (dev_at w d)) (look_in D d dev)) (is.after.agrees.dev d)
      ∙ sym (ap (counting (steps_in (dev_at w d))) (look_free D d listed_dev (is.after.listed.free d h)))
      ∙ ap (counting (steps_in (dev_at w d))) (look_told D (mine ++ before) d h)
      ∙ ap (λ (steps : ℕ × (ℕ × ℕ)). counting steps (look_of D d (mine ++ before))) (is.counted.devs d h)

  quiet_same : is_quiet_in D (dev_at w) ≡ is_quiet_in D (dev_at (world_of D (mine ++ before)))
  quiet_same =
      ap (λ (all : Bool). device_count D == 1 || all)
      (all_below_same (device_count D) _ _ (λ d h. ap (λ (dev : Dev). is_p2p dev.state || is_stopped dev.state) (is.after.agrees.dev d)))

  awake_same : none_stopped_in D (dev_at w) ≡ none_stopped_in D (dev_at (world_of D (mine ++ before)))
  awake_same = all_below_same (device_count D) _ _ (λ d h. ap (λ (dev : Dev). not (is_stopped dev.state)) (is.after.agrees.dev d))

  quiet_arc_same : (d : ℕ) (to : MigState) → is_quiet_for_arc_in D d to (dev_at w) ≡ is_quiet_for_arc_in D d to (dev_at (world_of D (mine ++ before)))
  quiet_arc_same d to =
      ap (λ (dev : Dev). (not (is_entering_p2p dev.state to) || not (has_barred D d dev.requests))
      && (not (is_stopping dev.state to) || (is_nothing dev.requests && is_quiet_in D (dev_at w)))
      && (not (is_leaving_p2p dev.state to) || none_stopped_in D (dev_at w))) (is.after.agrees.dev d)
      ∙ rw (quiet_same, awake_same) refl

  arc_same : (d : ℕ) → next_arc_in D d w.lead (dev_at w d) ≡ next_arc_in D d (world_of D (mine ++ before)).lead (dev_at (world_of D (mine ++ before)) d)
  arc_same d =
      ap₂ (λ (aborted resumed : Bool). next_arc_in D d (record w.lead { aborted = aborted; resumed = resumed }) (dev_at w d)) is.after.agrees.aborted is.after.agrees.resumed
      ∙ ap (λ (dev : Dev). next_arc_in D d (world_of D (mine ++ before)).lead dev) (is.after.agrees.dev d)

  ready_shown : (d : ℕ) → d < device_count D → is_ready_in D d (parts_in w) ≡ is_ready D d (mine ++ before)
  ready_shown d h =
      ap (λ (to : MigState). is_quiet_for_arc_in D d to (dev_at w)) (arc_same d)
      ∙ quiet_arc_same d (next_arc_in D d (world_of D (mine ++ before)).lead (dev_at (world_of D (mine ++ before)) d))
      ∙ ready_told D (mine ++ before) d h

  no_copy : next_copy_in w.lead ≡ None
  no_copy = none_is (next_copy_in w.lead) (and_parts (is_none (next_copy_in w.lead)) (is_none (next_part_in D w.lead)) is.after.own.closed).0

  no_part : next_part_in D w.lead ≡ None
  no_part = none_is (next_part_in D w.lead) (and_parts (is_none (next_copy_in w.lead)) (is_none (next_part_in D w.lead)) is.after.own.closed).1

  part_due : due_part_in D w.lead ≡ None
  part_due = nothing_due (w.lead.aborted || w.lead.resumed) (next_part_in D w.lead) no_part

  none_reported : (d : ℕ) → d < device_count D → has_reported_in w.lead d ≡ false
  none_reported d h = ap (λ (lead : Lead). has_reported_in lead d) is.counted.lead ∙ listed_at (device_count D) (λ k. false) d false h

  pub staged_alike : (look : MoveLook) → Shows D (parts_in w) look → IsAlike look (staged_look_after D before mine)
  staged_alike look shows =
      record {
        begun = shows.begun ∙ is.after.own.begun ∙ sym is.after.listed.begun;
        joint = shows.joint ∙ is.after.own.joint ∙ sym is.after.listed.joint;
        aborted = shows.aborted ∙ is.after.agrees.aborted;
        resumed = shows.resumed ∙ is.after.agrees.resumed;
        failed = shows.failed ∙ is.after.agrees.failed;
        passes = shows.passes ∙ ap (λ (lead : Lead). lead.passes) is.counted.lead;
        ended = shows.ended ∙ is.after.own.closed;
        last = shows.last ∙ is.after.own.last;
        set = ap (length {A = ℕ}) (shows.set ∙ ap (λ (lead : Lead). lead.set) is.counted.lead);
        next_copy = shows.next_copy ∙ nothing_due (w.lead.aborted || w.lead.resumed) (next_copy_in w.lead) no_copy;
        part = shows.part ∙ part_due;
        next_block = shows.next_block ∙ ap (block_of_part _) part_due;
        count = shows.count;
        reported = λ d h. shows.reported d h ∙ none_reported d h ∙ sym (eight_at (λ k. false) d false (low d h));
        devices = λ d h. shows.devices d h ∙ device_shown d h ∙ sym (eight_at (staged_look_of D before mine) d no_look (low d h));
        ready = λ d h. shows.ready d h ∙ ready_shown d h ∙ sym (eight_at (λ k. is_ready D k (mine ++ before)) d false (low d h));
      }
