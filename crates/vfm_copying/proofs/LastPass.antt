-- The last pass: at its end each page was copied last as it stands at the joint stop.
use Rattle.std.proofs.Common.{◌≡◌, ℕ, ◌+◌, ◌<◌, ◌≤◌, ◌==◌, true, false, not, ◌&&◌, ◌||◌, if◌then◌else◌, List, [], ◌∷◌, nat_le, Some, is_none, refl, ap, sym, ◌∙◌, arith, ⊎_elim, ltb-true, leb-true}
use Rattle.std.proofs.lemmas.Bool.{or_cases, or_right, false≢true, true≢false, both_ways, false_from_ne_true}
use Rattle.vfm_types.specs.declared.desc.Desc.{Desc}
use Rattle.vfm_types.specs.declared.entry.Entry.{Entry}
use Rattle.vfm_types.specs.declared.entry.Entry.TheVariants.{Deliver, Complete, Report, Pass, Copy, Block, Dry, Begin, Joint, Abort, Resume}
use Rattle.vfm_types.specs.Desc.{device_count}
use Rattle.vfm_types.specs.Deliveries.{machine_of, page_bytes, joint_machine}
use Rattle.vfm_types.specs.Machine.{Machine}
use Rattle.vfm_types.specs.Phases.{is_joint, is_aborted, is_resumed, is_last_begun, pass_count}
use Rattle.vfm_types.specs.Arcs.{state_of, hold_of, is_stopped}
use Rattle.vfm_types.specs.Outstanding.{is_undelivered, is_arrived}
use Rattle.vfm_types.specs.Marks.{is_marked, was_reported, has_reported, is_in_set, is_copied}
use Rattle.vfm_types.specs.Blocks.{is_no_pass_open}
use Rattle.vfm_types.specs.Words.{is_decided}
use Rattle.vfm_types.specs.Valid.{IsValid}
use Rattle.vfm_base.specs.Least.{all_below}
use Rattle.vfm_plain.specs.Legal.{IsLegal}
use Rattle.vfm_laws.proofs.Rising.{by_bool}
use Rattle.vfm_laws.proofs.Below.{all_below_at}
use Rattle.vfm_laws.proofs.Conditions.{deliver_met, complete_met, joint_met}
use Rattle.vfm_laws.proofs.StateLaws.{joint_nothing}
use Rattle.vfm_copying.specs.Copies.{last_copy}
use Rattle.vfm_copying.specs.Stale.{is_left_to_copy, has_delivered, job_writes_page}
use Rattle.vfm_copying.proofs.Conditions.{IsOn, pass_parts, copy_parts, block_parts, dry_parts, joint_parts}
use Rattle.vfm_copying.proofs.KnownPages.{IsFresh, none_left, unset, not_first, fresh_copied}
use Rattle.vfm_copying.proofs.Decided.{reported_undecided, halting_decided}

-- the move has come to the joint stop, and stands there
pub record IsStanding (past : List Entry) : Type 0 where
  pub joint : is_joint past ≡ true
  pub going : is_aborted past ≡ false
  pub here : is_resumed past ≡ false

-- there is a device
pub some_device : (D : Desc) → IsValid D → 0 < device_count D
some_device D valid = let low : 1 ≤ device_count D = valid.in_range.count_low in omega arith

-- no report that was made before the joint stop counts for the last pass
pub joint_unreported : (D : Desc) → IsValid D → (past : List Entry) → IsLegal D (Joint ∷ past) → (d : ℕ) → has_reported d past ≡ false
joint_unreported D valid past legal d =
    false_from_ne_true (has_reported d past)
    (λ reported. both_ways (is_decided D past) (reported_undecided D past legal.2 apart d reported).1
    (halting_decided D past legal.2 apart moving.aborted 0
    (or_right (not (is_none (hold_of 0 past))) (is_stopped (state_of 0 past)) (ap is_stopped (joint_met D past legal.1 0 (some_device D valid))))))
  where
    moving : IsOn past
    moving = (joint_parts D past legal.1).0

    apart : is_joint past ≡ false
    apart = (joint_parts D past legal.1).1

-- nothing is delivered or completed where every device stands still
pub no_delivery : (D : Desc) → IsValid D → (past : List Entry) (e n : ℕ) → IsLegal D (Deliver e n ∷ past) → IsStanding past → ⊥
no_delivery D valid past e n legal standing =
    false≢true (sym (ap (is_undelivered n) (joint_nothing D past valid legal.2 standing.joint standing.going standing.here e (ltb-true e (device_count D) legal.0)))
    ∙ deliver_met D past e n legal.1)

no_completion : (D : Desc) → IsValid D → (past : List Entry) (e n : ℕ) → IsLegal D (Complete e n ∷ past) → IsStanding past → ⊥
no_completion D valid past e n legal standing =
    false≢true (sym (ap (is_arrived n) (joint_nothing D past valid legal.2 standing.joint standing.going standing.here e (ltb-true e (device_count D) legal.0)))
    ∙ complete_met D past e n legal.1)

-- at the joint stop a device that has reported for the last pass has nothing marked
pub reported_unmarked : (D : Desc) → IsValid D → (past : List Entry) → IsLegal D past → is_joint past ≡ true → is_aborted past ≡ false → is_resumed past ≡ false
    → (d q : ℕ) → has_reported d past ≡ true → is_marked D d q past ≡ false
reported_unmarked D valid [] legal joint going here d q reported = absurd (false≢true joint)
reported_unmarked D valid (Joint ∷ past) legal joint going here d q reported = absurd (both_ways (has_reported d past) (joint_unreported D valid past legal d) reported)
reported_unmarked D valid (Pass k ∷ past) legal joint going here d q reported = absurd (false≢true reported)
reported_unmarked D valid (Report e ∷ past) legal joint going here d q reported =
    by_bool (e == d) (λ b. (b || has_reported d past) ≡ true → (not b && is_marked D d q past) ≡ false)
    (λ same h. refl) (λ other h. reported_unmarked D valid past legal.2 joint going here d q h) reported
reported_unmarked D valid (Complete e n ∷ past) legal joint going here d q reported =
    absurd (no_completion D valid past e n legal (record { joint = joint; going = going; here = here }))
reported_unmarked D valid (Begin ∷ past) legal joint going here d q reported = refl
reported_unmarked D valid (Abort ∷ past) legal joint going here d q reported = absurd (true≢false going)
reported_unmarked D valid (Resume ∷ past) legal joint going here d q reported = absurd (true≢false here)
reported_unmarked D valid (entry ∷ past) legal joint going here d q reported = reported_unmarked D valid past legal.2 joint going here d q reported

-- the last pass begins after the joint stop
pub last_joint : (past : List Entry) → is_last_begun past ≡ true → is_joint past ≡ true
last_joint [] last = absurd (false≢true last)
last_joint (Pass k ∷ past) last = last
last_joint (Joint ∷ past) last = refl
last_joint (entry ∷ past) last = last_joint past last

-- before a last pass that isn't the first each device has reported
all_reported : (D : Desc) (past : List Entry) (k : ℕ) → k ≡ pass_count past + 1 → (k == 1) ≡ false
    → (nat_le k 1 || all_below (device_count D) (λ d. has_reported d past)) ≡ true → (d : ℕ) → d < device_count D → has_reported d past ≡ true
all_reported D past k number later reported d within =
    ⊎_elim
    (λ (low : nat_le k 1 ≡ true).
    let bound : k ≤ 1 = leb-true k 1 low in let more : 0 < pass_count past = not_first past k number later in absurd (omega arith))
    (λ (all : all_below (device_count D) (λ e. has_reported e past) ≡ true). all_below_at (device_count D) (λ e. has_reported e past) d all within)
    (or_cases (nat_le k 1) (all_below (device_count D) (λ e. has_reported e past)) reported)

-- as the last pass begins, a page that isn't in its set is as its last copy took it
last_set : (D : Desc) → IsValid D → (past : List Entry) (k : ℕ) → IsLegal D (Pass k ∷ past) → IsStanding past → (q : ℕ) → q < D.pages
    → is_left_to_copy D q (Pass k ∷ past) ≡ false → last_copy D q past ≡ Some (page_bytes (machine_of D past) q)
last_set D valid past k legal standing q inside left = fresh_copied D valid past legal.2 q inside fresh
  where
    out : ((k == 1) ≡ false) × ((d : ℕ) → d < device_count D → was_reported D d q past ≡ false)
    out = unset D past k q inside left

    fresh : IsFresh D q past
    fresh =
        let met = pass_parts D past k legal.1 in (
          not_first past k met.number out.0,
          none_left D past q met.ended inside,
          (λ d within. reported_unmarked D valid past legal.2 standing.joint standing.going standing.here d q (all_reported D past k met.number out.0 met.reported d within)),
          (λ d within reported. out.1 d within),
          (λ d within. ap (has_delivered (job_writes_page D d q)) (joint_nothing D past valid legal.2 standing.joint standing.going standing.here d within)),
        )

-- in the last pass a page that isn't left is as its last copy took it
pub last_copied : (D : Desc) → IsValid D → (past : List Entry) → IsLegal D past → is_last_begun past ≡ true → is_aborted past ≡ false → is_resumed past ≡ false
    → (q : ℕ) → q < D.pages → is_left_to_copy D q past ≡ false → last_copy D q past ≡ Some (page_bytes (machine_of D past) q)
last_copied D valid [] legal last going here q inside left = absurd (false≢true last)
last_copied D valid (Pass k ∷ past) legal last going here q inside left =
    last_set D valid past k legal (record { joint = last; going = going; here = here }) q inside left
last_copied D valid (Copy p ∷ past) legal last going here q inside left =
    by_bool (p == q)
    (λ b. (is_in_set D q past && not (b || is_copied q past)) ≡ false
    → (if b then Some (page_bytes (machine_of D past) q) else last_copy D q past) ≡ Some (page_bytes (machine_of D past) q))
    (λ same h. refl) (λ other h. last_copied D valid past legal.2 last going here q inside h) left
last_copied D valid (Deliver e n ∷ past) legal last going here q inside left =
    absurd (no_delivery D valid past e n legal (record { joint = last_joint past last; going = going; here = here }))
last_copied D valid (Abort ∷ past) legal last going here q inside left = absurd (true≢false going)
last_copied D valid (Resume ∷ past) legal last going here q inside left = absurd (true≢false here)
last_copied D valid (entry ∷ past) legal last going here q inside left = last_copied D valid past legal.2 last going here q inside left

-- from the joint stop on the machine stands
pub joint_kept : (D : Desc) → IsValid D → (past : List Entry) → IsLegal D past → is_joint past ≡ true → is_aborted past ≡ false → is_resumed past ≡ false
    → machine_of D past ≡ joint_machine D past
joint_kept D valid [] legal joint going here = absurd (false≢true joint)
joint_kept D valid (Joint ∷ past) legal joint going here = refl
joint_kept D valid (Deliver e n ∷ past) legal joint going here =
    absurd (no_delivery D valid past e n legal (record { joint = joint; going = going; here = here }))
joint_kept D valid (Abort ∷ past) legal joint going here = absurd (true≢false going)
joint_kept D valid (Resume ∷ past) legal joint going here = absurd (true≢false here)
joint_kept D valid (entry ∷ past) legal joint going here = joint_kept D valid past legal.2 joint going here

-- at the end of the last pass, while the machine stands
ended_copied : (D : Desc) → IsValid D → (past : List Entry) → IsLegal D past → is_last_begun past ≡ true → is_no_pass_open D past ≡ true
    → is_aborted past ≡ false → is_resumed past ≡ false → (q : ℕ) → q < D.pages → last_copy D q past ≡ Some (page_bytes (joint_machine D past) q)
ended_copied D valid past legal last ended going here q inside =
    last_copied D valid past legal last going here q inside (none_left D past q ended inside)
    ∙ ap (λ (m : Machine). Some (page_bytes m q)) (joint_kept D valid past legal (last_joint past last) going here)

-- at the end of the last pass each page was copied last as it stands at the joint stop
pub sent_pages : (D : Desc) → IsValid D → (past : List Entry) → IsLegal D past → is_last_begun past ≡ true → is_no_pass_open D past ≡ true
    → (q : ℕ) → q < D.pages → last_copy D q past ≡ Some (page_bytes (joint_machine D past) q)
sent_pages D valid [] legal last ended q inside = absurd (false≢true last)
sent_pages D valid (Pass k ∷ past) legal last ended q inside =
    let moving = (pass_parts D past k legal.1).moving in ended_copied D valid (Pass k ∷ past) legal last ended moving.aborted moving.resumed q inside
sent_pages D valid (Copy p ∷ past) legal last ended q inside =
    let moving = (copy_parts D past p legal.1).moving in ended_copied D valid (Copy p ∷ past) legal last ended moving.aborted moving.resumed q inside
sent_pages D valid (Block e b ∷ past) legal last ended q inside =
    let moving = (block_parts D past e b legal.1).moving in ended_copied D valid (Block e b ∷ past) legal last ended moving.aborted moving.resumed q inside
sent_pages D valid (Dry e ∷ past) legal last ended q inside =
    let moving = (dry_parts D past e legal.1).moving in ended_copied D valid (Dry e ∷ past) legal last ended moving.aborted moving.resumed q inside
sent_pages D valid (Joint ∷ past) legal last ended q inside = absurd (both_ways (is_joint past) (joint_parts D past legal.1).1 (last_joint past last))
sent_pages D valid (entry ∷ past) legal last ended q inside = sent_pages D valid past legal.2 last ended q inside

-- the same, as the laws have it
pub copied_pages : (D : Desc) (past : List Entry) (p : ℕ) → IsValid D → IsLegal D past → is_last_begun past ≡ true → is_no_pass_open D past ≡ true
    → p < D.pages → last_copy D p past ≡ Some (page_bytes (joint_machine D past) p)
copied_pages D past p valid legal last ended inside = sent_pages D valid past legal last ended p inside

pub void_reports : (D : Desc) (past : List Entry) (d : ℕ) → IsValid D → IsLegal D (Joint ∷ past) → has_reported d past ≡ false
void_reports D past d valid legal = joint_unreported D valid past legal d

pub standing_machine : (D : Desc) (past : List Entry) → IsValid D → IsLegal D past → is_joint past ≡ true → is_aborted past ≡ false → is_resumed past ≡ false
    → machine_of D past ≡ joint_machine D past
standing_machine D past valid legal joint going here = joint_kept D valid past legal joint going here
