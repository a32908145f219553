-- What is seen of the parts of a list is what the list says.
use Rattle.std.proofs.lemmas.Option.{none-some}
use Rattle.std.proofs.lemmas.Bool.{or_parts}
use Rattle.std.proofs.Common.{◌≡◌, ℕ, zero, suc, ◌+◌, ◌<◌, ◌||◌, Bool, true, false, is_none, nat_lt, if◌then◌else◌, List, [], ◌∷◌, length, slice_index_or, Option, Some, None, unwrap_or, refl, ap, ◌∙◌, arith}
use Rattle.vfm_types.specs.declared.desc.Desc.{Desc}
use Rattle.vfm_types.specs.declared.entry.Entry.{Entry}
use Rattle.vfm_types.specs.declared.entry.Rule.TheVariants.{Turn, Barred, Start}
use Rattle.vfm_types.specs.declared.state.MigState.{MigState}
use Rattle.vfm_base.specs.Tests.{first_failed}
use Rattle.vfm_base.specs.Least.{least_from}
use Rattle.vfm_base.specs.PageSet.{contains_page}
use Rattle.vfm_base.proofs.LeastPages.{least_below_none}
use Rattle.vfm_types.specs.Desc.{device_count}
use Rattle.vfm_types.specs.Phases.{is_begun, is_aborted, is_resumed}
use Rattle.vfm_types.specs.Outstanding.{issue_count}
use Rattle.vfm_types.specs.Marks.{is_in_set, set_size}
use Rattle.vfm_types.specs.Blocks.{next_part, next_block, has_part}
use Rattle.vfm_plain.specs.IssueRules.{first_number, is_next_to_issue, is_request_allowed}
use Rattle.vfm_plain.specs.Looks.{unissued_of, look_of, next_arc, is_ready}
use Rattle.vfm_laws.proofs.Rising.{by_bool}
use Rattle.vfm_parts.specs.Parts.{dev_at, parts_in, listed}
use Rattle.vfm_parts.specs.PartsOf.{dev_of, lead_of, world_of}
use Rattle.vfm_parts.specs.ArcStep.{is_quiet_for_arc_in}
use Rattle.vfm_parts.specs.BlockStep.{next_block_in}
use Rattle.vfm_parts.proofs.Sets.{has_below, size_is}
use Rattle.vfm_parts.proofs.Words.{freely, copy_is, part_is}
use Rattle.vfm_parts.specs.PartWords.{is_no_pass_open_in}
use Rattle.vfm_parts.proofs.Listed.{listed_at}
use Rattle.vfm_parts.proofs.Faults.{quiet_for_arc_is, blocks_are}
use Rattle.vfm_parts_laws.specs.StagedParts.{staged_lead}
use Rattle.vfm_parts.proofs.Worlds.{world_tells}
use Rattle.vfm_parts_laws.specs.LooksIn.{look_in, next_arc_in, is_ready_in, due_of_pass, block_of_part, due_copy_in, due_part_in, due_block_in, due_copy, due_part, due_block}

-- ---- a device

look_is : (D : Desc) (past : List Entry) (d : ℕ) → look_in D d (dev_of D d past) ≡ look_of D d past
look_is D past d =
    let n = unwrap_or (first_number (unissued_of D d past)) 0 in
    ap (λ (free : Bool). record (look_of D d past) {
      blocked = first_failed ((is_next_to_issue D d n past, Turn) ∷ (is_request_allowed D d n past, Barred) ∷ (free || nat_lt (issue_count d past) D.begin, Start) ∷ []);
    }) (freely (is_begun past) (is_aborted past) (is_resumed past))

pub look_told : (D : Desc) (past : List Entry) (d : ℕ) → d < device_count D → look_in D d (dev_at (world_of D past) d) ≡ look_of D d past
look_told D past d inside = ap (look_in D d) ((world_tells D past).dev d inside) ∙ look_is D past d

pub arc_told : (D : Desc) (past : List Entry) (d : ℕ) → d < device_count D
    → next_arc_in D d (world_of D past).lead (dev_at (world_of D past) d) ≡ next_arc D d past
arc_told D past d inside = ap (next_arc_in D d (lead_of D past)) ((world_tells D past).dev d inside)

pub ready_told : (D : Desc) (past : List Entry) (d : ℕ) → d < device_count D → is_ready_in D d (parts_in (world_of D past)) ≡ is_ready D d past
ready_told D past d inside =
    ap (λ (to : MigState). is_quiet_for_arc_in D d to (dev_at (world_of D past))) (arc_told D past d inside)
    ∙ quiet_for_arc_is D past (parts_in (world_of D past)) (world_tells D past) d (next_arc D d past) inside

-- ---- the move

pub set_told : (D : Desc) (past : List Entry) (p : ℕ) → p < D.pages → contains_page (world_of D past).lead.set p ≡ is_in_set D p past
set_told D past p inside = has_below D.pages (λ q. is_in_set D q past) p inside

pub size_told : (D : Desc) (past : List Entry) → length (world_of D past).lead.set ≡ set_size D past
size_told D past = size_is D.pages (λ q. is_in_set D q past)

pub copy_told : (D : Desc) (past : List Entry) → due_copy_in (world_of D past).lead ≡ due_copy D past
copy_told D past = ap (due_of_pass (is_aborted past || is_resumed past)) (copy_is D past)

pub part_told : (D : Desc) (past : List Entry) → due_part_in D (world_of D past).lead ≡ due_part D past
part_told D past = ap (due_of_pass (is_aborted past || is_resumed past)) (part_is D past)

-- the least number that passes is one of those that were asked
least_inside : (i n : ℕ) (test : ℕ → Bool) (d : ℕ) → least_from i n test ≡ Some d → d < i + n
least_inside i zero test d found = absurd (none-some d found)
least_inside i (suc n) test d found =
    by_bool (test i) (λ b. (if b then Some i else least_from (i + 1) n test) ≡ Some d → d < i + suc n)
    (λ passes e. let same : i ≡ d = cc in omega arith)
    (λ fails e. let later = least_inside (i + 1) n test d e in omega arith) found

-- the device whose part is due is one of the description
due_inside : (D : Desc) (past : List Entry) (d : ℕ) → next_part D past ≡ Some d → d < device_count D
due_inside D past d due = let inside = least_inside 0 (device_count D) (λ k. has_part D k past) d due in omega arith

pub block_told : (D : Desc) (past : List Entry) → due_block_in D (parts_in (world_of D past)) ≡ due_block D past
block_told D past =
    ap (block_of_part (λ d. next_block_in (dev_at (world_of D past) d))) (part_told D past)
    ∙ by_bool (is_aborted past || is_resumed past)
    (λ b. (is_aborted past || is_resumed past) ≡ b
    → block_of_part (λ d. next_block_in (dev_at (world_of D past) d)) (due_of_pass b (next_part D past))
    ≡ block_of_part (λ d. next_block D d past) (due_of_pass b (next_part D past)))
    (λ over e. refl)
    (λ moving e. at (next_part D past) refl (or_parts (is_aborted past) (is_resumed past) e).1) refl
  where
    at : (due : Option ℕ) → next_part D past ≡ due → is_resumed past ≡ false
        → block_of_part (λ d. next_block_in (dev_at (world_of D past) d)) due ≡ block_of_part (λ d. next_block D d past) due
    at None is live = refl
    at (Some d) is live = ap next_block_in ((world_tells D past).dev d (due_inside D past d is)) ∙ blocks_are D past d live

-- ---- a staged coordinator

pub bare_ended : (D : Desc) → is_no_pass_open_in D (staged_lead D) ≡ true
bare_ended D =
    ap is_none (least_below_none (λ d. nat_lt 0 (slice_index_or (listed (device_count D) (λ k. 0)) d 0)) (device_count D)
    (λ d h. ap (nat_lt 0) (listed_at (device_count D) (λ k. 0) d 0 h)))
