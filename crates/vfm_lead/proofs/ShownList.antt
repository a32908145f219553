-- A look that shows the parts of a list is alike to the look after the list.
use Rattle.std.proofs.Common.{◌≡◌, ℕ, ◌<◌, ◌≤◌, false, if◌then◌else◌, List, length, Option, Some, None, refl, ap, sym, ◌∙◌, arith}
use Rattle.vfm_types.specs.declared.desc.Desc.{Desc}
use Rattle.vfm_types.specs.declared.entry.Entry.{Entry}
use Rattle.vfm_types.specs.Desc.{device_count}
use Rattle.vfm_types.specs.Valid.{IsValid}
use Rattle.vfm_types.specs.Marks.{has_reported}
use Rattle.vfm_types.specs.Blocks.{next_block, next_part}
use Rattle.vfm_plain.specs.Looks.{look_of, is_ready}
use Rattle.vfm_laws.proofs.Rising.{by_bool}
use Rattle.vfm_parts.specs.Parts.{parts_in}
use Rattle.vfm_parts.specs.PartsOf.{world_of}
use Rattle.vfm_parts.proofs.Words.{closed_is, reported_is}
use Rattle.vfm_parts_laws.specs.LooksIn.{block_of_part, due_of_pass, due_block}
use Rattle.vfm_parts_laws.proofs.LookFacts.{look_told, ready_told, copy_told, part_told, block_told}
use Rattle.vfm_quiet.specs.declared.move_look.MoveLook.{MoveLook}
use Rattle.vfm_quiet.specs.Seen.{no_look}
use Rattle.vfm_order.specs.Alike.{IsAlike}
use Rattle.vfm_order.specs.LookAfter.{block_due, is_over, look_after}
use Rattle.vfm_order.proofs.Numbers.{eight_at}
use Rattle.vfm_lead.specs.Shown.{Shows}

few : (D : Desc) → IsValid D → device_count D ≤ 8
few D valid = valid.in_range.count_high

-- the block that is due
block_is : (D : Desc) (past : List Entry) → due_block D past ≡ (look_after D past).next_block
block_is D past =
    by_bool (is_over past)
    (λ b. block_of_part (λ d. next_block D d past) (due_of_pass b (next_part D past)) ≡ (if b then None else block_due D (next_part D past) past))
    (λ over. refl) (λ moving. at (next_part D past))
  where
    at : (due : Option ℕ) → block_of_part (λ d. next_block D d past) due ≡ block_due D due past
    at None = refl
    at (Some d) = refl

pub shown_alike : (D : Desc) (past : List Entry) (look : MoveLook) → IsValid D → Shows D (parts_in (world_of D past)) look → IsAlike look (look_after D past)
shown_alike D past look valid shows =
    record {
      begun = shows.begun;
      joint = shows.joint;
      aborted = shows.aborted;
      resumed = shows.resumed;
      failed = shows.failed;
      passes = shows.passes;
      ended = shows.ended ∙ closed_is D past;
      last = shows.last;
      set = ap (length {A = ℕ}) shows.set;
      next_copy = shows.next_copy ∙ copy_told D past;
      part = shows.part ∙ part_told D past;
      next_block = shows.next_block ∙ block_told D past ∙ block_is D past;
      count = shows.count;
      reported = λ d h. shows.reported d h ∙ reported_is D past d h ∙ sym (eight_at (λ k. has_reported k past) d false (low d h));
      devices = λ d h. shows.devices d h ∙ look_told D past d h ∙ sym (eight_at (λ k. look_of D k past) d no_look (low d h));
      ready = λ d h. shows.ready d h ∙ ready_told D past d h ∙ sym (eight_at (λ k. is_ready D k past) d false (low d h));
    }
  where
    low : (d : ℕ) → d < device_count D → d < 8
    low d h = let most = few D valid in omega arith
