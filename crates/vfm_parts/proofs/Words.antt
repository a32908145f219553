-- The words of the conditions over the coordinator's part of a list are those over the list.
use Rattle.std.proofs.Common.{◌≡◌, ℕ, ◌-◌, ◌<◌, ◌==◌, Bool, true, false, not, ◌&&◌, ◌||◌, if◌then◌else◌, nat_le, nat_lt, List, Option, Some, None, refl, ap, ap₂, sym, ◌∙◌, arith, lt-ltb, ◌⊎◌, inl, inr, ◌≤◌}
use Rattle.std.proofs.lemmas.Bool.{cases_lt, le-ltb}
use Rattle.vfm_types.specs.declared.desc.Desc.{Desc}
use Rattle.vfm_types.specs.declared.entry.Entry.{Entry}
use Rattle.vfm_types.specs.declared.state.MigState.{MigState}
use Rattle.vfm_types.specs.Desc.{device_count, shape_at, block_count}
use Rattle.vfm_types.specs.Phases.{pass_count}
use Rattle.vfm_types.specs.Arcs.{hold_of}
use Rattle.vfm_types.specs.Marks.{is_in_set, is_copied, next_copy, has_reported}
use Rattle.vfm_types.specs.Blocks.{has_part, next_part, is_no_pass_open, takes_part, was_dry, blocks_read}
use Rattle.vfm_types.specs.Words.{is_decided, is_held_for}
use Rattle.vfm_parts.specs.PartsOf.{lead_of, blocks_left}
use Rattle.vfm_parts.specs.PartWords.{next_copy_in, blocks_left_in, next_part_in, is_no_pass_open_in, has_reported_in, is_decided_in, is_hold_for}
use Rattle.vfm_parts.proofs.Listed.{listed_at, least_below_same}
use Rattle.vfm_parts.proofs.Sets.{least_is, size_is}

-- a device may issue freely where its log is started or it was released: where Begin, Abort or Resume stands
pub freely : (begun aborted resumed : Bool) → ((begun && not resumed) || (aborted || resumed)) ≡ (begun || aborted || resumed)
freely true true true = refl
freely true true false = refl
freely true false true = refl
freely true false false = refl
freely false true true = refl
freely false true false = refl
freely false false true = refl
freely false false false = refl

pub copy_is : (D : Desc) (past : List Entry) → next_copy_in (lead_of D past) ≡ next_copy D past
copy_is D past = least_is D.pages (λ p. is_in_set D p past && not (is_copied p past))

pub left_at : (D : Desc) (past : List Entry) (d : ℕ) → d < device_count D → blocks_left_in (lead_of D past) d ≡ blocks_left D d past
left_at D past d h = listed_at (device_count D) (λ k. blocks_left D k past) d 0 h

-- something is left where it takes part and fewer were read than there are
some_left : (takes : Bool) (count read : ℕ) → nat_lt 0 (if takes then count - read else 0) ≡ (takes && nat_lt read count)
some_left true count read = compare (cases_lt read count)
  where
    compare : (read < count) ⊎ (count ≤ read) → nat_lt 0 (count - read) ≡ nat_lt read count
    compare (inl h) = lt-ltb 0 (count - read) (omega arith) ∙ sym (lt-ltb read count h)
    compare (inr h) =
        let none : count - read ≡ 0 = omega arith in
        ap (nat_lt 0) none ∙ sym (le-ltb read count h)
some_left false count read = refl

pub has_part_in : (D : Desc) (past : List Entry) (d : ℕ) → d < device_count D → nat_lt 0 (blocks_left_in (lead_of D past) d) ≡ has_part D d past
has_part_in D past d h =
    ap (nat_lt 0) (left_at D past d h)
    ∙ some_left (takes_part d past && not (was_dry d past)) (block_count (shape_at D d)) (blocks_read d past)

pub part_is : (D : Desc) (past : List Entry) → next_part_in D (lead_of D past) ≡ next_part D past
part_is D past = least_below_same (device_count D) _ _ (has_part_in D past)

pub closed_is : (D : Desc) (past : List Entry) → is_no_pass_open_in D (lead_of D past) ≡ is_no_pass_open D past
closed_is D past = rw (copy_is D past, part_is D past) refl

pub reported_is : (D : Desc) (past : List Entry) (d : ℕ) → d < device_count D → has_reported_in (lead_of D past) d ≡ has_reported d past
reported_is D past d h = listed_at (device_count D) (λ k. has_reported k past) d false h

pub decided_is : (D : Desc) (past : List Entry) → is_decided_in D (lead_of D past) ≡ is_decided D past
decided_is D past =
    ap₂ (λ (closed : Bool) (size : ℕ). D.rounds == 0
    || (nat_lt 0 (pass_count past) && closed && (nat_le D.rounds (pass_count past) || nat_le size D.threshold)))
    (closed_is D past) (size_is D.pages (λ p. is_in_set D p past))

pub held_is : (d : ℕ) (to : MigState) (past : List Entry) → is_hold_for to (hold_of d past) ≡ is_held_for d to past
held_is d to past = go (hold_of d past) refl
  where
    go : (hold : Option MigState) → hold_of d past ≡ hold → is_hold_for to (hold_of d past) ≡ is_held_for d to past
    go None e = rw e refl
    go (Some state) e = rw e refl
