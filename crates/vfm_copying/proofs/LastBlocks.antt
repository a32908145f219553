-- The last pass: at its end each block was read last as it stands at the joint stop.
use Rattle.std.proofs.Common.{◌≡◌, ℕ, ◌+◌, ◌<◌, ◌≤◌, ◌==◌, Bool, true, false, not, ◌&&◌, ◌||◌, if◌then◌else◌, List, [], ◌∷◌, nat_lt, Option, Some, None, is_none, refl, ap, sym, ◌∙◌, subst, arith, ⊎_elim, eqb-true, eq-eqb, ltb-false}
use Rattle.std.specs.Option.{option_or}
use Rattle.std.proofs.lemmas.Bool.{and_parts, and_cases, or_from, or_left, or_right, ne_eqb, not-false, false≢true, true≢false, both_ways}
use Rattle.vfm_types.specs.declared.desc.Desc.{Desc}
use Rattle.vfm_types.specs.declared.entry.Entry.{Entry}
use Rattle.vfm_types.specs.declared.entry.Entry.TheVariants.{Deliver, Pass, Copy, Block, Dry, Joint, Abort, Resume}
use Rattle.vfm_types.specs.declared.state.MigState.TheVariants.{PreCopy}
use Rattle.vfm_types.specs.Desc.{device_count, shape_at, block_count}
use Rattle.vfm_types.specs.Paths.{same_state}
use Rattle.vfm_types.specs.Machine.{Machine}
use Rattle.vfm_types.specs.Deliveries.{block_bytes, joint_machine}
use Rattle.vfm_types.specs.Phases.{is_joint, is_aborted, is_resumed, is_last_begun}
use Rattle.vfm_types.specs.Arcs.{state_of}
use Rattle.vfm_types.specs.Marks.{next_copy}
use Rattle.vfm_types.specs.Blocks.{is_unread, is_dirty, next_block, takes_part, blocks_read, was_dry, has_part, next_part, is_no_pass_open}
use Rattle.vfm_types.specs.Valid.{IsValid}
use Rattle.vfm_base.specs.Least.{count_below, least_below}
use Rattle.vfm_plain.specs.Legal.{IsLegal}
use Rattle.vfm_laws.proofs.Rising.{by_bool}
use Rattle.vfm_copying.specs.Copies.{last_reading}
use Rattle.vfm_copying.specs.Stale.{is_block_stale}
use Rattle.vfm_copying.proofs.Tests.{none_is, least_none, least_passes, count_within, count_none, count_cleared}
use Rattle.vfm_copying.proofs.Conditions.{pass_parts, copy_parts, block_parts, dry_parts, joint_parts}
use Rattle.vfm_copying.proofs.KnownBlocks.{fresh_blocks}
use Rattle.vfm_copying.proofs.LastPass.{last_joint, no_delivery, joint_kept}

-- the blocks of device d
abbrev blocks_of : Desc → ℕ → ℕ
blocks_of D d = block_count (shape_at D d)

-- the block that is read next is stale
pub next_stale : (D : Desc) (past : List Entry) (d b : ℕ) → next_block D d past ≡ Some b → (is_block_stale D d b past ≡ true) × (b < blocks_of D d)
next_stale D past d b next = at (least_below (blocks_of D d) (λ k. is_unread d k past)) refl next
  where
    at : (o : Option ℕ) → least_below (blocks_of D d) (λ k. is_unread d k past) ≡ o
        → option_or o (least_below (blocks_of D d) (λ k. is_dirty D d k past)) ≡ Some b → (is_block_stale D d b past ≡ true) × (b < blocks_of D d)
    at None found is =
        let least = least_passes (blocks_of D d) (λ k. is_dirty D d k past) b is in
        (or_right (is_unread d b past) (is_dirty D d b past) least.0, least.1)
    at (Some k) found is =
        let least = least_passes (blocks_of D d) (λ j. is_unread d j past) b (found ∙ is) in
        (or_left (is_unread d b past) (is_dirty D d b past) least.0, least.1)

-- where no block is to be read none is stale
none_stale : (D : Desc) (past : List Entry) (d : ℕ) → is_none (next_block D d past) ≡ true → (b : ℕ) → b < blocks_of D d → is_block_stale D d b past ≡ false
none_stale D past d none b inside = at (least_below (blocks_of D d) (λ k. is_unread d k past)) refl none
  where
    at : (o : Option ℕ) → least_below (blocks_of D d) (λ k. is_unread d k past) ≡ o
        → is_none (option_or o (least_below (blocks_of D d) (λ k. is_dirty D d k past))) ≡ true → is_block_stale D d b past ≡ false
    at None found is =
        or_from (is_unread d b past) (is_dirty D d b past) (least_none (blocks_of D d) (λ k. is_unread d k past) b found inside)
        (least_none (blocks_of D d) (λ k. is_dirty D d k past) b (none_is (least_below (blocks_of D d) (λ k. is_dirty D d k past)) is) inside)
    at (Some k) found is = absurd (false≢true is)

-- what the last pass keeps of device d: each reading makes a block fresh, and none is stale once it has run dry
abbrev KeepsReadings : Desc → ℕ → List Entry → Type 0
KeepsReadings D d past =
    (blocks_read d past + count_below (blocks_of D d) (λ b. is_block_stale D d b past) ≤ blocks_of D d)
    × (was_dry d past ≡ true → (b : ℕ) → b < blocks_of D d → is_block_stale D d b past ≡ false)

-- whether block b is stale after block c of the same device was read
abbrev is_still_stale : Desc → ℕ → ℕ → ℕ → List Entry → Bool
is_still_stale D d c b past = (not (c == b) && is_unread d b past) || (not (c == b) && is_dirty D d b past)

read_clears : (D : Desc) (past : List Entry) (d c : ℕ) → next_block D d past ≡ Some c
    → count_below (blocks_of D d) (λ b. is_block_stale D d b past) ≡ count_below (blocks_of D d) (λ b. is_still_stale D d c b past) + 1
read_clears D past d c next =
    let stale = next_stale D past d c next in
    count_cleared (blocks_of D d) (λ b. is_block_stale D d b past) (λ b. is_still_stale D d c b past) c stale.1 stale.0
    (ap (λ (x : Bool). (not x && is_unread d c past) || (not x && is_dirty D d c past)) (eq-eqb c c refl))
    (λ k other. sym (ap (λ (x : Bool). (not x && is_unread d k past) || (not x && is_dirty D d k past)) (ne_eqb c k (λ same. other (sym same)))))

-- a reading makes no block stale
read_keeps : (D : Desc) (past : List Entry) (d e c b : ℕ) → is_block_stale D d b past ≡ false → is_block_stale D d b (Block e c ∷ past) ≡ false
read_keeps D past d e c b still =
    by_bool (e == d && c == b) (λ x. ((not x && is_unread d b past) || (not x && is_dirty D d b past)) ≡ false) (λ same. refl) (λ other. still)

keeps_block : (D : Desc) (past : List Entry) (e c d : ℕ) → IsLegal D (Block e c ∷ past) → KeepsReadings D d past → KeepsReadings D d (Block e c ∷ past)
keeps_block D past e c d legal kept = (count, (λ dry b inside. read_keeps D past d e c b (kept.1 dry b inside)))
  where
    before : blocks_read d past + count_below (blocks_of D d) (λ b. is_block_stale D d b past) ≤ blocks_of D d
    before = kept.0

    count : blocks_read d past + (if e == d then 1 else 0) + count_below (blocks_of D d) (λ b. is_block_stale D d b (Block e c ∷ past)) ≤ blocks_of D d
    count =
        by_bool (e == d)
        (λ x. (e == d) ≡ x → blocks_read d past + (if x then 1 else 0)
        + count_below (blocks_of D d) (λ b. (not (x && c == b) && is_unread d b past) || (not (x && c == b) && is_dirty D d b past)) ≤ blocks_of D d)
        (λ same f.
        let next = subst (λ (k : ℕ). next_block D k past ≡ Some c) (eqb-true e d same) (block_parts D past e c legal.1).next in
        omega (arith, before, read_clears D past d c next))
        (λ other f. omega (arith, before)) refl

keeps_dry : (D : Desc) (past : List Entry) (e d : ℕ) → IsLegal D (Dry e ∷ past) → KeepsReadings D d past → KeepsReadings D d (Dry e ∷ past)
keeps_dry D past e d legal kept = (kept.0, dry)
  where
    dry : was_dry d (Dry e ∷ past) ≡ true → (b : ℕ) → b < blocks_of D d → is_block_stale D d b past ≡ false
    dry ran b inside =
        by_bool (e == d) (λ x. (e == d) ≡ x → (x || was_dry d past) ≡ true → is_block_stale D d b past ≡ false)
        (λ same f h. none_stale D past d (subst (λ (k : ℕ). is_none (next_block D k past) ≡ true) (eqb-true e d same) (dry_parts D past e legal.1).next) b inside)
        (λ other f h. kept.1 h b inside) refl ran

keeps_readings : (D : Desc) → IsValid D → (past : List Entry) → IsLegal D past → is_last_begun past ≡ true → is_aborted past ≡ false → is_resumed past ≡ false
    → (d : ℕ) → KeepsReadings D d past
keeps_readings D valid [] legal last going here d = absurd (false≢true last)
keeps_readings D valid (Pass k ∷ past) legal last going here d =
    let within = count_within (blocks_of D d) (λ b. is_block_stale D d b past) in (omega arith, (λ dry b inside. absurd (false≢true dry)))
keeps_readings D valid (Block e c ∷ past) legal last going here d = keeps_block D past e c d legal (keeps_readings D valid past legal.2 last going here d)
keeps_readings D valid (Dry e ∷ past) legal last going here d = keeps_dry D past e d legal (keeps_readings D valid past legal.2 last going here d)
keeps_readings D valid (Deliver e n ∷ past) legal last going here d =
    absurd (no_delivery D valid past e n legal (record { joint = last_joint past last; going = going; here = here }))
keeps_readings D valid (Abort ∷ past) legal last going here d = absurd (true≢false going)
keeps_readings D valid (Resume ∷ past) legal last going here d = absurd (true≢false here)
keeps_readings D valid (entry ∷ past) legal last going here d = keeps_readings D valid past legal.2 last going here d

-- every device takes part in the last pass
last_parts : (past : List Entry) (d : ℕ) → is_last_begun past ≡ true → takes_part d past ≡ true
last_parts [] d last = absurd (false≢true last)
last_parts (Pass k ∷ past) d last = or_left (is_joint past) (same_state (state_of d past) PreCopy) last
last_parts (entry ∷ past) d last = last_parts past d last

-- at the end of the last pass no block is stale
last_fresh : (D : Desc) → IsValid D → (past : List Entry) → IsLegal D past → is_last_begun past ≡ true → is_aborted past ≡ false → is_resumed past ≡ false
    → is_no_pass_open D past ≡ true → (d b : ℕ) → d < device_count D → b < blocks_of D d → is_block_stale D d b past ≡ false
last_fresh D valid past legal last going here ended d b inside_d inside_b =
    ⊎_elim
    (λ (two : (takes_part d past && not (was_dry d past)) ≡ false).
    ⊎_elim (λ (apart : takes_part d past ≡ false). absurd (both_ways (takes_part d past) apart (last_parts past d last)))
    (λ (dry : not (was_dry d past) ≡ false). kept.1 (not-false (was_dry d past) dry) b inside_b)
    (and_cases (takes_part d past) (not (was_dry d past)) two))
    (λ (all : nat_lt (blocks_read d past) (blocks_of D d) ≡ false).
    let enough : blocks_of D d ≤ blocks_read d past = ltb-false (blocks_read d past) (blocks_of D d) all in
    let sum : blocks_read d past + count_below (blocks_of D d) (λ k. is_block_stale D d k past) ≤ blocks_of D d = kept.0 in
    count_none (blocks_of D d) (λ k. is_block_stale D d k past) b (omega arith) inside_b)
    (and_cases (takes_part d past && not (was_dry d past)) (nat_lt (blocks_read d past) (blocks_of D d)) over)
  where
    kept : KeepsReadings D d past
    kept = keeps_readings D valid past legal last going here d

    over : has_part D d past ≡ false
    over =
        least_none (device_count D) (λ k. has_part D k past) d
        (none_is (next_part D past) (and_parts (is_none (next_copy D past)) (is_none (next_part D past)) ended).1) inside_d

ended_read : (D : Desc) → IsValid D → (past : List Entry) → IsLegal D past → is_last_begun past ≡ true → is_no_pass_open D past ≡ true
    → is_aborted past ≡ false → is_resumed past ≡ false → (d b : ℕ) → d < device_count D → b < blocks_of D d
    → last_reading D d b past ≡ Some (block_bytes (joint_machine D past) d b)
ended_read D valid past legal last ended going here d b inside_d inside_b =
    fresh_blocks D past d b valid legal (last_fresh D valid past legal last going here ended d b inside_d inside_b)
    ∙ ap (λ (m : Machine). Some (block_bytes m d b)) (joint_kept D valid past legal (last_joint past last) going here)

-- at the end of the last pass each block was read last as it stands at the joint stop
pub sent_blocks : (D : Desc) → IsValid D → (past : List Entry) → IsLegal D past → is_last_begun past ≡ true → is_no_pass_open D past ≡ true
    → (d b : ℕ) → d < device_count D → b < block_count (shape_at D d) → last_reading D d b past ≡ Some (block_bytes (joint_machine D past) d b)
sent_blocks D valid [] legal last ended d b inside_d inside_b = absurd (false≢true last)
sent_blocks D valid (Pass k ∷ past) legal last ended d b inside_d inside_b =
    let moving = (pass_parts D past k legal.1).moving in ended_read D valid (Pass k ∷ past) legal last ended moving.aborted moving.resumed d b inside_d inside_b
sent_blocks D valid (Copy p ∷ past) legal last ended d b inside_d inside_b =
    let moving = (copy_parts D past p legal.1).moving in ended_read D valid (Copy p ∷ past) legal last ended moving.aborted moving.resumed d b inside_d inside_b
sent_blocks D valid (Block e c ∷ past) legal last ended d b inside_d inside_b =
    let moving = (block_parts D past e c legal.1).moving in ended_read D valid (Block e c ∷ past) legal last ended moving.aborted moving.resumed d b inside_d inside_b
sent_blocks D valid (Dry e ∷ past) legal last ended d b inside_d inside_b =
    let moving = (dry_parts D past e legal.1).moving in ended_read D valid (Dry e ∷ past) legal last ended moving.aborted moving.resumed d b inside_d inside_b
sent_blocks D valid (Joint ∷ past) legal last ended d b inside_d inside_b = absurd (both_ways (is_joint past) (joint_parts D past legal.1).1 (last_joint past last))
sent_blocks D valid (entry ∷ past) legal last ended d b inside_d inside_b = sent_blocks D valid past legal.2 last ended d b inside_d inside_b

pub read_blocks : (D : Desc) (past : List Entry) (d b : ℕ) → IsValid D → IsLegal D past → is_last_begun past ≡ true → is_no_pass_open D past ≡ true
    → d < device_count D → b < block_count (shape_at D d) → last_reading D d b past ≡ Some (block_bytes (joint_machine D past) d b)
read_blocks D past d b valid legal last ended inside_d inside_b = sent_blocks D valid past legal last ended d b inside_d inside_b
