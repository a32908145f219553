-- A block that was read, and that no delivery wrote since, is as its last reading took it.
use Rattle.std.proofs.Common.{◌≡◌, ℕ, ◌*◌, ◌<◌, ◌≤◌, ◌==◌, Bool, true, false, not, ◌&&◌, if◌then◌else◌, List, [], ◌∷◌, length, take, drop, Some, refl, ap, sym, ◌∙◌, ltb-true}
use Rattle.std.proofs.lemmas.Bool.{or_parts, true≢false, true_from_ne_false}
use Rattle.vfm_types.specs.declared.desc.Desc.{Desc}
use Rattle.vfm_types.specs.declared.entry.Entry.{Entry}
use Rattle.vfm_types.specs.declared.entry.Entry.TheVariants.{Deliver, Block}
use Rattle.vfm_types.specs.Desc.{device_count, shape_at}
use Rattle.vfm_types.specs.Job.{length_of}
use Rattle.vfm_types.specs.Machine.{Machine, device_of, with_device}
use Rattle.vfm_types.specs.Requests.{fences, job_or_zero, job_of, taken}
use Rattle.vfm_types.specs.Deliveries.{machine_of, block_bytes}
use Rattle.vfm_types.specs.Blocks.{writes_block, is_unread, is_dirty}
use Rattle.vfm_types.specs.Valid.{IsValid}
use Rattle.vfm_plain.specs.Legal.{IsLegal}
use Rattle.vfm_plain.specs.Shape.{HasShape}
use Rattle.vfm_plain.proofs.Sound.{sound_job, job_in_range, lies_of_job, some_bytes}
use Rattle.vfm_plain.proofs.Steps.{shape-taken, free_job}
use Rattle.vfm_laws.proofs.Rising.{by_bool}
use Rattle.vfm_laws.proofs.Enabled.{deliver_enabled, machine_sound}
use Rattle.vfm_copying.specs.Copies.{last_reading}
use Rattle.vfm_copying.specs.Stale.{is_block_stale}
use Rattle.vfm_copying.proofs.BlockWrites.{bar_taken, effect_leaves_block}

-- a delivery leaves the blocks that its job doesn't write
pub delivery_leaves : (D : Desc) → IsValid D → (past : List Entry) (e n : ℕ) → IsLegal D (Deliver e n ∷ past) → (d b : ℕ)
    → writes_block D d b (job_of D (machine_of D past) e n) ≡ false
    → block_bytes (machine_of D (Deliver e n ∷ past)) d b ≡ block_bytes (machine_of D past) d b
delivery_leaves D valid past e n legal d b clear =
    effect_leaves_block D (with_device here e (taken (device_of here e) n)) e (job_of D here e n) d b
    (shape-taken D here e n shape) (lies_of_job D e (job_of D here e n) valid (sound_job D e number valid issuer there) range.0) range.1 issuer clear
    ∙ ap (λ (bar : List ℕ). take 64 (drop (64 * b) bar)) (bar_taken here e n d)
  where
    here : Machine
    here = machine_of D past

    number : ℕ
    number = job_or_zero n (device_of here e).pending

    issuer : e < device_count D
    issuer = ltb-true e (device_count D) legal.0

    shape : HasShape D here
    shape = (machine_sound D valid past legal.2).shape

    there : number < length (shape_at D e).jobs
    there =
        free_job (fences D e) true (shape_at D e).window (device_of here e).pending n (length (shape_at D e).jobs) (shape.device e issuer).jobs
        (deliver_enabled D valid past e n legal)

    range : (1 ≤ length_of (job_of D here e n)) × (length_of (job_of D here e n) ≤ 64)
    range = some_bytes (job_of D here e n) (job_in_range D e number valid issuer there)

-- a block that is neither unread nor dirty is as its last reading took it
pub clean_read : (D : Desc) → IsValid D → (past : List Entry) → IsLegal D past → (d b : ℕ) → is_unread d b past ≡ false → is_dirty D d b past ≡ false
    → last_reading D d b past ≡ Some (block_bytes (machine_of D past) d b)
clean_read D valid [] legal d b was_read clean = absurd (true≢false was_read)
clean_read D valid (Block e c ∷ past) legal d b was_read clean =
    by_bool (e == d && c == b)
    (λ x. (not x && is_unread d b past) ≡ false → (not x && is_dirty D d b past) ≡ false
    → (if x then Some (block_bytes (machine_of D past) d b) else last_reading D d b past) ≡ Some (block_bytes (machine_of D past) d b))
    (λ same g h. refl) (λ other g h. clean_read D valid past legal.2 d b g h) was_read clean
clean_read D valid (Deliver e n ∷ past) legal d b was_read clean =
    let parts = or_parts (not (is_unread d b past) && writes_block D d b (job_of D (machine_of D past) e n)) (is_dirty D d b past) clean in
    let clear = unwritten (is_unread d b past) (writes_block D d b (job_of D (machine_of D past) e n)) was_read parts.0 in
    clean_read D valid past legal.2 d b was_read parts.1 ∙ ap Some (sym (delivery_leaves D valid past e n legal d b clear))
  where
    unwritten : (unread writes : Bool) → unread ≡ false → (not unread && writes) ≡ false → writes ≡ false
    unwritten true writes is h = absurd (true≢false is)
    unwritten false writes is h = h
clean_read D valid (entry ∷ past) legal d b was_read clean = clean_read D valid past legal.2 d b was_read clean

pub fresh_blocks : (D : Desc) (past : List Entry) (d b : ℕ) → IsValid D → IsLegal D past → is_block_stale D d b past ≡ false
    → last_reading D d b past ≡ Some (block_bytes (machine_of D past) d b)
fresh_blocks D past d b valid legal still =
    let parts = or_parts (is_unread d b past) (is_dirty D d b past) still in clean_read D valid past legal d b parts.0 parts.1

pub changed_blocks : (D : Desc) (past : List Entry) (d b : ℕ) → IsValid D → IsLegal D past
    → (last_reading D d b past ≡ Some (block_bytes (machine_of D past) d b) → ⊥) → is_block_stale D d b past ≡ true
changed_blocks D past d b valid legal changed =
    true_from_ne_false (is_block_stale D d b past) (λ still. changed (fresh_blocks D past d b valid legal still))
