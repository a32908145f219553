-- The target's side of a Deliver fits: the device into whose BARs a job is, and the page.
use Rattle.std.proofs.Common.{◌≡◌, ℕ, ◌+◌, ◌<◌, ◌≤◌, ◌&&◌, ◌||◌, not, nat_lt, if◌then◌else◌, List, [], ◌∷◌, length, take, drop, refl, ◌∙◌, arith, ltb-true, length-take}
use Rattle.std.proofs.lemmas.Bool.{and_parts}
use Rattle.std.proofs.lemmas.List.Elements.{All-push}
use Rattle.std.specs.Int.{w64, from_le_bytes}
use Rattle.vfm_types.specs.declared.desc.Desc.{Desc}
use Rattle.vfm_types.specs.declared.job.Job.{Job}
use Rattle.vfm_types.specs.declared.job.Job.TheVariants.{Write, Read, Store, Add}
use Rattle.vfm_types.specs.declared.job.Place.{Place}
use Rattle.vfm_base.specs.PageSet.{contains_page}
use Rattle.vfm_types.specs.Desc.{shape_at, bar_bytes, block_count}
use Rattle.vfm_types.specs.Job.{place_of, length_of, is_bell}
use Rattle.vfm_types.specs.Machine.{DeviceState, splice, added, with_accepted_request}
use Rattle.vfm_types.specs.Blocks.{writes_block}
use Rattle.vfm_plain.specs.Shape.{DeviceHasShape}
use Rattle.vfm_plain.proofs.Steps.{length-splice}
use Rattle.vfm_laws.specs.Queues.{IsGrown}
use Rattle.vfm_laws.proofs.Rising.{by_bool}
use Rattle.vfm_laws.proofs.Queued.{queue_grown}
use Rattle.vfm_parts.specs.Parts.{Dev, numbers_below, one_more}
use Rattle.vfm_parts.specs.Fits.{IsSetBelow, DevFits}
use Rattle.vfm_parts.specs.DeliverStep.{rung, struck, target_after_job, page_after_job, dirty_after_job, struck_dev}
use Rattle.vfm_parts_laws.proofs.FittingQueues.{set_fits, same_queue}

-- what a device keeps that is written or rung
pub record PlainKept (D : Desc) (t : ℕ) (before after : DeviceState) : Type 0 where
  pub shape : DeviceHasShape (shape_at D t) before → DeviceHasShape (shape_at D t) after
  pub grown : IsGrown D t before after
  pub lost : before.lost ≤ 4294967295 → after.lost ≤ 4294967295

kept_same : (D : Desc) (t : ℕ) (plain : DeviceState) → PlainKept D t plain plain
kept_same D t plain =
    record { shape = λ fits. fits; grown = same_queue D t plain plain.bar plain.buf plain.lost; lost = λ few. few }

kept_written : (D : Desc) (t : ℕ) (plain : DeviceState) (offset : ℕ) (bytes : List ℕ)
    → (length plain.bar ≡ bar_bytes (shape_at D t) → offset + length bytes ≤ length plain.bar)
    → PlainKept D t plain (record plain { bar = splice plain.bar offset bytes })
kept_written D t plain offset bytes inside =
    record {
      shape = λ fits. record { bar = length-splice plain.bar offset bytes (inside fits.bar) ∙ fits.bar; buf = fits.buf; jobs = fits.jobs };
      grown = same_queue D t plain (splice plain.bar offset bytes) plain.buf plain.lost;
      lost = λ few. few;
    }

kept_rung : (D : Desc) (t : ℕ) (plain : DeviceState) (number : ℕ) → PlainKept D t plain (rung (shape_at D t) plain number)
kept_rung D t plain number =
    by_bool (nat_lt number (length (shape_at D t).jobs) && nat_lt plain.accepted (shape_at D t).budget)
    (λ b. (nat_lt number (length (shape_at D t).jobs) && nat_lt plain.accepted (shape_at D t).budget) ≡ b
    → PlainKept D t plain (if b then with_accepted_request plain number else record plain { lost = one_more plain.lost }))
    (λ takes e.
    let both = and_parts (nat_lt number (length (shape_at D t).jobs)) (nat_lt plain.accepted (shape_at D t).budget) e in
    let room : plain.accepted < (shape_at D t).budget = ltb-true plain.accepted (shape_at D t).budget both.1 in
    record {
      shape = λ fits. record {
        bar = fits.bar;
        buf = fits.buf;
        jobs = All-push (λ r. r.1 < length (shape_at D t).jobs) plain.pending (plain.accepted, number) fits.jobs (ltb-true number (length (shape_at D t).jobs) both.0);
      };
      grown = record { jobs = number ∷ []; pending = refl; accepted = refl; done = refl; budget = λ below. omega arith };
      lost = λ few. few;
    })
    (λ loses e. record {
      shape = λ fits. record { bar = fits.bar; buf = fits.buf; jobs = fits.jobs };
      grown = same_queue D t plain plain.bar plain.buf (one_more plain.lost);
      lost = λ few. omega arith;
    }) refl

kept_struck : (D : Desc) (t : ℕ) (place : Place) (bytes : List ℕ) (plain : DeviceState)
    → (length plain.bar ≡ bar_bytes (shape_at D t) → place.offset + length bytes ≤ length plain.bar)
    → PlainKept D t plain (struck (shape_at D t) place bytes plain)
kept_struck D t place bytes plain inside =
    by_bool (is_bell place (length bytes))
    (λ b. PlainKept D t plain (if b then rung (shape_at D t) plain (from_le_bytes w64 bytes) else record plain { bar = splice plain.bar place.offset bytes }))
    (λ bell. kept_rung D t plain (from_le_bytes w64 bytes)) (λ write. kept_written D t plain place.offset bytes inside)

pub kept_target : (D : Desc) (t : ℕ) (job : Job) (buf : List ℕ) (plain : DeviceState)
    → (place_of D job).offset + length_of job ≤ bar_bytes (shape_at D t) → PlainKept D t plain (target_after_job D t job buf plain)
kept_target D t (Write at bytes) buf plain inside = kept_struck D t (place_of D (Write at bytes)) bytes plain (λ is. omega arith)
kept_target D t (Read at len) buf plain inside = kept_same D t plain
kept_target D t (Store at len) buf plain inside =
    let count = length-take len buf in kept_struck D t (place_of D (Store at len)) (take len buf) plain (λ is. omega arith)
kept_target D t (Add at value) buf plain inside =
    let offset = (place_of D (Add at value)).offset in
    kept_written D t plain offset (added (take 8 (drop offset plain.bar)) value) (λ is. omega arith)

dirty_fits : (D : Desc) (t : ℕ) (job : Job) (dev : Dev) → IsSetBelow (block_count (shape_at D t)) dev.dirty → IsSetBelow (block_count (shape_at D t)) (dirty_after_job D t job dev)
dirty_fits D t job dev fits =
    by_bool dev.logging
    (λ b. IsSetBelow (block_count (shape_at D t)) (if b then numbers_below (block_count (shape_at D t)) (λ c. (not (contains_page dev.unread c) && writes_block D t c job) || contains_page dev.dirty c) else dev.dirty))
    (λ starts. set_fits (block_count (shape_at D t)) _) (λ stopped. fits)

same_done : (D : Desc) (t : ℕ) (before after : DeviceState) → IsGrown D t before after → after.done ≡ before.done
same_done D t before after grown = grown.done

pub target_fits : (D : Desc) (t : ℕ) (job : Job) (buf : List ℕ) (dev : Dev) → (place_of D job).offset + length_of job ≤ bar_bytes (shape_at D t)
    → DevFits D t dev → DevFits D t (struck_dev D t job buf dev)
target_fits D t job buf dev inside fits =
    let kept = kept_target D t job buf dev.plain inside in
    let done : (target_after_job D t job buf dev.plain).done ≡ dev.plain.done = kept.grown.done in
    let few = fits.issued in
    record {
      shape = kept.shape fits.shape;
      queue = queue_grown D t dev.plain (target_after_job D t job buf dev.plain) dev.requests fits.queue kept.grown;
      known = fits.known;
      issued = omega arith;
      completed = fits.completed;
      arcs = fits.arcs;
      lost = kept.lost fits.lost;
      marks = fits.marks;
      unread = fits.unread;
      dirty = dirty_fits D t job dev fits.dirty;
    }

pub page_fits : (D : Desc) (job : Job) (buf old : List ℕ) → (place_of D job).offset + length_of job ≤ D.page → length old ≡ D.page
    → length (page_after_job D job buf old) ≡ D.page
page_fits D (Write at bytes) buf old inside is = length-splice old (place_of D (Write at bytes)).offset bytes (omega arith) ∙ is
page_fits D (Read at len) buf old inside is = is
page_fits D (Store at len) buf old inside is =
    let count = length-take len buf in length-splice old (place_of D (Store at len)).offset (take len buf) (omega arith) ∙ is
page_fits D (Add at value) buf old inside is =
    let offset = (place_of D (Add at value)).offset in
    length-splice old offset (added (take 8 (drop offset old)) value) (omega arith) ∙ is
