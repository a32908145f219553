-- What a job makes of the part of the device that it is aimed at, kind by kind.
use Rattle.std.proofs.Common.{◌≡◌, ℕ, ◌+◌, ◌<◌, ◌≤◌, ◌&&◌, not, Bool, true, false, if◌then◌else◌, List, length, take, drop, refl, sym, ap, ◌∙◌, subst, eq-eqb, arith}
use Rattle.std.specs.Prelude.{IsTrue}
use Rattle.std.proofs.lemmas.List.{length-take}
use Rattle.std.specs.Int.{w64, from_le_bytes}
use Rattle.vfm_types.specs.declared.desc.Desc.{Desc}
use Rattle.vfm_types.specs.declared.desc.DevShape.{DevShape}
use Rattle.vfm_types.specs.declared.job.Job.{Job}
use Rattle.vfm_types.specs.declared.job.Job.TheVariants.{Write, Read, Store, Add}
use Rattle.vfm_types.specs.declared.job.Place.{Place}
use Rattle.vfm_types.specs.declared.job.Region.TheVariants.{Bar}
use Rattle.vfm_types.specs.Desc.{bar_bytes, device_count, shape_at}
use Rattle.vfm_types.specs.Job.{is_bar_of, is_bell, is_doorbell, is_writer, length_of, may_ring, place_of}
use Rattle.vfm_types.specs.Machine.{added, splice}
use Rattle.vfm_types.specs.Valid.{IsValid, is_job_in_range}
use Rattle.vfm_plain.proofs.Sound.{some_bytes}
use Rattle.vfm_parts.specs.Parts.{Dev}
use Rattle.vfm_parts.specs.Fits.{DevFits}
use Rattle.vfm_parts.specs.DeliverStep.{dirty_after_job, region_of_job, rung, struck, struck_dev}
use Rattle.vfm_space.specs.Blocks.{with_marks}
use Rattle.vfm_space.specs.BlocksOfParts.{blocks_of, writes_bar}
use Rattle.vfm_space.proofs.OfParts.{untouched, written}
use Rattle.vfm_device_part.specs.PartWrites.{put_dev, rung_dev, written_dev}

-- a job that lies in the BARs of device t, whose part fits
pub record Strikes (D : Desc) (t : ℕ) (dev : Dev) (job : Job) : Type 0 where
  pub valid : IsValid D
  pub inside : t < device_count D
  pub fits : DevFits D t dev
  pub in_range : IsTrue (is_job_in_range job)
  pub aimed : region_of_job D job ≡ Bar t
  pub within : (place_of D job).offset + length_of job ≤ bar_bytes (shape_at D t)

own_bar : (D : Desc) (t : ℕ) (job : Job) → region_of_job D job ≡ Bar t → is_bar_of t (place_of D job).region ≡ true
own_bar D t job aimed = ap (is_bar_of t) aimed ∙ eq-eqb t t refl

-- a writer that rings no doorbell writes into the BARs
writer : (w b r : Bool) → w ≡ true → b ≡ true → r ≡ false → (w && b && not r) ≡ true
writer w b r is_w is_b is_r = grind arith

rings : (w b r : Bool) → r ≡ true → (w && b && not r) ≡ false
rings w b r is_r = grind arith

-- the blocks that a write marks are those that the entry makes dirty
marked : (D : Desc) (t : ℕ) (dev : Dev) (job : Job) → Strikes D t dev job → writes_bar D t job ≡ true
    → (if dev.logging then (with_marks (place_of D job).offset (length_of job) (blocks_of dev)).dirty else dev.dirty) ≡ dirty_after_job D t job dev
marked D t dev job strikes writes = go dev.logging refl
  where
    go : (b : Bool) → dev.logging ≡ b
        → (if dev.logging then (with_marks (place_of D job).offset (length_of job) (blocks_of dev)).dirty else dev.dirty) ≡ dirty_after_job D t job dev
    go true is = ap (λ (b : Bool). if b then (with_marks (place_of D job).offset (length_of job) (blocks_of dev)).dirty else dev.dirty) is
        ∙ sym (written D t job dev strikes.valid strikes.inside strikes.fits strikes.in_range strikes.within writes is)
    go false is = rw is refl

-- bytes put at the place of a job that may ring
put_is : (D : Desc) (t : ℕ) (dev : Dev) (job : Job) (bytes : List ℕ) → Strikes D t dev job → is_writer job ≡ true → may_ring job ≡ true → length bytes ≡ length_of job
    → put_dev (shape_at D t) (place_of D job) bytes dev
    ≡ record dev { plain = struck (shape_at D t) (place_of D job) bytes dev.plain; dirty = dirty_after_job D t job dev }
put_is D t dev job bytes strikes is_w may len = go (is_bell place (length bytes)) refl
  where
    shape : DevShape
    shape = shape_at D t

    place : Place
    place = place_of D job

    bell : (b : Bool) → is_bell place (length bytes) ≡ b → is_doorbell D job ≡ b
    bell b is = ap (λ (x : Bool). x && is_bell place (length_of job)) may ∙ ap (is_bell place) (sym len) ∙ is

    go : (b : Bool) → is_bell place (length bytes) ≡ b
        → (if b then rung_dev shape (from_le_bytes w64 bytes) dev else written_dev place.offset bytes dev)
        ≡ record dev {
          plain = if b then rung shape dev.plain (from_le_bytes w64 bytes) else record dev.plain { bar = splice dev.plain.bar place.offset bytes };
          dirty = dirty_after_job D t job dev;
        }
    go true is = ap (λ (x : List ℕ). record dev { plain = rung shape dev.plain (from_le_bytes w64 bytes); dirty = x })
        (sym (untouched D t job dev strikes.fits (rings (is_writer job) (is_bar_of t place.region) (is_doorbell D job) (bell true is))))
    go false is = ap (λ (x : List ℕ). record dev { plain = record dev.plain { bar = splice dev.plain.bar place.offset bytes }; dirty = x })
        (ap (λ (n : ℕ). if dev.logging then (with_marks place.offset n (blocks_of dev)).dirty else dev.dirty) len
        ∙ marked D t dev job strikes (writer (is_writer job) (is_bar_of t place.region) (is_doorbell D job) is_w (own_bar D t job strikes.aimed) (bell false is)))

write_is : (D : Desc) (t : ℕ) (dev : Dev) (at : ℕ) (bytes buf : List ℕ) → Strikes D t dev (Write at bytes)
    → put_dev (shape_at D t) (place_of D (Write at bytes)) bytes dev ≡ struck_dev D t (Write at bytes) buf dev
write_is D t dev at bytes buf strikes = put_is D t dev (Write at bytes) bytes strikes refl refl refl

read_is : (D : Desc) (t : ℕ) (dev : Dev) (at len : ℕ) (buf : List ℕ) → Strikes D t dev (Read at len) → dev ≡ struck_dev D t (Read at len) buf dev
read_is D t dev at len buf strikes =
    ap (λ (x : List ℕ). record dev { dirty = x }) (sym (untouched D t (Read at len) dev strikes.fits refl))

store_is : (D : Desc) (t : ℕ) (dev : Dev) (at len : ℕ) (buf : List ℕ) → length buf ≡ 64 → Strikes D t dev (Store at len)
    → put_dev (shape_at D t) (place_of D (Store at len)) (take len buf) dev ≡ struck_dev D t (Store at len) buf dev
store_is D t dev at len buf size strikes =
    let few : len ≤ 64 = (some_bytes (Store at len) strikes.in_range).1 in
    let count = length-take len buf in
    put_is D t dev (Store at len) (take len buf) strikes refl refl (omega (arith, few, size, count))

add_is : (D : Desc) (t : ℕ) (dev : Dev) (at value : ℕ) (buf : List ℕ) → Strikes D t dev (Add at value)
    → written_dev (place_of D (Add at value)).offset (added (take 8 (drop (place_of D (Add at value)).offset dev.plain.bar)) value) dev
    ≡ struck_dev D t (Add at value) buf dev
add_is D t dev at value buf strikes =
    let place : Place = place_of D (Add at value) in
    let bytes : List ℕ = added (take 8 (drop place.offset dev.plain.bar)) value in
    ap (λ (x : List ℕ). record dev { plain = record dev.plain { bar = splice dev.plain.bar place.offset bytes }; dirty = x })
    (marked D t dev (Add at value) strikes (writer true (is_bar_of t place.region) false refl (own_bar D t (Add at value) strikes.aimed) refl))

-- the same of a job that is of this kind
pub struck_write : (D : Desc) (t : ℕ) (dev : Dev) (job : Job) (at : ℕ) (bytes buf : List ℕ) → job ≡ Write at bytes → Strikes D t dev job
    → put_dev (shape_at D t) (place_of D job) bytes dev ≡ struck_dev D t job buf dev
struck_write D t dev job at bytes buf is strikes =
    subst (λ (j : Job). put_dev (shape_at D t) (place_of D j) bytes dev ≡ struck_dev D t j buf dev) (sym is)
    (write_is D t dev at bytes buf (subst (Strikes D t dev) is strikes))

pub struck_read : (D : Desc) (t : ℕ) (dev : Dev) (job : Job) (at len : ℕ) (buf : List ℕ) → job ≡ Read at len → Strikes D t dev job
    → dev ≡ struck_dev D t job buf dev
struck_read D t dev job at len buf is strikes =
    subst (λ (j : Job). dev ≡ struck_dev D t j buf dev) (sym is) (read_is D t dev at len buf (subst (Strikes D t dev) is strikes))

pub struck_store : (D : Desc) (t : ℕ) (dev : Dev) (job : Job) (at len : ℕ) (buf : List ℕ) → length buf ≡ 64 → job ≡ Store at len → Strikes D t dev job
    → put_dev (shape_at D t) (place_of D job) (take len buf) dev ≡ struck_dev D t job buf dev
struck_store D t dev job at len buf size is strikes =
    subst (λ (j : Job). put_dev (shape_at D t) (place_of D j) (take len buf) dev ≡ struck_dev D t j buf dev) (sym is)
    (store_is D t dev at len buf size (subst (Strikes D t dev) is strikes))

pub struck_add : (D : Desc) (t : ℕ) (dev : Dev) (job : Job) (at value : ℕ) (buf : List ℕ) → job ≡ Add at value → Strikes D t dev job
    → written_dev (place_of D job).offset (added (take 8 (drop (place_of D job).offset dev.plain.bar)) value) dev ≡ struck_dev D t job buf dev
struck_add D t dev job at value buf is strikes =
    subst (λ (j : Job). written_dev (place_of D j).offset (added (take 8 (drop (place_of D j).offset dev.plain.bar)) value) dev ≡ struck_dev D t j buf dev)
    (sym is) (add_is D t dev at value buf (subst (Strikes D t dev) is strikes))
