-- What the effect of a job changes of a machine: the issuer's buffer, and the page or the device that it is aimed at.
use Rattle.std.proofs.Common.{◌≡◌, ℕ, ◌+◌, ◌<◌, ◌==◌, Bool, true, false, ◌&&◌, if◌then◌else◌, nat_lt, List, [], length, take, drop, slice_index_or, slice_set, refl, ap, sym, ◌∙◌, subst, arith, eqb-true}
use Rattle.std.proofs.lemmas.Bool.{cond-false, eqb-false}
use Rattle.std.proofs.lemmas.List.{get_or-set_same, get_or-set_other, length-set}
use Rattle.std.specs.Int.{w64, from_le_bytes}
use Rattle.vfm_types.specs.declared.job.Job.{Job}
use Rattle.vfm_types.specs.declared.job.Job.TheVariants.{Write, Read, Store, Add}
use Rattle.vfm_types.specs.declared.job.Region.{Region}
use Rattle.vfm_types.specs.declared.job.Region.TheVariants.{Page, Bar}
use Rattle.vfm_types.specs.declared.desc.Desc.{Desc}
use Rattle.vfm_types.specs.declared.desc.DevShape.{DevShape}
use Rattle.vfm_types.specs.Desc.{shape_at}
use Rattle.vfm_types.specs.Job.{place_of, is_bell, is_bar_of, is_page}
use Rattle.vfm_types.specs.Machine.{DeviceState, Machine, device_of, no_device, with_device, bytes_in, with_bytes, bytes_at, put_at, with_bell_rung, with_accepted_request, ring, write_at, added, effect, splice}
use Rattle.vfm_types.specs.Deliveries.{page_bytes}
use Rattle.vfm_laws.proofs.Rising.{by_bool}
use Rattle.vfm_parts.specs.Parts.{one_more}
use Rattle.vfm_parts.specs.DeliverStep.{buffer_after, page_after_job, struck, target_after_job, rung}

-- ---- one device or one page set

-- what is said of the number of the place that is meant is said of the place
at_same : {X : Type 0} (F : ℕ → X) (t k : ℕ) (y : X) → (if t == k then F t else y) ≡ (if t == k then F k else y)
at_same {X} F t k y =
    by_bool (t == k) (λ b. (t == k) ≡ b → (if b then F t else y) ≡ (if b then F k else y))
    (λ here e. ap F (eqb-true t k e)) (λ away e. refl) refl

set_at : {X : Type 0} (xs : List X) (t : ℕ) (x : X) (k : ℕ) (none : X) → k < length xs
    → slice_index_or (slice_set xs t x) k none ≡ (if t == k then x else slice_index_or xs k none)
set_at xs t x k none inside =
    by_bool (t == k) (λ b. (t == k) ≡ b → slice_index_or (slice_set xs t x) k none ≡ (if b then x else slice_index_or xs k none))
    (λ here e. let same : t ≡ k = eqb-true t k e in
    subst (λ (j : ℕ). slice_index_or (slice_set xs j x) k none ≡ x) (sym same) (get_or-set_same xs k x none inside))
    (λ away e. get_or-set_other xs t k x none (λ same. eqb-false t k e (sym same))) refl

device_set : (m : Machine) (t : ℕ) (dev : DeviceState) (k : ℕ) → k < length m.devices
    → device_of (with_device m t dev) k ≡ (if t == k then dev else device_of m k)
device_set m t dev k inside = set_at m.devices t dev k no_device inside

-- ---- a write

-- a doorbell that is rung, where its count of lost requests doesn't stand still
rung_is : (shape : DevShape) (plain : DeviceState) (number : ℕ) → plain.lost < 4294967295 → with_bell_rung shape plain number ≡ rung shape plain number
rung_is shape plain number few =
    ap (λ (n : ℕ). if nat_lt number (length shape.jobs) && nat_lt plain.accepted shape.budget then with_accepted_request plain number
    else record plain { lost = n }) (still plain.lost few)
  where
    still : (n : ℕ) → n < 4294967295 → n + 1 ≡ one_more n
    still n below = omega arith

write_device : (D : Desc) (m : Machine) (region : Region) (offset : ℕ) (bytes : List ℕ) (k : ℕ) → k < length m.devices
    → (device_of m k).lost < 4294967295
    → device_of (write_at D m (record { region = region; offset = offset }) bytes) k
    ≡ (if is_bar_of k region then struck (shape_at D k) (record { region = region; offset = offset }) bytes (device_of m k) else device_of m k)
write_device D m (Page p) offset bytes k inside few = refl
write_device D m (Bar t) offset bytes k inside few =
    by_bool (is_bell (record { region = Bar t; offset = offset }) (length bytes))
    (λ b. device_of (if b then ring D m t (from_le_bytes w64 bytes) else put_at m (record { region = Bar t; offset = offset }) bytes) k
    ≡ (if t == k then (if b then rung (shape_at D k) (device_of m k) (from_le_bytes w64 bytes)
    else record (device_of m k) { bar = splice (device_of m k).bar offset bytes }) else device_of m k))
    (λ bell. device_set m t _ k inside
    ∙ at_same (λ j. with_bell_rung (shape_at D j) (device_of m j) (from_le_bytes w64 bytes)) t k (device_of m k)
    ∙ ap (λ (dev : DeviceState). if t == k then dev else device_of m k) (rung_is (shape_at D k) (device_of m k) (from_le_bytes w64 bytes) few))
    (λ plain. device_set m t _ k inside
    ∙ at_same (λ j. record (device_of m j) { bar = splice (device_of m j).bar offset bytes }) t k (device_of m k))

write_page : (D : Desc) (m : Machine) (region : Region) (offset : ℕ) (bytes : List ℕ) (p : ℕ) → p < length m.pages
    → page_bytes (write_at D m (record { region = region; offset = offset }) bytes) p
    ≡ (if is_page p region then splice (page_bytes m p) offset bytes else page_bytes m p)
write_page D m (Page q) offset bytes p inside =
    set_at m.pages q (splice (page_bytes m q) offset bytes) p [] inside
    ∙ at_same (λ j. splice (page_bytes m j) offset bytes) q p (page_bytes m p)
write_page D m (Bar t) offset bytes p inside =
    by_bool (is_bell (record { region = Bar t; offset = offset }) (length bytes))
    (λ b. page_bytes (if b then ring D m t (from_le_bytes w64 bytes) else put_at m (record { region = Bar t; offset = offset }) bytes) p ≡ page_bytes m p)
    (λ bell. refl) (λ plain. refl)

-- bytes put at a place, made of those that stand in its region
put_device : (m : Machine) (region : Region) (made : List ℕ → List ℕ) (k : ℕ) → k < length m.devices
    → device_of (with_bytes m region (made (bytes_in m region))) k
    ≡ (if is_bar_of k region then record (device_of m k) { bar = made (device_of m k).bar } else device_of m k)
put_device m (Page p) made k inside = refl
put_device m (Bar t) made k inside =
    device_set m t _ k inside ∙ at_same (λ j. record (device_of m j) { bar = made (device_of m j).bar }) t k (device_of m k)

put_page : (m : Machine) (region : Region) (made : List ℕ → List ℕ) (p : ℕ) → p < length m.pages
    → page_bytes (with_bytes m region (made (bytes_in m region))) p ≡ (if is_page p region then made (page_bytes m p) else page_bytes m p)
put_page m (Page q) made p inside =
    set_at m.pages q (made (page_bytes m q)) p [] inside ∙ at_same (λ j. made (page_bytes m j)) q p (page_bytes m p)
put_page m (Bar t) made p inside = refl

put_count : (m : Machine) (region : Region) (bytes : List ℕ) → length (with_bytes m region bytes).devices ≡ length m.devices
put_count m (Page p) bytes = refl
put_count m (Bar t) bytes = length-set m.devices t (record (device_of m t) { bar = bytes })

-- ---- a job

-- the issuer isn't the target
apart : {X : Type 0} (own aimed : Bool) (x y z : X) → (own ≡ true → aimed ≡ false) → (own ≡ true → z ≡ x)
    → (if aimed then y else z) ≡ (if own then x else (if aimed then y else z))
apart true aimed x y z away same = ap (λ b. if b then y else z) (away refl) ∙ same refl
apart false aimed x y z away same = refl

both_same : {X : Type 0} (b : Bool) (x : X) → x ≡ (if b then x else x)
both_same true x = refl
both_same false x = refl

pub effect_device : (D : Desc) (m : Machine) (d : ℕ) (job : Job) (k : ℕ) → k < length m.devices → (device_of m k).lost < 4294967295
    → is_bar_of d (place_of D job).region ≡ false
    → device_of (effect D m d job) k
    ≡ (if d == k then record (device_of m d) { buf = buffer_after D job (bytes_in m (place_of D job).region) (device_of m d).buf }
    else (if is_bar_of k (place_of D job).region then target_after_job D k job (device_of m d).buf (device_of m k) else device_of m k))
effect_device D m d (Write at bytes) k inside few away =
    write_device D m (place_of D (Write at bytes)).region (place_of D (Write at bytes)).offset bytes k inside few
    ∙ apart (d == k) (is_bar_of k (place_of D (Write at bytes)).region) (device_of m d) _ (device_of m k)
    (λ e. subst (λ (j : ℕ). is_bar_of j (place_of D (Write at bytes)).region ≡ false) (eqb-true d k e) away)
    (λ e. ap (device_of m) (sym (eqb-true d k e)))
effect_device D m d (Read at len) k inside few away =
    device_set m d _ k inside
    ∙ ap (λ (dev : DeviceState). if d == k then record (device_of m d) { buf = splice (device_of m d).buf 0 (bytes_at m (place_of D (Read at len)) len) } else dev)
    (both_same (is_bar_of k (place_of D (Read at len)).region) (device_of m k))
effect_device D m d (Store at len) k inside few away =
    write_device D m (place_of D (Store at len)).region (place_of D (Store at len)).offset (take len (device_of m d).buf) k inside few
    ∙ apart (d == k) (is_bar_of k (place_of D (Store at len)).region) (device_of m d) _ (device_of m k)
    (λ e. subst (λ (j : ℕ). is_bar_of j (place_of D (Store at len)).region ≡ false) (eqb-true d k e) away)
    (λ e. ap (device_of m) (sym (eqb-true d k e)))
effect_device D m d (Add at value) k inside few away =
    device_set middle d _ k (subst (λ (n : ℕ). k < n) (sym (put_count m region (made (bytes_in m region)))) inside)
    ∙ by_bool (d == k)
    (λ b. (d == k) ≡ b → (if b then fronted (device_of middle d) else device_of middle k)
    ≡ (if b then fronted (device_of m d) else (if is_bar_of k region then record (device_of m k) { bar = made (device_of m k).bar } else device_of m k)))
    (λ own e. ap fronted (put_device m region made d (subst (λ (j : ℕ). j < length m.devices) (sym (eqb-true d k e)) inside) ∙ cond-false _ _ _ away))
    (λ other e. put_device m region made k inside) refl
  where
    region : Region
    region = (place_of D (Add at value)).region

    made : List ℕ → List ℕ
    made old = let offset = (place_of D (Add at value)).offset in splice old offset (added (take 8 (drop offset old)) value)

    middle : Machine
    middle = with_bytes m region (made (bytes_in m region))

    fronted : DeviceState → DeviceState
    fronted dev = record dev { buf = splice dev.buf 0 (bytes_at m (place_of D (Add at value)) 8) }

pub effect_page : (D : Desc) (m : Machine) (d : ℕ) (job : Job) (p : ℕ) → p < length m.pages
    → page_bytes (effect D m d job) p
    ≡ (if is_page p (place_of D job).region then page_after_job D job (device_of m d).buf (page_bytes m p) else page_bytes m p)
effect_page D m d (Write at bytes) p inside =
    write_page D m (place_of D (Write at bytes)).region (place_of D (Write at bytes)).offset bytes p inside
effect_page D m d (Read at len) p inside = both_same (is_page p (place_of D (Read at len)).region) (page_bytes m p)
effect_page D m d (Store at len) p inside =
    write_page D m (place_of D (Store at len)).region (place_of D (Store at len)).offset (take len (device_of m d).buf) p inside
effect_page D m d (Add at value) p inside =
    let place = place_of D (Add at value) in
    put_page m place.region (λ old. splice old place.offset (added (take 8 (drop place.offset old)) value)) p inside
