-- What the effect of a request changes of the devices' queues: at most one request more, after the others.
use Rattle.std.proofs.Common.{◌≡◌, ℕ, ◌<◌, ◌≤◌, ◌&&◌, if◌then◌else◌, List, [], ◌∷◌, length, get_or, take, nat_lt, refl, ap, sym, ◌∙◌, subst, arith, ltb-true, ⊎_elim}
use Rattle.std.proofs.lemmas.Bool.{and_parts, cases_lt, cases_eq}
use Rattle.std.proofs.lemmas.List.{append-nil, length-set, get_or-set_same, get_or-set_other, set_past}
use Rattle.std.specs.Int.{w64, from_le_bytes}
use Rattle.vfm_types.specs.declared.job.Job.{Job}
use Rattle.vfm_types.specs.declared.job.Job.TheVariants.{Write, Read, Store, Add}
use Rattle.vfm_types.specs.declared.job.Region.{Region}
use Rattle.vfm_types.specs.declared.job.Region.TheVariants.{Page, Bar}
use Rattle.vfm_types.specs.declared.job.Place.{Place}
use Rattle.vfm_types.specs.declared.desc.Desc.{Desc}
use Rattle.vfm_types.specs.Desc.{shape_at}
use Rattle.vfm_types.specs.Job.{place_of, owner_or_zero, is_bell}
use Rattle.vfm_types.specs.Machine.{DeviceState, Machine, device_of, no_device, with_device, with_bytes, put_at, with_front, bytes_in, bytes_at, splice, with_bell_rung, with_accepted_request, with_lost_request, ring, write_at, added, effect}
use Rattle.vfm_laws.specs.Queues.{IsGrown}
use Rattle.vfm_laws.proofs.Rising.{by_bool}

-- the same queue and counts
SameQueue : DeviceState → DeviceState → Type 0
SameQueue before after = (after.pending ≡ before.pending) × (after.accepted ≡ before.accepted) × (after.done ≡ before.done)

grown_same : (D : Desc) (d : ℕ) (before after : DeviceState) → SameQueue before after → IsGrown D d before after
unfolding SameQueue
grown_same D d before after same = record {
  jobs = [];
  pending = same.0 ∙ sym (append-nil before.pending);
  accepted = let e : after.accepted ≡ before.accepted = same.1 in omega arith;
  done = same.2;
  budget = λ below. let e : after.accepted ≡ before.accepted = same.1 in omega arith;
}

grown_refl : (D : Desc) (d : ℕ) (device : DeviceState) → IsGrown D d device device
unfolding SameQueue
grown_refl D d device = grown_same D d device device (refl, refl, refl)

-- device d of a machine in which device t was changed
pub device_changed : (m : Machine) (t : ℕ) (device : DeviceState) → t < length m.devices → device_of (with_device m t device) t ≡ device
device_changed m t device inside = get_or-set_same m.devices t device no_device inside

pub device_other : (m : Machine) (t : ℕ) (device : DeviceState) (d : ℕ) → (d ≡ t → ⊥) → device_of (with_device m t device) d ≡ device_of m d
device_other m t device d other = get_or-set_other m.devices t d device no_device other

pub device_count_kept : (m : Machine) (t : ℕ) (device : DeviceState) → length (with_device m t device).devices ≡ length m.devices
device_count_kept m t device = length-set m.devices t device

with_device_grown : (D : Desc) (m : Machine) (t : ℕ) (device : DeviceState) → IsGrown D t (device_of m t) device
    → (d : ℕ) → IsGrown D d (device_of m d) (device_of (with_device m t device) d)
with_device_grown D m t device grown d = ⊎_elim here other (cases_eq d t)
  where
    here : d ≡ t → IsGrown D d (device_of m d) (device_of (with_device m t device) d)
    here e = subst (λ (k : ℕ). IsGrown D k (device_of m k) (device_of (with_device m t device) k)) (sym e) (⊎_elim inside outside (cases_lt t (length m.devices)))
      where
        inside : t < length m.devices → IsGrown D t (device_of m t) (device_of (with_device m t device) t)
        inside h = subst (IsGrown D t (device_of m t)) (sym (device_changed m t device h)) grown

        outside : length m.devices ≤ t → IsGrown D t (device_of m t) (device_of (with_device m t device) t)
        outside h = subst (IsGrown D t (device_of m t)) (sym (ap (λ (xs : List DeviceState). get_or xs t no_device) (set_past m.devices t device h))) (grown_refl D t (device_of m t))

    other : (d ≡ t → ⊥) → IsGrown D d (device_of m d) (device_of (with_device m t device) d)
    other e = subst (IsGrown D d (device_of m d)) (sym (device_other m t device d e)) (grown_refl D d (device_of m d))

-- a machine after which each queue is as before
SameQueues : Machine → Machine → Type 0
SameQueues before after = (d : ℕ) → SameQueue (device_of before d) (device_of after d)

with_device_same : (m : Machine) (t : ℕ) (device : DeviceState) → SameQueue (device_of m t) device → SameQueues m (with_device m t device)
unfolding SameQueues SameQueue
with_device_same m t device same d = ⊎_elim here other (cases_eq d t)
  where
    here : d ≡ t → SameQueue (device_of m d) (device_of (with_device m t device) d)
    here e = subst (λ (k : ℕ). SameQueue (device_of m k) (device_of (with_device m t device) k)) (sym e) (⊎_elim inside outside (cases_lt t (length m.devices)))
      where
        inside : t < length m.devices → SameQueue (device_of m t) (device_of (with_device m t device) t)
        inside h = subst (SameQueue (device_of m t)) (sym (device_changed m t device h)) same

        outside : length m.devices ≤ t → SameQueue (device_of m t) (device_of (with_device m t device) t)
        outside h = subst (SameQueue (device_of m t)) (sym (ap (λ (xs : List DeviceState). get_or xs t no_device) (set_past m.devices t device h))) (refl, refl, refl)

    other : (d ≡ t → ⊥) → SameQueue (device_of m d) (device_of (with_device m t device) d)
    other e = subst (SameQueue (device_of m d)) (sym (device_other m t device d e)) (refl, refl, refl)

with_bytes_same : (m : Machine) (region : Region) (bytes : List ℕ) → SameQueues m (with_bytes m region bytes)
unfolding SameQueues SameQueue
with_bytes_same m (Page p) bytes d = (refl, refl, refl)
with_bytes_same m (Bar t) bytes d = with_device_same m t (record (device_of m t) { bar = bytes }) (refl, refl, refl) d

put_same : (m : Machine) (place : Place) (bytes : List ℕ) → SameQueues m (put_at m place bytes)
put_same m place bytes = with_bytes_same m place.region (splice (bytes_in m place.region) place.offset bytes)

front_same : (m : Machine) (t : ℕ) (bytes : List ℕ) → SameQueues m (with_front m t bytes)
unfolding SameQueues SameQueue
front_same m t bytes d = with_device_same m t (record (device_of m t) { buf = splice (device_of m t).buf 0 bytes }) (refl, refl, refl) d

-- a bell that is rung for a job that the budget allows adds one request
rung_grown : (D : Desc) (t : ℕ) (device : DeviceState) (number : ℕ) → IsGrown D t device (with_bell_rung (shape_at D t) device number)
unfolding SameQueue
rung_grown D t device number =
    by_bool (nat_lt number (length (shape_at D t).jobs) && nat_lt device.accepted (shape_at D t).budget)
    (λ b. (nat_lt number (length (shape_at D t).jobs) && nat_lt device.accepted (shape_at D t).budget) ≡ b
    → IsGrown D t device (if b then with_accepted_request device number else with_lost_request device))
    (λ yes_ e. record {
      jobs = number ∷ [];
      pending = refl;
      accepted = refl;
      done = refl;
      budget = λ below.
          let room : device.accepted < (shape_at D t).budget = ltb-true device.accepted (shape_at D t).budget (and_parts (nat_lt number (length (shape_at D t).jobs)) (nat_lt device.accepted (shape_at D t).budget) e).1 in
          omega arith;
    })
    (λ no_ e. grown_same D t device (with_lost_request device) (refl, refl, refl)) refl

write_grown : (D : Desc) (m : Machine) (place : Place) (bytes : List ℕ) (d : ℕ) → IsGrown D d (device_of m d) (device_of (write_at D m place bytes) d)
unfolding SameQueues
write_grown D m place bytes d =
    by_bool (is_bell place (length bytes))
    (λ b. IsGrown D d (device_of m d) (device_of (if b then ring D m (owner_or_zero place.region) (from_le_bytes w64 bytes) else put_at m place bytes) d))
    (λ bell. with_device_grown D m (owner_or_zero place.region) (with_bell_rung (shape_at D (owner_or_zero place.region)) (device_of m (owner_or_zero place.region)) (from_le_bytes w64 bytes))
    (rung_grown D (owner_or_zero place.region) (device_of m (owner_or_zero place.region)) (from_le_bytes w64 bytes)) d)
    (λ plain. grown_same D d (device_of m d) (device_of (put_at m place bytes) d) (put_same m place bytes d))

-- each queue after the effect of a job
pub effect_grown : (D : Desc) (m : Machine) (e : ℕ) (job : Job) (d : ℕ) → IsGrown D d (device_of m d) (device_of (effect D m e job) d)
unfolding SameQueues SameQueue
effect_grown D m e (Write at bytes) d = write_grown D m (place_of D (Write at bytes)) bytes d
effect_grown D m e (Read at len) d =
    grown_same D d (device_of m d) (device_of (effect D m e (Read at len)) d) (front_same m e (bytes_at m (place_of D (Read at len)) len) d)
effect_grown D m e (Store at len) d = write_grown D m (place_of D (Store at len)) (take len (device_of m e).buf) d
effect_grown D m e (Add at value) d =
    let old = bytes_at m (place_of D (Add at value)) 8 in
    let middle = put_at m (place_of D (Add at value)) (added old value) in
    let first = put_same m (place_of D (Add at value)) (added old value) d in
    let second = front_same middle e old d in
    grown_same D d (device_of m d) (device_of (with_front middle e old) d) (second.0 ∙ first.0, second.1 ∙ first.1, second.2 ∙ first.2)

-- an effect keeps the number of devices
with_bytes_count : (m : Machine) (region : Region) (bytes : List ℕ) → length (with_bytes m region bytes).devices ≡ length m.devices
with_bytes_count m (Page p) bytes = refl
with_bytes_count m (Bar t) bytes = device_count_kept m t (record (device_of m t) { bar = bytes })

write_count : (D : Desc) (m : Machine) (place : Place) (bytes : List ℕ) → length (write_at D m place bytes).devices ≡ length m.devices
write_count D m place bytes =
    by_bool (is_bell place (length bytes))
    (λ b. length (if b then ring D m (owner_or_zero place.region) (from_le_bytes w64 bytes) else put_at m place bytes).devices ≡ length m.devices)
    (λ bell. device_count_kept m (owner_or_zero place.region) (with_bell_rung (shape_at D (owner_or_zero place.region)) (device_of m (owner_or_zero place.region)) (from_le_bytes w64 bytes)))
    (λ plain. with_bytes_count m place.region (splice (bytes_in m place.region) place.offset bytes))

front_count : (m : Machine) (t : ℕ) (bytes : List ℕ) → length (with_front m t bytes).devices ≡ length m.devices
front_count m t bytes = device_count_kept m t (record (device_of m t) { buf = splice (device_of m t).buf 0 bytes })

pub effect_count : (D : Desc) (m : Machine) (e : ℕ) (job : Job) → length (effect D m e job).devices ≡ length m.devices
effect_count D m e (Write at bytes) = write_count D m (place_of D (Write at bytes)) bytes
effect_count D m e (Read at len) = front_count m e (bytes_at m (place_of D (Read at len)) len)
effect_count D m e (Store at len) = write_count D m (place_of D (Store at len)) (take len (device_of m e).buf)
effect_count D m e (Add at value) =
    let old = bytes_at m (place_of D (Add at value)) 8 in
    let middle = put_at m (place_of D (Add at value)) (added old value) in
    front_count middle e old ∙ with_bytes_count m (place_of D (Add at value)).region (splice (bytes_in m (place_of D (Add at value)).region) (place_of D (Add at value)).offset (added old value))
