-- A device of a machine that is set several times, and devices and pages that are set one after the other.
use Rattle.std.proofs.Common.{◌≡◌, ℕ, ◌+◌, ◌<◌, ◌≤◌, List, [], ◌∷◌, ◌++◌, length, take, slice_index_or, slice_set, refl, ap, ap₂, sym, ◌∙◌, arith, add-one, ⊎_elim, append_assoc}
use Rattle.std.proofs.lemmas.Bool.{cases_eq}
use Rattle.std.proofs.lemmas.List.{get_or-set_same, get_or-set_other, set-get_or, length-set, length-append, append-nil}
use Rattle.std.proofs.Math.Seq.{set-set, take-suc}
use Rattle.vfm_types.specs.Machine.{DeviceState, Machine, device_of, no_device, with_device}
use Rattle.vfm_parts.proofs.Listed.{listed_items, listed_same}
use Rattle.vfm_core.specs.Copied.{grown_by}

-- a device changed again
pub changed_again : (m now next : Machine) (d : ℕ) (x : DeviceState) (f : DeviceState → DeviceState) → d < length m.devices → now ≡ with_device m d x
    → next ≡ with_device now d (f (device_of now d)) → next ≡ with_device m d (f x)
changed_again m now next d x f inside is again =
    again ∙ ap (λ (n : Machine). with_device n d (f (device_of n d))) is
    ∙ ap₂ (λ (ds : List DeviceState) (dev : DeviceState). record { pages = m.pages; devices = ds })
    (set-set m.devices d x (f (device_of (with_device m d x) d)) ∙ ap (λ (dev : DeviceState). slice_set m.devices d (f dev)) (get_or-set_same m.devices d x no_device inside))
    (get_or-set_same m.devices d x no_device inside)

-- not changed at all
pub not_changed : (m : Machine) (d : ℕ) → m ≡ with_device m d (device_of m d)
not_changed m d = ap (λ (ds : List DeviceState). record { pages = m.pages; devices = ds }) (sym (set-get_or m.devices d no_device))

-- with no request more
pub grown_none : (x : DeviceState) → grown_by [] x ≡ x
grown_none x =
    let same : x.accepted + 0 ≡ x.accepted = omega arith in
    ap₂ (λ (pending : List (ℕ × ℕ)) (accepted : ℕ). record x { pending = pending; accepted = accepted }) (append-nil x.pending) same

-- one request more after the first ones
abbrev pub grown_one : ℕ → ℕ → DeviceState → DeviceState
grown_one number job x = record x { pending = x.pending ++ (number, job) ∷ []; accepted = x.accepted + 1 }

pub grown_more : (x : DeviceState) (requests : List (ℕ × ℕ)) (k number job : ℕ) → k < length requests
    → ◌≡◌ {A = ℕ × ℕ} (slice_index_or requests k (0, 0)) (number, job)
    → grown_one number job (grown_by (take k requests) x) ≡ grown_by (take (k + 1) requests) x
grown_more x requests k number job h is =
    let more : take (k + 1) requests ≡ take k requests ++ (number, job) ∷ [] =
    rw add-one (take-suc requests k (0, 0) h) ∙ ap (λ (r : ℕ × ℕ). take k requests ++ r ∷ []) is in
    let count : x.accepted + length (take k requests) + 1 ≡ x.accepted + length (take k requests ++ (number, job) ∷ []) =
    let longer = length-append (take k requests) ((number, job) ∷ []) in omega arith in
    ap₂ (λ (pending : List (ℕ × ℕ)) (accepted : ℕ). record x { pending = pending; accepted = accepted })
    (append_assoc x.pending (take k requests) ((number, job) ∷ [])) count
    ∙ ap (λ (list : List (ℕ × ℕ)). grown_by list x) (sym more)

-- ---- items that are replaced one after the other

-- the items below i are those of a source, and the others are as before
pub record Replaced {X : Type 0} (x : X) (source before now : List X) (i : ℕ) : Type 0 where
  pub count : length now ≡ length source
  pub done : (k : ℕ) → k < i → slice_index_or now k x ≡ slice_index_or source k x
  pub rest : (k : ℕ) → i ≤ k → slice_index_or now k x ≡ slice_index_or before k x

pub none_replaced : {X : Type 0} (x : X) (source before : List X) → length before ≡ length source → Replaced x source before before 0
none_replaced x source before same = record { count = same; done = λ k h. absurd (omega arith); rest = λ k h. refl }

pub one_replaced : {X : Type 0} (x : X) (source before now : List X) (i : ℕ) (y : X) → Replaced x source before now i → i < length source
    → y ≡ slice_index_or source i x → Replaced x source before (slice_set now i y) (i + 1)
one_replaced x source before now i y is h made =
    record {
      count = length-set now i y ∙ is.count;
      done = λ k low. ⊎_elim
          (λ (same : k ≡ i). let inside : i < length now = by is.count h in
          ap (λ (j : ℕ). slice_index_or (slice_set now i y) j x) same ∙ get_or-set_same now i y x inside ∙ made ∙ ap (λ (j : ℕ). slice_index_or source j x) (sym same))
          (λ (other : k ≡ i → ⊥). get_or-set_other now i k y x other ∙ is.done k (omega arith)) (cases_eq k i);
      rest = λ k high. get_or-set_other now i k y x (λ e. omega arith) ∙ is.rest k (omega arith);
    }
  where
    by : length now ≡ length source → i < length source → i < length now
    by e low = omega arith

pub all_replaced : {X : Type 0} (x : X) (source before now : List X) (i : ℕ) → Replaced x source before now i → length source ≤ i → now ≡ source
all_replaced x source before now i is all =
    sym (listed_items (length source) now x is.count)
    ∙ listed_same (length source) (λ k. slice_index_or now k x) (λ k. slice_index_or source k x) (λ k h. is.done k (omega arith))
    ∙ listed_items (length source) source x refl
