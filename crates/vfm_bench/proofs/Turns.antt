-- What doing the first pending request of a device counts, and how many requests all devices can do.
use Rattle.std.proofs.Common.{◌≡◌, ℕ, suc, zero, ◌+◌, ◌<◌, ◌≤◌, ◌||◌, not, Bool, true, false, if◌then◌else◌, List, [], ◌∷◌, length, slice_index_or, All, eq-eqb, refl, sym, ap, ◌∙◌, arith}
use Rattle.std.proofs.lemmas.Bool.{false≢true}
use Rattle.std.proofs.lemmas.List.Elements.{All-from_get_or}
use Rattle.std.proofs.lemmas.List.Sums.{sum_by-le}
use Rattle.vfm_types.specs.declared.desc.Desc.{Desc}
use Rattle.vfm_types.specs.Desc.{device_count, shape_at}
use Rattle.vfm_types.specs.Valid.{IsValid}
use Rattle.vfm_types.specs.Machine.{DeviceState, Machine, device_of, no_device}
use Rattle.vfm_types.specs.Requests.{fences, is_free, is_enabled, do_request}
use Rattle.vfm_plain.specs.Shape.{IsSound, all_done}
use Rattle.vfm_plain.proofs.Effects.{all_done-do_request}

-- the first of some pending requests is free, in any window
first_free : (fence : ℕ → Bool) (window : ℕ) (requests : List (ℕ × ℕ)) → 1 ≤ window → 0 < length requests → is_free fence true window requests (slice_index_or requests 0 (0, 0)).0 ≡ true
first_free fence zero requests some more = absurd (omega arith)
first_free fence (suc window) [] some more = absurd (omega arith)
first_free fence (suc window) (request ∷ requests) some more =
    ap (λ (same : Bool). if same then true || not (fence request.1) else (if fence request.1 then false else is_free fence false window requests request.0)) (eq-eqb request.0 request.0 refl)

-- where the first of some pending requests isn't free, there is none
none_refused : (fence : ℕ → Bool) (window : ℕ) (requests : List (ℕ × ℕ)) → 1 ≤ window → false ≡ is_free fence true window requests (slice_index_or requests 0 (0, 0)).0 → requests ≡ []
none_refused fence window [] some refused = refl
none_refused fence window (request ∷ requests) some refused =
    absurd (false≢true (refused ∙ first_free fence window (request ∷ requests) some (omega arith)))

-- where the first pending request of a device isn't enabled, there is none
pub none_pending : (D : Desc) (m : Machine) (d : ℕ) (requests : List (ℕ × ℕ)) → IsValid D → d < device_count D → requests ≡ (device_of m d).pending → false ≡ is_enabled D m d (slice_index_or requests 0 (0, 0)).0 → (device_of m d).pending ≡ []
none_pending D m d requests valid within same refused =
    none_refused (fences D d) (shape_at D d).window (device_of m d).pending (valid.in_range.devices d within).window_low (refused ∙ ap (λ (list : List (ℕ × ℕ)). is_enabled D m d (slice_index_or list 0 (0, 0)).0) same)

-- a request that is done is counted once
pub counts_one : (D : Desc) (m after : Machine) (d n : ℕ) → IsValid D → IsSound D m → d < device_count D → true ≡ is_enabled D m d n → after ≡ do_request D m d n → all_done after ≡ all_done m + 1
counts_one D m after d n valid sound within enabled done =
    ap all_done done ∙ all_done-do_request D m d n valid within (sym enabled) sound.shape

-- all devices together do at most 400,000 requests
pub most_done : (D : Desc) (m : Machine) → IsValid D → IsSound D m → all_done m ≤ 400000
most_done D m valid sound =
    let few : All (λ (dev : DeviceState). dev.done ≤ 50000) m.devices =
    All-from_get_or (λ dev. dev.done ≤ 50000) m.devices no_device (λ d h. let within : d < device_count D = omega (arith, sound.shape.devices) in omega (arith, (sound.counts d within).accepted, (sound.counts d within).within, (valid.in_range.devices d within).budget)) in
    omega (arith, sum_by-le (λ (dev : DeviceState). dev.done) 50000 m.devices few, sound.shape.devices, valid.in_range.count_high)
