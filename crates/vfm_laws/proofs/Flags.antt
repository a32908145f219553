-- What a valid description says of its devices.
use Rattle.std.proofs.Common.{◌≡◌, ℕ, zero, suc, ◌+◌, ◌<◌, Bool, true, if◌then◌else◌, List, [], ◌∷◌, length, get_or, nat_lt, Option, Some, None, refl, ap, sym, ◌∙◌, arith, lt-ltb}
use Rattle.std.specs.Option.{option_or}
use Rattle.vfm_types.specs.declared.desc.DevShape.{DevShape}
use Rattle.vfm_types.specs.declared.desc.Desc.{Desc}
use Rattle.vfm_types.specs.declared.fault.DescFault.TheVariants.{NeedsP2p}
use Rattle.vfm_types.specs.State.{has_p2p}
use Rattle.vfm_types.specs.Desc.{device_count, shape_at, no_shape}
use Rattle.vfm_types.specs.DescFault.{form_fault, name_twice, devices_fault, lacks_p2p}
use Rattle.vfm_types.specs.Valid.{IsValid}
use Rattle.vfm_laws.proofs.Walks.{some_none}
use Rattle.vfm_laws.proofs.Rising.{by_bool}

neither : {X : Type 0} (a b : Option X) → option_or a b ≡ None → (a ≡ None) × (b ≡ None)
neither None b none = (refl, none)
neither (Some x) b none = absurd (some_none x none)

none_lacks : (first : ℕ) (shapes : List DevShape) (k : ℕ) → lacks_p2p first shapes ≡ None → k < length shapes → has_p2p (get_or shapes k no_shape).flags ≡ true
none_lacks first [] k none inside = absurd (omega arith)
none_lacks first (shape ∷ shapes) zero none inside =
    by_bool (has_p2p shape.flags) (λ b. (if b then lacks_p2p (first + 1) shapes else Some (NeedsP2p first)) ≡ None → b ≡ true)
    (λ has h. refl) (λ lacks h. absurd (some_none (NeedsP2p first) h)) none
none_lacks first (shape ∷ shapes) (suc k) none inside =
    by_bool (has_p2p shape.flags)
    (λ b. (if b then lacks_p2p (first + 1) shapes else Some (NeedsP2p first)) ≡ None → has_p2p (get_or shapes k no_shape).flags ≡ true)
    (λ has h. none_lacks (first + 1) shapes k h (omega arith)) (λ lacks h. absurd (some_none (NeedsP2p first) h)) none

-- where there are several devices, each has the peer-to-peer states
pub several_p2p : (D : Desc) → IsValid D → 1 < device_count D → (d : ℕ) → d < device_count D → has_p2p (shape_at D d).flags ≡ true
unfolding form_fault
several_p2p D valid several d inside =
    let rest : option_or (devices_fault D 0 D.devices) (if nat_lt 1 (device_count D) then lacks_p2p 0 D.devices else None) ≡ None =
    (neither (name_twice [] 0 D.devices) (option_or (devices_fault D 0 D.devices) (if nat_lt 1 (device_count D) then lacks_p2p 0 D.devices else None)) valid.sound).1 in
    let last = (neither (devices_fault D 0 D.devices) (if nat_lt 1 (device_count D) then lacks_p2p 0 D.devices else None) rest).1 in
    none_lacks 0 D.devices d
    (sym (ap (λ (b : Bool). if b then lacks_p2p 0 D.devices else None) (lt-ltb 1 (device_count D) several)) ∙ last) inside
