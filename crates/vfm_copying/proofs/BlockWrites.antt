-- A job that doesn't write a block of a BAR leaves its bytes.
use Rattle.std.proofs.Common.{◌≡◌, ℕ, ◌+◌, ◌-◌, ◌*◌, ◌<◌, ◌≤◌, ◌==◌, Bool, true, false, not, ◌&&◌, nat_lt, List, ◌++◌, length, take, drop, get_or, refl, ap, sym, ◌∙◌, subst, arith, ◌⊎◌, inl, inr, ⊎_elim, ltb-false, eq-eqb}
use Rattle.std.proofs.lemmas.Bool.{and_cases, cases_Bool, cond-false, both_ways}
use Rattle.std.proofs.lemmas.List.{length-take, length-drop, length-append, length-take-le, get_or_append_left, get_or-append_right, get_or-take, get_or-drop, ext_get_or}
use Rattle.std.specs.Int.{w64, from_le_bytes}
use Rattle.vfm_types.specs.declared.desc.Desc.{Desc}
use Rattle.vfm_types.specs.declared.job.Job.{Job}
use Rattle.vfm_types.specs.declared.job.Job.TheVariants.{Write, Read, Store, Add}
use Rattle.vfm_types.specs.declared.job.Region.{Region}
use Rattle.vfm_types.specs.declared.job.Region.TheVariants.{Page, Bar}
use Rattle.vfm_types.specs.declared.job.Place.{Place}
use Rattle.vfm_types.specs.Desc.{device_count}
use Rattle.vfm_types.specs.Job.{length_of, place_of, is_bar_of, owner_or_zero, is_bell}
use Rattle.vfm_types.specs.Machine.{DeviceState, Machine, device_of, with_device, bytes_in, with_bytes, splice, bytes_at, put_at, with_front, ring, write_at, added, effect}
use Rattle.vfm_types.specs.Requests.{taken}
use Rattle.vfm_types.specs.Deliveries.{block_bytes}
use Rattle.vfm_types.specs.Blocks.{writes_block}
use Rattle.vfm_plain.specs.Shape.{HasShape, LiesIn, Lies}
use Rattle.vfm_plain.proofs.Steps.{each_changed, length-splice, within_region}
use Rattle.vfm_plain.proofs.Effects.{bell-bytes}

-- the bytes of a splice before what was put, and those behind it
splice_before : (old : List ℕ) (offset : ℕ) (bytes : List ℕ) (j : ℕ) → offset + length bytes ≤ length old → j < offset
    → get_or (splice old offset bytes) j 0 ≡ get_or old j 0
splice_before old offset bytes j fits low =
    let front : length (take offset old) ≡ offset = length-take-le offset old (omega arith) in
    get_or_append_left (take offset old ++ bytes) (drop (offset + length bytes) old) 0 j (omega (arith, front, length-append (take offset old) bytes))
    ∙ get_or_append_left (take offset old) bytes 0 j (omega (arith, front))
    ∙ get_or-take offset old j 0 low

splice_behind : (old : List ℕ) (offset : ℕ) (bytes : List ℕ) (j : ℕ) → offset + length bytes ≤ length old → offset + length bytes ≤ j
    → get_or (splice old offset bytes) j 0 ≡ get_or old j 0
splice_behind old offset bytes j fits high =
    let front : length (take offset old) ≡ offset = length-take-le offset old (omega arith) in
    let both : length (take offset old ++ bytes) ≡ offset + length bytes = omega (arith, front, length-append (take offset old) bytes) in
    get_or-append_right (take offset old ++ bytes) (drop (offset + length bytes) old) (offset + length bytes) j 0 both high
    ∙ get_or-drop (offset + length bytes) old (j - (offset + length bytes)) 0
    ∙ ap (λ (k : ℕ). get_or old k 0) (omega arith)

-- a piece of a list that lies before what was put or behind it
splice_leaves : (old : List ℕ) (offset : ℕ) (bytes : List ℕ) (from size : ℕ) → offset + length bytes ≤ length old
    → (from + size ≤ offset) ⊎ (offset + length bytes ≤ from)
    → take size (drop from (splice old offset bytes)) ≡ take size (drop from old)
splice_leaves old offset bytes from size fits away =
    ext_get_or 0 (take size (drop from (splice old offset bytes))) (take size (drop from old)) lengths each
  where
    same : length (splice old offset bytes) ≡ length old
    same = length-splice old offset bytes fits

    lengths : length (take size (drop from (splice old offset bytes))) ≡ length (take size (drop from old))
    lengths = omega (arith, same, length-take size (drop from (splice old offset bytes)), length-drop from (splice old offset bytes), length-take size (drop from old), length-drop from old)

    at : (xs : List ℕ) (i : ℕ) → i < size → get_or (take size (drop from xs)) i 0 ≡ get_or xs (from + i) 0
    at xs i inside = get_or-take size (drop from xs) i 0 inside ∙ get_or-drop from xs i 0

    each : (i : ℕ) → i < length (take size (drop from (splice old offset bytes)))
        → get_or (take size (drop from (splice old offset bytes))) i 0 ≡ get_or (take size (drop from old)) i 0
    each i inside =
        let low : i < size = omega (arith, length-take size (drop from (splice old offset bytes))) in
        at (splice old offset bytes) i low
        ∙ ⊎_elim (λ (before : from + size ≤ offset). splice_before old offset bytes (from + i) fits (omega arith))
        (λ (behind : offset + length bytes ≤ from). splice_behind old offset bytes (from + i) fits (omega arith)) away
        ∙ sym (at old i low)

-- where bytes that are put somewhere don't lie in block b of device d
abbrev IsAway : ℕ → ℕ → Place → ℕ → Type 0
IsAway d b place len = (is_bar_of d place.region && nat_lt place.offset (64 * (b + 1)) && nat_lt (64 * b) (place.offset + len)) ≡ false

put_leaves : (D : Desc) (m : Machine) (place : Place) (bytes : List ℕ) (d b : ℕ) → HasShape D m → Lies D place (length bytes)
    → IsAway d b place (length bytes) → block_bytes (put_at m place bytes) d b ≡ block_bytes m d b
put_leaves D m place bytes d b shape lies away = at place.region lies away
  where
    at : (region : Region) → LiesIn D region place.offset (length bytes)
        → (is_bar_of d region && nat_lt place.offset (64 * (b + 1)) && nat_lt (64 * b) (place.offset + length bytes)) ≡ false
        → block_bytes (with_bytes m region (splice (bytes_in m region) place.offset bytes)) d b ≡ block_bytes m d b
    at (Page p) inside clear = refl
    at (Bar t) inside clear =
        let P : ℕ → DeviceState → Type 0 = λ k x. k ≡ d → take 64 (drop (64 * b) x.bar) ≡ block_bytes m d b in
        each_changed P P m t (record (device_of m t) { bar = splice (device_of m t).bar place.offset bytes }) (d + 1) (λ k x h. h)
        (λ h same. spliced same) (λ k h same. ap (λ (j : ℕ). block_bytes m j b) same) d (omega arith) refl
      where
        fits : place.offset + length bytes ≤ length (device_of m t).bar
        fits = within_region D m (Bar t) place.offset (length bytes) shape inside

        beside : t ≡ d → (64 * b + 64 ≤ place.offset) ⊎ (place.offset + length bytes ≤ 64 * b)
        beside same =
            ⊎_elim
            (λ (low : (t == d && nat_lt place.offset (64 * (b + 1))) ≡ false).
            ⊎_elim (λ (other : (t == d) ≡ false). absurd (both_ways (t == d) other (eq-eqb t d same)))
            (λ (above : nat_lt place.offset (64 * (b + 1)) ≡ false).
            let bound : 64 * (b + 1) ≤ place.offset = ltb-false place.offset (64 * (b + 1)) above in inl (omega arith))
            (and_cases (t == d) (nat_lt place.offset (64 * (b + 1))) low))
            (λ (high : nat_lt (64 * b) (place.offset + length bytes) ≡ false). inr (ltb-false (64 * b) (place.offset + length bytes) high))
            (and_cases (t == d && nat_lt place.offset (64 * (b + 1))) (nat_lt (64 * b) (place.offset + length bytes)) clear)

        spliced : t ≡ d → take 64 (drop (64 * b) (splice (device_of m t).bar place.offset bytes)) ≡ block_bytes m d b
        spliced same =
            splice_leaves (device_of m t).bar place.offset bytes (64 * b) 64 fits (beside same) ∙ ap (λ (j : ℕ). block_bytes m j b) same

not_bell : (bar bell low high : Bool) → (bar && not bell && low && high) ≡ false → bell ≡ false → (bar && low && high) ≡ false
not_bell false bell low high h e = refl
not_bell true true low high h e = absurd (cc)
not_bell true false low high h e = h

write_leaves : (D : Desc) (m : Machine) (place : Place) (bytes : List ℕ) (len d b : ℕ) → length bytes ≡ len → HasShape D m → Lies D place len
    → (is_bar_of d place.region && not (is_bell place len) && nat_lt place.offset (64 * (b + 1)) && nat_lt (64 * b) (place.offset + len)) ≡ false
    → block_bytes (write_at D m place bytes) d b ≡ block_bytes m d b
write_leaves D m place bytes len d b same shape lies clear = ⊎_elim rung written (cases_Bool (is_bell place (length bytes)))
  where
    rung : is_bell place (length bytes) ≡ true → block_bytes (write_at D m place bytes) d b ≡ block_bytes m d b
    rung bell = ap (λ (bar : List ℕ). take 64 (drop (64 * b) bar)) (bell-bytes D m place bytes (Bar d) bell)

    written : is_bell place (length bytes) ≡ false → block_bytes (write_at D m place bytes) d b ≡ block_bytes m d b
    written plain =
        let away = not_bell (is_bar_of d place.region) (is_bell place len) (nat_lt place.offset (64 * (b + 1))) (nat_lt (64 * b) (place.offset + len)) clear
        (subst (λ (n : ℕ). is_bell place n ≡ false) same plain) in
        ap (λ (x : Machine). block_bytes x d b)
        (cond-false (is_bell place (length bytes)) (ring D m (owner_or_zero place.region) (from_le_bytes w64 bytes)) (put_at m place bytes) plain)
        ∙ put_leaves D m place bytes d b shape (subst (Lies D place) (sym same) lies) (subst (λ (n : ℕ). IsAway d b place n) (sym same) away)

bar_front : (m : Machine) (e : ℕ) (bytes : List ℕ) (d : ℕ) → (device_of (with_front m e bytes) d).bar ≡ (device_of m d).bar
bar_front m e bytes d =
    let P : ℕ → DeviceState → Type 0 = λ k x. x.bar ≡ (device_of m k).bar in
    each_changed P P m e (record (device_of m e) { buf = splice (device_of m e).buf 0 bytes }) (d + 1) (λ k x h. h) (λ h. refl) (λ k h. refl) d (omega arith)

pub bar_taken : (m : Machine) (e n d : ℕ) → (device_of (with_device m e (taken (device_of m e) n)) d).bar ≡ (device_of m d).bar
bar_taken m e n d =
    let P : ℕ → DeviceState → Type 0 = λ k x. x.bar ≡ (device_of m k).bar in
    each_changed P P m e (taken (device_of m e) n) (d + 1) (λ k x h. h) (λ h. refl) (λ k h. refl) d (omega arith)

pub effect_leaves_block : (D : Desc) (m : Machine) (e : ℕ) (job : Job) (d b : ℕ) → HasShape D m → Lies D (place_of D job) (length_of job) → length_of job ≤ 64
    → e < device_count D → writes_block D d b job ≡ false → block_bytes (effect D m e job) d b ≡ block_bytes m d b
effect_leaves_block D m e (Write at bytes) d b shape lies short issuer clear =
    write_leaves D m (place_of D (Write at bytes)) bytes (length bytes) d b refl shape lies clear
effect_leaves_block D m e (Read at len) d b shape lies short issuer clear =
    ap (λ (bar : List ℕ). take 64 (drop (64 * b) bar)) (bar_front m e (bytes_at m (place_of D (Read at len)) len) d)
effect_leaves_block D m e (Store at len) d b shape lies short issuer clear =
    let buf : length (device_of m e).buf ≡ 64 = (shape.device e issuer).buf in
    write_leaves D m (place_of D (Store at len)) (take len (device_of m e).buf) len d b (length-take-le len (device_of m e).buf (omega arith)) shape lies clear
effect_leaves_block D m e (Add at value) d b shape lies short issuer clear =
    let place = place_of D (Add at value) in
    let old = bytes_at m place 8 in
    ap (λ (bar : List ℕ). take 64 (drop (64 * b) bar)) (bar_front (put_at m place (added old value)) e old d)
    ∙ put_leaves D m place (added old value) d b shape lies
    (not_bell (is_bar_of d place.region) false (nat_lt place.offset (64 * (b + 1))) (nat_lt (64 * b) (place.offset + 8)) clear refl)
