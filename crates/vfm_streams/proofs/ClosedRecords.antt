-- The records of a stream once all streams are closed.
use Rattle.std.proofs.Common.{◌≡◌, ℕ, zero, suc, ◌<◌, ◌≤◌, ◌==◌, true, List, [], ◌∷◌, ◌++◌, length, map, refl, ap, sym, ◌∙◌, subst, arith, ⊎_elim, eq-eqb, append_assoc}
use Rattle.std.proofs.lemmas.Bool.{cond-true, cond-false, ne_eqb, cases_lt}
use Rattle.std.proofs.lemmas.List.{append-nil}
use Rattle.vfm_types.specs.declared.desc.Desc.{Desc}
use Rattle.vfm_types.specs.Desc.{device_count}
use Rattle.vfm_types.specs.Machine.{DeviceState, Machine, device_of}
use Rattle.vfm_record.specs.Record.{Record, Pending, Config}
use Rattle.vfm_record.specs.Shape.{shape_digest}
use Rattle.vfm_streams.specs.Sent.{Sent, records_of, push, push_all, chunks, pairs_of_a_record, pending_records, engine_record, with_device_closed, with_devices_closed, with_all_closed}
use Rattle.vfm_streams.specs.Loaded.{last_block, all_pairs, has_engine, engine_device, engine_pend}
use Rattle.vfm_streams.proofs.Chunks.{joined}

-- records put before others one by one
abbrev pub onto : List Record → List Record → List Record
onto [] older = older
onto (r ∷ records) older = onto records (r ∷ older)

-- the records of a closed stream of a device
abbrev pub closed_records : Desc → ℕ → DeviceState → List Record → List Record
closed_records D d device older = Config (shape_digest D (suc d)) ∷ onto (pending_records device.pending) (engine_record device ∷ older)

pub pushed_same : (s : ℕ) (r : Record) (all : List Sent) → records_of s (push s r all) ≡ r ∷ records_of s all
pushed_same s r all = cond-true (s == s) (r ∷ records_of s all) (records_of s all) (eq-eqb s s refl)

pub pushed_other : (s t : ℕ) (r : Record) (all : List Sent) → (t ≡ s → ⊥) → records_of s (push t r all) ≡ records_of s all
pushed_other s t r all other = cond-false (t == s) (r ∷ records_of s all) (records_of s all) (ne_eqb t s other)

pushed_all_same : (s : ℕ) (records : List Record) (all : List Sent) → records_of s (push_all s records all) ≡ onto records (records_of s all)
pushed_all_same s [] all = refl
pushed_all_same s (r ∷ records) all = pushed_all_same s records (push s r all) ∙ ap (onto records) (pushed_same s r all)

pushed_all_other : (s t : ℕ) (records : List Record) (all : List Sent) → (t ≡ s → ⊥) → records_of s (push_all t records all) ≡ records_of s all
pushed_all_other s t [] all other = refl
pushed_all_other s t (r ∷ records) all other = pushed_all_other s t records (push t r all) other ∙ pushed_other s t r all other

closed_same : (D : Desc) (d : ℕ) (device : DeviceState) (all : List Sent)
    → records_of (suc d) (with_device_closed D d device all) ≡ closed_records D d device (records_of (suc d) all)
closed_same D d device all =
    pushed_same (suc d) (Config (shape_digest D (suc d))) (push_all (suc d) (pending_records device.pending) (push (suc d) (engine_record device) all))
    ∙ ap (λ (rs : List Record). Config (shape_digest D (suc d)) ∷ rs)
    (pushed_all_same (suc d) (pending_records device.pending) (push (suc d) (engine_record device) all)
    ∙ ap (onto (pending_records device.pending)) (pushed_same (suc d) (engine_record device) all))

closed_other : (D : Desc) (s d : ℕ) (device : DeviceState) (all : List Sent) → (suc d ≡ s → ⊥)
    → records_of s (with_device_closed D d device all) ≡ records_of s all
closed_other D s d device all other =
    pushed_other s (suc d) (Config (shape_digest D (suc d))) (push_all (suc d) (pending_records device.pending) (push (suc d) (engine_record device) all)) other
    ∙ pushed_all_other s (suc d) (pending_records device.pending) (push (suc d) (engine_record device) all) other
    ∙ pushed_other s (suc d) (engine_record device) all other

-- a stream above all that are closed
closed_below : (D : Desc) (m : Machine) (s n : ℕ) (all : List Sent) → ((d : ℕ) → d < n → suc d ≡ s → ⊥)
    → records_of s (with_devices_closed D m n all) ≡ records_of s all
closed_below D m s zero all others = refl
closed_below D m s (suc d) all others =
    closed_other D s d (device_of m d) (with_devices_closed D m d all) (others d (omega arith))
    ∙ closed_below D m s d all (λ k h. others k (omega arith))

closed_device : (D : Desc) (m : Machine) (d n : ℕ) (all : List Sent) → d < n
    → records_of (suc d) (with_devices_closed D m n all) ≡ closed_records D d (device_of m d) (records_of (suc d) all)
closed_device D m d zero all inside = absurd (omega arith)
closed_device D m d (suc n) all inside =
    ⊎_elim
    (λ (low : d < n).
    closed_other D (suc d) n (device_of m n) (with_devices_closed D m n all) (λ same. omega (arith, same)) ∙ closed_device D m d n all low)
    (λ (high : n ≤ d).
    let same : n ≡ d = omega arith in
    subst (λ (k : ℕ). records_of (suc d) (with_device_closed D k (device_of m k) (with_devices_closed D m k all)) ≡ closed_records D d (device_of m d) (records_of (suc d) all)) (sym same)
    (closed_same D d (device_of m d) (with_devices_closed D m d all)
    ∙ ap (closed_records D d (device_of m d)) (closed_below D m (suc d) d all (λ k h same. omega (arith, same))))) (cases_lt d n)

-- memory's stream is closed by its digest
pub closed_memory : (D : Desc) (m : Machine) (all : List Sent) → records_of 0 (with_all_closed D m all) ≡ Config (shape_digest D 0) ∷ records_of 0 all
closed_memory D m all =
    closed_below D m 0 (device_count D) (push 0 (Config (shape_digest D 0)) all) (λ d h same. omega (arith, same))
    ∙ pushed_same 0 (Config (shape_digest D 0)) all

-- that of a device by its counts, its pending requests and its digest
pub closed_stream : (D : Desc) (m : Machine) (d : ℕ) (all : List Sent) → d < device_count D
    → records_of (suc d) (with_all_closed D m all) ≡ closed_records D d (device_of m d) (records_of (suc d) all)
closed_stream D m d all inside =
    closed_device D m d (device_count D) (push 0 (Config (shape_digest D 0)) all) inside
    ∙ ap (closed_records D d (device_of m d)) (pushed_other (suc d) 0 (Config (shape_digest D 0)) all (λ same. omega (arith, same)))

-- ---- what a closed stream says

onto_block : (b : ℕ) (pieces : List (List (ℕ × ℕ))) (older : List Record) → last_block b (onto (map Pending pieces) older) ≡ last_block b older
onto_block b [] older = refl
onto_block b (piece ∷ pieces) older = onto_block b pieces (Pending piece ∷ older)

onto_engine : (pieces : List (List (ℕ × ℕ))) (older : List Record) → engine_device (onto (map Pending pieces) older) ≡ engine_device older
onto_engine [] older = refl
onto_engine (piece ∷ pieces) older = onto_engine pieces (Pending piece ∷ older)

onto_pairs : (pieces : List (List (ℕ × ℕ))) (older : List Record) → all_pairs (onto (map Pending pieces) older) ≡ all_pairs older ++ joined pieces
onto_pairs [] older = sym (append-nil (all_pairs older))
onto_pairs (piece ∷ pieces) older = onto_pairs pieces (Pending piece ∷ older) ∙ append_assoc (all_pairs older) piece (joined pieces)

pub closed_block : (D : Desc) (d b : ℕ) (device : DeviceState) (older : List Record) → last_block b (closed_records D d device older) ≡ last_block b older
closed_block D d b device older = onto_block b (chunks (length device.pending) pairs_of_a_record device.pending) (engine_record device ∷ older)

pub closed_engine : (D : Desc) (d : ℕ) (device : DeviceState) (older : List Record)
    → engine_device (closed_records D d device older)
    ≡ record { bar = []; pending = []; buf = device.buf; accepted = device.accepted; done = device.done; lost = device.lost }
closed_engine D d device older = onto_engine (chunks (length device.pending) pairs_of_a_record device.pending) (engine_record device ∷ older)

pub closed_pairs : (D : Desc) (d : ℕ) (device : DeviceState) (older : List Record)
    → all_pairs (closed_records D d device older) ≡ all_pairs older ++ joined (chunks (length device.pending) pairs_of_a_record device.pending)
closed_pairs D d device older = onto_pairs (chunks (length device.pending) pairs_of_a_record device.pending) (engine_record device ∷ older)

onto_counted : (pieces : List (List (ℕ × ℕ))) (older : List Record) → has_engine (onto (map Pending pieces) older) ≡ has_engine older
onto_counted [] older = refl
onto_counted (piece ∷ pieces) older = onto_counted pieces (Pending piece ∷ older)

onto_announced : (pieces : List (List (ℕ × ℕ))) (older : List Record) → engine_pend (onto (map Pending pieces) older) ≡ engine_pend older
onto_announced [] older = refl
onto_announced (piece ∷ pieces) older = onto_announced pieces (Pending piece ∷ older)

pub closed_counted : (D : Desc) (d : ℕ) (device : DeviceState) (older : List Record) → has_engine (closed_records D d device older) ≡ true
closed_counted D d device older = onto_counted (chunks (length device.pending) pairs_of_a_record device.pending) (engine_record device ∷ older)

pub closed_announced : (D : Desc) (d : ℕ) (device : DeviceState) (older : List Record) → engine_pend (closed_records D d device older) ≡ length device.pending
closed_announced D d device older = onto_announced (chunks (length device.pending) pairs_of_a_record device.pending) (engine_record device ∷ older)
