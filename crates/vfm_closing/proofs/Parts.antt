-- What channels carry of a list of records, where the rest of it isn't put yet.
use Rattle.std.proofs.Common.{◌≡◌, ◌∙◌, sym, ap, subst, ℕ, zero, suc, ◌<◌, ◌≤◌, Option, List, [], ◌∷◌, ◌++◌, arith, append_assoc, ⊎_elim}
use Rattle.std.specs.Prelude.{Result, Ok, Err, OnErr}
use Rattle.std.proofs.lemmas.Bool.{cases_lt}
use Rattle.vfm_types.specs.declared.desc.Desc.{Desc}
use Rattle.vfm_types.specs.Machine.{DeviceState, Machine, device_of}
use Rattle.vfm_record.specs.Record.{Record, Config}
use Rattle.vfm_record.specs.Shape.{shape_digest}
use Rattle.vfm_streams.specs.Sent.{Sent, push, push_all, pending_records, engine_record, with_device_closed, with_devices_closed}
use Rattle.vfm_streams.proofs.Grown.{Grows, grows_none, grows_push, grows_then, lane_grows}
use Rattle.vfm_outlets.specs.declared.outlets.Outlets.{Outlets}
use Rattle.vfm_outlets.specs.Carrying.{Carries, share_of}
use Rattle.vfm_closing.specs.Closing.{CarriesPart}

-- ---- lists that grow

pub grows_all : (s : ℕ) (records : List Record) (all : List Sent) → Grows all (push_all s records all)
grows_all s [] all = grows_none all
grows_all s (r ∷ records) all = grows_then all (push s r all) (push_all s records (push s r all)) (grows_push s r all) (grows_all s records (push s r all))

-- with its counts, and with its pending requests too, the stream of a device is on its way to be closed
pub grows_counted : (D : Desc) (d : ℕ) (device : DeviceState) (all : List Sent)
    → Grows (push (suc d) (engine_record device) all) (with_device_closed D d device all)
grows_counted D d device all =
    let counts = push (suc d) (engine_record device) all in
    let pending = push_all (suc d) (pending_records device.pending) counts in
    grows_then counts pending (with_device_closed D d device all) (grows_all (suc d) (pending_records device.pending) counts)
    (grows_push (suc d) (Config (shape_digest D (suc d))) pending)

pub grows_pending : (D : Desc) (d : ℕ) (device : DeviceState) (all : List Sent)
    → Grows (push_all (suc d) (pending_records device.pending) (push (suc d) (engine_record device) all)) (with_device_closed D d device all)
grows_pending D d device all =
    grows_push (suc d) (Config (shape_digest D (suc d))) (push_all (suc d) (pending_records device.pending) (push (suc d) (engine_record device) all))

pub grows_device : (D : Desc) (d : ℕ) (device : DeviceState) (all : List Sent) → Grows all (with_device_closed D d device all)
grows_device D d device all =
    grows_then all (push (suc d) (engine_record device) all) (with_device_closed D d device all) (grows_push (suc d) (engine_record device) all)
    (grows_counted D d device all)

-- some devices closed, and more
pub grows_upto : (D : Desc) (m : Machine) (d n : ℕ) (all : List Sent) → d ≤ n → Grows (with_devices_closed D m d all) (with_devices_closed D m n all)
grows_upto D m d zero all few =
    let none : 0 ≡ d = omega (arith, few) in
    subst (λ (k : ℕ). Grows (with_devices_closed D m k all) (with_devices_closed D m 0 all)) none (grows_none all)
grows_upto D m d (suc n) all few =
    ⊎_elim
    (λ (low : d < suc n).
    grows_then (with_devices_closed D m d all) (with_devices_closed D m n all) (with_devices_closed D m (suc n) all)
    (grows_upto D m d n all (omega (arith, low))) (grows_device D n (device_of m n) (with_devices_closed D m n all)))
    (λ (high : suc n ≤ d).
    let same : suc n ≡ d = omega (arith, high, few) in
    subst (λ (k : ℕ). Grows (with_devices_closed D m k all) (with_devices_closed D m (suc n) all)) same (grows_none (with_devices_closed D m (suc n) all)))
    (cases_lt d (suc n))

-- ---- what is carried of them

-- all of a list that goes on to this
pub whole_part : {L : Type 0} (sent : L → Option (List ℕ)) (D : Desc) (starts : List (Option (List ℕ))) (all whole : List Sent) (outlets : Outlets L)
    → Grows all whole → Carries sent D starts all outlets → CarriesPart sent D starts whole outlets
whole_part sent D starts all whole outlets grows carried =
    record { part = all; carries = carried; rest = grows.more; goes_on = grows.is }

-- part of a list that goes on to this
pub part_part : {L : Type 0} (sent : L → Option (List ℕ)) (D : Desc) (starts : List (Option (List ℕ))) (all whole : List Sent) (outlets : Outlets L)
    → Grows all whole → CarriesPart sent D starts all outlets → CarriesPart sent D starts whole outlets
part_part sent D starts all whole outlets grows is =
    record {
      part = is.part;
      carries = is.carries;
      rest = grows.more ++ is.rest;
      goes_on = grows.is ∙ ap (λ (xs : List Sent). grows.more ++ xs) is.goes_on ∙ sym (append_assoc grows.more is.rest is.part);
    }

-- what a channel carries of a list goes on to its share of the whole
pub part_share : {L : Type 0} (sent : L → Option (List ℕ)) (D : Desc) (starts : List (Option (List ℕ))) (whole : List Sent) (outlets : Outlets L)
    → (is : CarriesPart sent D starts whole outlets) → (k : ℕ) → share_of D whole k ≡ share_of D is.part k ++ share_of D is.rest k
part_share sent D starts whole outlets is k = ap (λ (all : List Sent). share_of D all k) is.goes_on ∙ lane_grows D k is.rest is.part

-- ---- what holds at Ok and at an error

-- what holds anyway holds at an error
pub on_err : {T E : Type 0} (r : Result T E) (P : Type 0) → P → OnErr r P
on_err (Ok x) P p = tt
on_err (Err e) P p = p

-- what follows at an error
pub err_then : {T E : Type 0} (r : Result T E) (P Q : Type 0) → (P → Q) → OnErr r P → OnErr r Q
err_then (Ok x) P Q f p = tt
err_then (Err e) P Q f p = f p

-- ---- the stream of a device, put by other names

-- what closes the stream of a device
pub closed_device : (D : Desc) (d : ℕ) (device : DeviceState) (all : List Sent) (stream : ℕ) (pairs : List (ℕ × ℕ)) → stream ≡ suc d → pairs ≡ device.pending
    → push stream (Config (shape_digest D stream)) (push_all stream (pending_records pairs) (push (suc d) (engine_record device) all))
    ≡ with_device_closed D d device all
closed_device D d device all stream pairs is same =
    ap (λ (s : ℕ). push s (Config (shape_digest D s)) (push_all s (pending_records pairs) (push (suc d) (engine_record device) all))) is
    ∙ ap (λ (ps : List (ℕ × ℕ)). push (suc d) (Config (shape_digest D (suc d))) (push_all (suc d) (pending_records ps) (push (suc d) (engine_record device) all))) same

-- its counts and its pending requests, on their way
pub pending_on_its_way : (D : Desc) (d : ℕ) (device : DeviceState) (all : List Sent) (stream : ℕ) (pairs : List (ℕ × ℕ)) → stream ≡ suc d → pairs ≡ device.pending
    → Grows (push_all stream (pending_records pairs) (push (suc d) (engine_record device) all)) (with_device_closed D d device all)
pending_on_its_way D d device all stream pairs is same =
    subst (λ (s : ℕ). Grows (push_all s (pending_records pairs) (push (suc d) (engine_record device) all)) (with_device_closed D d device all)) (sym is)
    (subst (λ (ps : List (ℕ × ℕ)). Grows (push_all (suc d) (pending_records ps) (push (suc d) (engine_record device) all)) (with_device_closed D d device all)) (sym same)
    (grows_pending D d device all))
