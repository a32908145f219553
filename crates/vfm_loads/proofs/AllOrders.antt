-- Every list of enabled requests of a generated load, from its start to its end.
use Rattle.std.proofs.Common.{◌≡◌, ℕ, suc, ◌+◌, ◌-◌, ◌*◌, ◌/◌, ◌^◌, ◌<◌, Bool, true, false, if◌then◌else◌, List, [], ◌∷◌, length, replicate, get_or, Some, None, reverse, refl, ap, ap₂, sym, ◌∙◌, subst, arith, inl, inr}
use Rattle.std.proofs.lemmas.List.{ext_get_or, get_or-map, get_or-replicate, length-map, length-replicate}
use Rattle.std.proofs.lemmas.List.FromFn.{length-map-range_with_len}
use Rattle.std.proofs.lemmas.List.Sums.{sum_by-cons}
use Rattle.std.specs.List.{sum_by}
use Rattle.vfm_types.specs.declared.entry.Entry.{Entry}
use Rattle.vfm_types.specs.Desc.{no_shape}
use Rattle.vfm_types.specs.Machine.{DeviceState, Machine, device_of, no_device, described_device, described, numbered}
use Rattle.vfm_types.specs.Requests.{is_free, fences, is_enabled, do_request, plain_from, plain}
use Rattle.vfm_types.specs.Deliveries.{page_bytes, machine_of, delivers}
use Rattle.vfm_types.specs.Serial.{serial}
use Rattle.vfm_types.specs.Valid.{IsValid}
use Rattle.vfm_plain.specs.Legal.{IsLegal}
use Rattle.vfm_plain.specs.Shape.{all_done}
use Rattle.vfm_plain.specs.Ended.{has_ended}
use Rattle.vfm_plain.proofs.Effects.{enabled_device}
use Rattle.vfm_laws.proofs.Enabled.{plain_exists}
use Rattle.vfm_laws.proofs.EndedRuns.{ended_pending}
use Rattle.vfm_loads.specs.Generated.{queued_job, load_queue, load_shape, generated, peer_before}
use Rattle.vfm_loads.specs.Still.{IsStill}
use Rattle.vfm_loads.specs.Sums.{all_accepted, all_lost}
use Rattle.vfm_loads.proofs.Numbers.{bells, bells_late}
use Rattle.vfm_loads.proofs.Parts.{page_size, page_count, devices_are, shape_is, window_is}
use Rattle.vfm_loads.proofs.LoadValid.{generated_valid}
use Rattle.vfm_loads.proofs.SerialRun.{IsIdle, still_idle, serial_reached, serial_idle}
use Rattle.vfm_loads.proofs.Waiting.{requests_from, queue_from, none_left}
use Rattle.vfm_loads.proofs.Progress.{Progress, first_of, pending_at, accepted_at, Stands, own_start, own_zero, Own, page_at, bar_start, device_at, IsAt, Steps, put, assembled}
use Rattle.vfm_loads.proofs.Progress.Progress.{Upto, Around}
use Rattle.vfm_loads.proofs.Turns.{TurnKind, Turn, turn_of, load_fences}
use Rattle.vfm_loads.proofs.TurnEffects.{after_count, after_bell, after_block}

-- ---- the start

bells_none : bells 0 ≡ 0
unfolding bells
bells_none = refl

queue_is : numbered 0 load_queue ≡ requests_from 0 1088
unfolding load_queue
queue_is = queue_from 0 1088 (omega arith)

queue_length : length load_queue ≡ 1088
unfolding load_queue
queue_length = length-map-range_with_len queued_job 0 1088

described_load : (N d : ℕ) → described_device (load_shape N d) ≡ record { bar = bar_start; pending = numbered 0 load_queue; buf = own_start.buf; accepted = length load_queue; done = 0; lost = 0 }
unfolding load_shape bar_start own_start
described_load N d = refl

-- nothing is done
abbrev at_start : ℕ → Progress
at_start d = Upto 0

device_start : (N d : ℕ) → d < 8 → device_of (described (generated N)) d ≡ device_at N d (Upto 0) (Upto 0)
device_start N d inside =
    get_or-map described_device (generated N).devices d no_shape no_device (subst (λ (n : ℕ). d < n) (sym (devices_are N)) inside)
    ∙ ap described_device (shape_is N d inside)
    ∙ described_load N d
    ∙ ap₂ (λ (pending : List (ℕ × ℕ)) (accepted : ℕ). record { bar = bar_start; pending = pending; buf = own_start.buf; accepted = accepted; done = 0; lost = 0 }) queue_is queue_length
    ∙ ap₂ (λ (b : ℕ) (o : Own). record { bar = bar_start; pending = requests_from 0 (1088 + b - 0); buf = o.buf; accepted = 1088 + b; done = 0; lost = 0 }) (sym bells_none) (sym (own_zero N d))

page_start : (N q : ℕ) → q < 256 → page_bytes (described (generated N)) q ≡ page_at N (q / 32) (Upto 0) q
unfolding own_start
page_start N q inside =
    get_or-replicate (generated N).pages q (replicate (generated N).page 0) [] (subst (λ (n : ℕ). q < n) (sym (page_count N)) inside)
    ∙ ap (λ (size : ℕ). replicate size 0) (page_size N)
    ∙ ap (λ (o : Own). o.page q) (sym (own_zero N (q / 32)))

starts : (N : ℕ) → IsAt N at_start (described (generated N))
starts N = record {
  pages = length-replicate (generated N).pages (replicate (generated N).page 0) ∙ page_count N;
  devices = length-map (generated N).devices described_device ∙ devices_are N;
  page = page_start N;
  device = device_start N;
  stands = λ d inside. omega arith;
}

-- ---- every list

-- a machine of the load: that of some progresses
record OfLoad (N : ℕ) (m : Machine) : Type 0 where
  ps : ℕ → Progress
  here : IsAt N ps m

one_more : (N : ℕ) (m : Machine) (d n : ℕ) → is_enabled (generated N) m d n ≡ true → OfLoad N m → OfLoad N (do_request (generated N) m d n)
one_more N m d n free load =
    let ps = load.ps in
    let here = load.here in
    let device : d < 8 = subst (λ (count : ℕ). d < count) (devices_are N) (enabled_device (generated N) m d n free) in
    let there : is_free (fences (generated N) d) true 4 (pending_at (ps d) (accepted_at (ps (peer_before d)))) n ≡ true =
    sym (ap₂ (λ (w : ℕ) (x : DeviceState). is_free (fences (generated N) d) true w x.pending n) (window_is N d device) (here.device d device)) ∙ free in
    let turn = turn_of (fences (generated N) d) (load_fences N d device) (accepted_at (ps (peer_before d))) (ps d) n (here.stands d device) there in
    record { ps = put ps d turn.0; here = assembled N ps m (do_request (generated N) m d n) d turn.0 device here (steps ps here device turn.0 turn.1 turn.1.kind) }
  where
    steps : (ps : ℕ → Progress) → IsAt N ps m → d < 8 → (after : Progress) → Turn (accepted_at (ps (peer_before d))) (ps d) n after → TurnKind (ps d) n after
        → Steps N ps m (do_request (generated N) m d n) d after
    steps ps here device after turn (inl count) = after_count N ps m d n after device here turn count
    steps ps here device after turn (inr (inl bell)) = after_bell N ps m d n after device here turn bell
    steps ps here device after turn (inr (inr block)) = after_block N ps m d n after device here turn block

none_some : (m : Machine) → None ≡ Some m → ⊥
none_some m e = cc

all_of_load : (N : ℕ) (requests : List (ℕ × ℕ)) (m after : Machine) → plain_from (generated N) m requests ≡ Some after → OfLoad N m → OfLoad N after
all_of_load N [] m after done load = let same : m ≡ after = cc in subst (OfLoad N) same load
all_of_load N (request ∷ requests) m after done load =
    at (is_enabled (generated N) m request.0 request.1) refl done (λ rest next. all_of_load N requests (do_request (generated N) m request.0 request.1) after rest next)
  where
    at : (b : Bool) → is_enabled (generated N) m request.0 request.1 ≡ b
        → (if b then plain_from (generated N) (do_request (generated N) m request.0 request.1) requests else None) ≡ Some after
        → (plain_from (generated N) (do_request (generated N) m request.0 request.1) requests ≡ Some after → OfLoad N (do_request (generated N) m request.0 request.1) → OfLoad N after)
        → OfLoad N after
    at true free rest later = later rest (one_more N m request.0 request.1 free load)
    at false free rest later = absurd (none_some after rest)

plain_of_load : (N : ℕ) (requests : List (ℕ × ℕ)) (m : Machine) → plain (generated N) requests ≡ Some m → OfLoad N m
plain_of_load N requests m done = all_of_load N requests (described (generated N)) m done (record { ps = at_start; here = starts N })

-- ---- the end

idle_progress : (p : Progress) (accepted : ℕ) → Stands p accepted → pending_at p accepted ≡ [] → p ≡ Upto accepted
idle_progress (Upto n) accepted stands none =
    let zero_left : accepted - n ≡ 0 = none_left n (accepted - n) none in
    let same : n ≡ accepted = omega arith in ap Upto same
idle_progress (Around n) accepted stands none = absurd (cc)

module _ (N : ℕ) (m : Machine) (load : OfLoad N m) (idle : IsIdle (generated N) m) where
  caught_up : (d : ℕ) → d < 8 → load.ps d ≡ Upto (accepted_at (load.ps (peer_before d)))
  caught_up d inside =
      idle_progress (load.ps d) (accepted_at (load.ps (peer_before d))) (load.here.stands d inside)
      (sym (ap (λ (x : DeviceState). x.pending) (load.here.device d inside)) ∙ idle d (subst (λ (n : ℕ). d < n) (sym (devices_are N)) inside))

  -- each device has done the 1,088 requests of the start, with the 32 bells of the one before it, and the 32 that these ask for
  all_rung : (d : ℕ) → d < 8 → accepted_at (load.ps d) ≡ 1120
  all_rung d inside =
      let far : first_of (load.ps d) ≡ accepted_at (load.ps (peer_before d)) = ap first_of (caught_up d inside) in
      let rung = bells_late (first_of (load.ps d)) (omega (arith, far)) in omega (arith, rung)

  at_end : (d : ℕ) → d < 8 → load.ps d ≡ Upto 1120
  at_end d inside = caught_up d inside ∙ ap Upto (all_rung (peer_before d) (omega arith))

  end_page : (q : ℕ) → q < 256 → page_bytes m q ≡ page_at N (q / 32) (Upto 1120) q
  end_page q inside = load.here.page q inside ∙ ap (λ (p : Progress). page_at N (q / 32) p q) (at_end (q / 32) (omega arith))

  end_device : (d : ℕ) → d < 8 → device_of m d ≡ device_at N d (Upto 1120) (Upto 1120)
  end_device d inside = load.here.device d inside ∙ ap₂ (device_at N d) (at_end d inside) (at_end (peer_before d) (omega arith))

-- two machines that have come to the end are one
one_end : (N : ℕ) (m other : Machine) → OfLoad N m → OfLoad N other → IsIdle (generated N) m → IsIdle (generated N) other → m ≡ other
one_end N m other load load_other idle idle_other =
    ap₂ (λ (pages : List (List ℕ)) (devices : List DeviceState). record { pages = pages; devices = devices })
    (ext_get_or [] m.pages other.pages (load.here.pages ∙ sym load_other.here.pages)
    (λ q below. let inside : q < 256 = subst (λ (n : ℕ). q < n) load.here.pages below in end_page N m load idle q inside ∙ sym (end_page N other load_other idle_other q inside)))
    (ext_get_or no_device m.devices other.devices (load.here.devices ∙ sym load_other.here.devices)
    (λ d below. let inside : d < 8 = subst (λ (n : ℕ). d < n) load.here.devices below in end_device N m load idle d inside ∙ sym (end_device N other load_other idle_other d inside)))

-- the sum of so many equal numbers
sum_same : (f : DeviceState → ℕ) (c : ℕ) (xs : List DeviceState) → ((k : ℕ) → k < length xs → f (get_or xs k no_device) ≡ c) → sum_by f xs ≡ length xs * c
sum_same f c [] each = omega arith
sum_same f c (x ∷ xs) each =
    let first : f x ≡ c = each 0 (omega arith) in
    let rest : sum_by f xs ≡ length xs * c = sum_same f c xs (λ k below. each (suc k) (omega arith)) in
    omega (arith, first, rest, sum_by-cons f x xs)

module _ (N : ℕ) (small : N < 2 ^ 32) where
  valid : IsValid (generated N)
  valid = generated_valid N small

  serial_load : OfLoad N (serial (generated N))
  serial_load = let run = serial_reached (generated N) valid in plain_of_load N run.0 (serial (generated N)) run.1

  pub orders_end_alike : (requests : List (ℕ × ℕ)) (m : Machine) → plain (generated N) requests ≡ Some m → IsStill (generated N) m → m ≡ serial (generated N)
  orders_end_alike requests m done still =
      one_end N m (serial (generated N)) (plain_of_load N requests m done) serial_load (still_idle (generated N) m valid still) (serial_idle (generated N) valid)

  pub runs_end_alike : (past : List Entry) → IsLegal (generated N) past → has_ended (generated N) past ≡ true → machine_of (generated N) past ≡ serial (generated N)
  runs_end_alike past legal ended =
      one_end N (machine_of (generated N) past) (serial (generated N))
      (plain_of_load N (delivers (reverse past)) (machine_of (generated N) past) (plain_exists (generated N) valid past legal)) serial_load
      (ended_pending (generated N) past ended) (serial_idle (generated N) valid)

  -- ---- its sums

  end_is : (d : ℕ) → d < length (serial (generated N)).devices → device_of (serial (generated N)) d ≡ device_at N d (Upto 1120) (Upto 1120)
  end_is d below = end_device N (serial (generated N)) serial_load (serial_idle (generated N) valid) d (subst (λ (n : ℕ). d < n) serial_load.here.devices below)

  all_bells : accepted_at (Upto 1120) ≡ 1120
  all_bells = let rung = bells_late 1120 (omega arith) in omega (arith, rung)

  pub end_accepted : all_accepted (serial (generated N)) ≡ 8960
  end_accepted =
      sum_same (λ (x : DeviceState). x.accepted) 1120 (serial (generated N)).devices (λ d below. ap (λ (x : DeviceState). x.accepted) (end_is d below) ∙ all_bells)
      ∙ ap (λ (n : ℕ). n * 1120) serial_load.here.devices

  pub end_done : all_done (serial (generated N)) ≡ 8960
  end_done =
      sum_same (λ (x : DeviceState). x.done) 1120 (serial (generated N)).devices (λ d below. ap (λ (x : DeviceState). x.done) (end_is d below))
      ∙ ap (λ (n : ℕ). n * 1120) serial_load.here.devices

  pub end_lost : all_lost (serial (generated N)) ≡ 0
  end_lost =
      sum_same (λ (x : DeviceState). x.lost) 0 (serial (generated N)).devices (λ d below. ap (λ (x : DeviceState). x.lost) (end_is d below))
      ∙ ap (λ (n : ℕ). n * 0) serial_load.here.devices
