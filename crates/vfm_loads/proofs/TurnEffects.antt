-- What a count, a bell and a block of one device change of the machine.
use Rattle.std.proofs.Common.{◌≡◌, ℕ, ◌+◌, ◌*◌, ◌/◌, ◌%◌, ◌<◌, ◌≤◌, ◌==◌, ◌&&◌, Bool, true, false, nat_lt, List, [], ◌∷◌, ◌++◌, length, take, drop, replicate, Option, unwrap_or, refl, ap, ap₂, sym, ◌∙◌, subst, arith, ne_eqb, eq-eqb, ⊎_elim}
use Rattle.std.proofs.lemmas.Bool.{cond-true, cond-false, and_from, and_left, and_right, lt-ltb, cases_eq}
use Rattle.std.proofs.lemmas.List.{get_or-set_same, get_or-set_other, length-set, length-replicate, length-append, length-take-le, take-append-le, take-take}
use Rattle.std.proofs.Math.Seq.{drop-append_seam}
use Rattle.vfm_types.specs.declared.job.Region.TheVariants.{Page, Bar}
use Rattle.vfm_types.specs.declared.job.Place.{Place}
use Rattle.vfm_types.specs.Desc.{shape_at, job_at}
use Rattle.vfm_types.specs.Job.{page_zero_if_nowhere, is_bell}
use Rattle.vfm_types.specs.Machine.{DeviceState, Machine, device_of, with_device, bytes_at, splice, put_at, with_front, with_bell_rung, with_accepted_request, with_lost_request, write_at, added, effect}
use Rattle.vfm_types.specs.Requests.{taken, job_or_zero, do_request}
use Rattle.vfm_types.specs.Deliveries.{page_bytes}
use Rattle.vfm_laws.proofs.Effects.{device_changed, device_other, device_count_kept}
use Rattle.vfm_loads.specs.Generated.{peer_of, peer_before, load_job, generated}
use Rattle.vfm_loads.proofs.Numbers.{request_job, bells, bells_few}
use Rattle.vfm_loads.proofs.Parts.{job_is, job_count, budget_is, bell_is, block_is}
use Rattle.vfm_loads.proofs.LoadValid.{bell_place, block_place}
use Rattle.vfm_loads.proofs.Progress.{Progress, first_of, done_at, pending_at, accepted_at, has_written, Stands, Own, counted, own_after, own_count, count_page, count_offset, count_value, IsCountOf, count_of, page_at, block_bytes_of, bar_start, bar_at, device_at, IsAt, Steps, before_peer, not_peer}
use Rattle.vfm_loads.proofs.Turns.{CountTurn, RingTurn, BlockTurn, Turn, stands_more, pending_grown}

-- bytes put at a place once more leave what is there
splice_again : (old : List ℕ) (offset : ℕ) (bytes : List ℕ) → offset + length bytes ≤ length old
    → splice (splice old offset bytes) offset bytes ≡ splice old offset bytes
splice_again old offset bytes within =
    let front : length (take offset old) ≡ offset = length-take-le offset old (omega arith) in
    let both : length (take offset old ++ bytes) ≡ offset + length bytes = length-append (take offset old) bytes ∙ ap (λ (n : ℕ). n + length bytes) front in
    let rest = drop (offset + length bytes) old in
    let same_front : take offset (splice old offset bytes) ≡ take offset old =
    take-append-le offset (take offset old ++ bytes) rest (omega (arith, both))
    ∙ take-append-le offset (take offset old) bytes (omega (arith, front))
    ∙ take-take offset offset old (omega arith) in
    let same_rest : drop (offset + length bytes) (splice old offset bytes) ≡ rest =
    ap (λ (n : ℕ). drop n (splice old offset bytes)) (sym both) ∙ drop-append_seam (take offset old ++ bytes) rest in
    ap₂ (λ (a b : List ℕ). a ++ bytes ++ b) same_front same_rest

module _ (N : ℕ) (ps : ℕ → Progress) (m : Machine) (d n : ℕ) (after : Progress) (device : d < 8) (here : IsAt N ps m)
    (turn : Turn (accepted_at (ps (peer_before d))) (ps d) n after) where
  abbrev pub before : Progress
  before = ps (peer_before d)

  abbrev pub took : Machine
  took = with_device m d (taken (device_of m d) n)

  peer_device : peer_of d < 8
  peer_device = omega arith

  in_devices : (k : ℕ) → k < 8 → k < length m.devices
  in_devices k inside = subst (λ (count : ℕ). k < count) (sym here.devices) inside

  took_count : length took.devices ≡ 8
  took_count = device_count_kept m d (taken (device_of m d) n) ∙ here.devices

  in_took : (k : ℕ) → k < 8 → k < length took.devices
  in_took k inside = subst (λ (count : ℕ). k < count) (sym took_count) inside

  -- device d without the request
  taken_is : taken (device_of m d) n ≡ record {
    bar = bar_at N d (has_written before);
    pending = pending_at after (accepted_at before);
    buf = (own_after N d (first_of (ps d))).buf;
    accepted = accepted_at before;
    done = done_at after;
    lost = 0;
  }
  taken_is =
      ap (λ (x : DeviceState). taken x n) (here.device d device)
      ∙ ap₂ (λ (pending : List (ℕ × ℕ)) (done : ℕ). record { bar = bar_at N d (has_written before); pending = pending; buf = (own_after N d (first_of (ps d))).buf; accepted = accepted_at before; done = done; lost = 0 })
      turn.rest turn.done

  took_own : device_of took d ≡ taken (device_of m d) n
  took_own = device_changed m d (taken (device_of m d) n) (in_devices d device)

  took_other : (k : ℕ) → (k ≡ d → ⊥) → device_of took k ≡ device_of m k
  took_other k other = device_other m d (taken (device_of m d) n) k other

  -- the job that is done
  pub job_done : request_job n < 35 → do_request (generated N) m d n ≡ effect (generated N) took d (load_job N d (request_job n))
  job_done low =
      ap (λ (j : ℕ). effect (generated N) took d (job_at (generated N) d j)) (ap (λ (x : DeviceState). job_or_zero n x.pending) (here.device d device) ∙ turn.job)
      ∙ ap (effect (generated N) took d) (job_is N d (request_job n) device low)

  -- ---- bells and blocks: the peer is changed, and no page

  peer_is : device_of took (peer_of d) ≡ device_at N (peer_of d) (ps (peer_of d)) (ps d)
  peer_is =
      took_other (peer_of d) (not_peer d device) ∙ here.device (peer_of d) peer_device
      ∙ ap (λ (k : ℕ). device_at N (peer_of d) (ps (peer_of d)) (ps k)) (before_peer d device)

  peer_stood : Stands (ps (peer_of d)) (accepted_at (ps d))
  peer_stood = subst (λ (k : ℕ). Stands (ps (peer_of d)) (accepted_at (ps k))) (before_peer d device) (here.stands (peer_of d) peer_device)

  through_peer : (x : DeviceState) → ((K e : ℕ) → own_after K e (first_of after) ≡ own_after K e (first_of (ps d)))
      → x ≡ device_at N (peer_of d) (ps (peer_of d)) after → bells (first_of (ps d)) ≤ bells (first_of after)
      → Steps N ps m (with_device took (peer_of d) x) d after
  through_peer x own x_is more = record {
    pages = here.pages;
    devices = device_count_kept took (peer_of d) x ∙ took_count;
    own_page = λ q inside same. here.page q inside ∙ ap (λ (k : ℕ). page_at N k (ps k) q) same ∙ ap (λ (o : Own). o.page q) (sym (own N d));
    other_page = λ q inside other. refl;
    own = device_other took (peer_of d) x d (λ same. not_peer d device (sym same)) ∙ took_own ∙ taken_is
        ∙ ap (λ (o : Own). record { bar = bar_at N d (has_written before); pending = pending_at after (accepted_at before); buf = o.buf; accepted = accepted_at before; done = done_at after; lost = 0 }) (sym (own N d));
    peer = device_changed took (peer_of d) x (in_took (peer_of d) peer_device) ∙ x_is;
    other = λ k inside no_ not. device_other took (peer_of d) x k not ∙ took_other k no_;
    stands = turn.stands;
    peer_stands = stands_more (ps (peer_of d)) (accepted_at (ps d)) (accepted_at after) (omega arith) peer_stood;
  }

  pub after_bell : RingTurn (ps d) n after → Steps N ps m (do_request (generated N) m d n) d after
  after_bell kind = subst (λ (x : Machine). Steps N ps m x d after) (sym done) (through_peer rung kind.own rung_is (omega (arith, kind.bells)))
    where
      rung : DeviceState
      rung = with_bell_rung (shape_at (generated N) (peer_of d)) (device_of took (peer_of d)) 33

      done : do_request (generated N) m d n ≡ with_device took (peer_of d) rung
      done =
          job_done (subst (λ (j : ℕ). j < 35) (sym kind.rings.job) (omega arith))
          ∙ ap (effect (generated N) took d) (ap (load_job N d) kind.rings.job ∙ bell_is N d)
          ∙ ap (λ (o : Option Place). write_at (generated N) took (unwrap_or o page_zero_if_nowhere) (33 ∷ 0 ∷ 0 ∷ 0 ∷ 0 ∷ 0 ∷ 0 ∷ 0 ∷ [])) (bell_place N d device)

      room : (nat_lt 33 (length (shape_at (generated N) (peer_of d)).jobs) && nat_lt (device_of took (peer_of d)).accepted (shape_at (generated N) (peer_of d)).budget) ≡ true
      room =
          let few = bells_few (first_of (ps d)) in
          and_from _ _ (ap (nat_lt 33) (job_count N (peer_of d) peer_device))
          (ap₂ (λ (a b : ℕ). nat_lt a b) (ap (λ (x : DeviceState). x.accepted) peer_is) (budget_is N (peer_of d) peer_device) ∙ lt-ltb (accepted_at (ps d)) 2000 (omega (arith, few)))

      one_more : accepted_at (ps d) + 1 ≡ accepted_at after
      one_more = omega (arith, kind.bells)

      rung_is : rung ≡ device_at N (peer_of d) (ps (peer_of d)) after
      rung_is =
          cond-true _ (with_accepted_request (device_of took (peer_of d)) 33) (with_lost_request (device_of took (peer_of d))) room
          ∙ ap (λ (x : DeviceState). with_accepted_request x 33) peer_is
          ∙ ap₂ (λ (pending : List (ℕ × ℕ)) (written : Bool). record { bar = bar_at N (peer_of d) written; pending = pending; buf = (own_after N (peer_of d) (first_of (ps (peer_of d)))).buf; accepted = accepted_at (ps d) + 1; done = done_at (ps (peer_of d)); lost = 0 })
          (sym (pending_grown (ps (peer_of d)) (accepted_at (ps d)) peer_stood (omega arith))) (sym kind.written)
          ∙ ap (λ (accepted : ℕ). record { bar = bar_at N (peer_of d) (has_written after); pending = pending_at (ps (peer_of d)) accepted; buf = (own_after N (peer_of d) (first_of (ps (peer_of d)))).buf; accepted = accepted; done = done_at (ps (peer_of d)); lost = 0 }) one_more

  -- ---- the bytes of a block

  abbrev block_offset : ℕ
  block_offset = 64 + 64 * (N % 32)

  abbrev block_bytes : List ℕ
  block_bytes = replicate 64 (d + 1)

  abbrev block_there : Place
  block_there = record { region = Bar (peer_of d); offset = block_offset }

  block_is_own : block_bytes_of (peer_of d) ≡ block_bytes
  block_is_own = ap (λ (k : ℕ). replicate 64 (k + 1)) (before_peer d device)

  block_fits : block_offset + length block_bytes ≤ length bar_start
  unfolding bar_start
  block_fits = omega (arith, length-replicate 64 (d + 1), length-replicate {A = ℕ} 4096 0)

  covered : (written : Bool) → splice (bar_at N (peer_of d) written) block_offset block_bytes ≡ bar_at N (peer_of d) true
  covered true =
      ap (λ (b : List ℕ). splice (splice bar_start block_offset b) block_offset block_bytes) block_is_own
      ∙ splice_again bar_start block_offset block_bytes block_fits
      ∙ ap (λ (b : List ℕ). splice bar_start block_offset b) (sym block_is_own)
  covered false = ap (λ (b : List ℕ). splice bar_start block_offset b) (sym block_is_own)

  no_bell : is_bell block_there (length block_bytes) ≡ false
  no_bell = and_left _ (length block_bytes == 8) (and_right true _ (ne_eqb block_offset 0 (λ (same : block_offset ≡ 0). omega arith)))

  pub after_block : BlockTurn (ps d) n after → Steps N ps m (do_request (generated N) m d n) d after
  after_block kind = subst (λ (x : Machine). Steps N ps m x d after) (sym done) (through_peer painted kind.own painted_is (omega (arith, kind.bells)))
    where
      painted : DeviceState
      painted = record (device_of took (peer_of d)) { bar = splice (device_of took (peer_of d)).bar block_offset block_bytes }

      done : do_request (generated N) m d n ≡ with_device took (peer_of d) painted
      done =
          job_done (subst (λ (j : ℕ). j < 35) (sym kind.writes.job) (omega arith))
          ∙ ap (effect (generated N) took d) (ap (load_job N d) kind.writes.job ∙ block_is N d)
          ∙ ap (λ (o : Option Place). write_at (generated N) took (unwrap_or o page_zero_if_nowhere) block_bytes) (block_place N d device)
          ∙ cond-false (is_bell block_there (length block_bytes)) _ _ no_bell

      painted_is : painted ≡ device_at N (peer_of d) (ps (peer_of d)) after
      painted_is =
          ap (λ (x : DeviceState). record x { bar = splice x.bar block_offset block_bytes }) peer_is
          ∙ ap₂ (λ (bar : List ℕ) (accepted : ℕ). record { bar = bar; pending = pending_at (ps (peer_of d)) accepted; buf = (own_after N (peer_of d) (first_of (ps (peer_of d)))).buf; accepted = accepted; done = done_at (ps (peer_of d)); lost = 0 })
          (covered (has_written (ps d)) ∙ ap (bar_at N (peer_of d)) (sym kind.written)) (ap (λ (b : ℕ). 1088 + b) (sym kind.bells))

  -- ---- a count: its page and its buffer are changed, and no other device

  pub after_count : CountTurn (ps d) n after → Steps N ps m (do_request (generated N) m d n) d after
  after_count kind = subst (λ (x : Machine). Steps N ps m x d after) (sym done) (record {
    pages = length-set took.pages q (splice (page_bytes took q) offset (added old value)) ∙ here.pages;
    devices = device_count_kept middle d own_device ∙ took_count;
    own_page = own_page;
    other_page = other_page;
    own = device_changed middle d own_device (in_took d device) ∙ own_is;
    peer = device_other middle d own_device (peer_of d) (not_peer d device) ∙ peer_is
        ∙ ap₂ (λ (b : ℕ) (w : Bool). record { bar = bar_at N (peer_of d) w; pending = pending_at (ps (peer_of d)) (1088 + b); buf = (own_after N (peer_of d) (first_of (ps (peer_of d)))).buf; accepted = 1088 + b; done = done_at (ps (peer_of d)); lost = 0 })
        (sym kind.bells) (sym kind.written);
    other = λ k inside no_ not. device_other middle d own_device k no_ ∙ took_other k no_;
    stands = turn.stands;
    peer_stands = stands_more (ps (peer_of d)) (accepted_at (ps d)) (accepted_at after) (omega (arith, kind.bells)) peer_stood;
  })
    where
      q : ℕ
      q = count_page d (request_job n)

      offset : ℕ
      offset = count_offset N (request_job n)

      value : ℕ
      value = count_value N d (request_job n)

      count : IsCountOf N d (request_job n)
      count = count_of N d (request_job n) device kind.counts.counts

      place : Place
      place = record { region = Page q; offset = offset }

      old : List ℕ
      old = take 8 (drop offset (page_bytes took q))

      middle : Machine
      middle = put_at took place (added old value)

      own_device : DeviceState
      own_device = record (device_of took d) { buf = splice (device_of took d).buf 0 old }

      done : do_request (generated N) m d n ≡ with_device middle d own_device
      done =
          job_done kind.counts.low
          ∙ ap (effect (generated N) took d) count.job
          ∙ ap (λ (o : Option Place). with_front (put_at took (unwrap_or o page_zero_if_nowhere) (added (bytes_at took (unwrap_or o page_zero_if_nowhere) 8) value)) d (bytes_at took (unwrap_or o page_zero_if_nowhere) 8)) count.place

      first : Own
      first = own_after N d n

      next_is : own_after N d (first_of after) ≡ counted first q offset value
      next_is = ap (own_after N d) kind.next ∙ own_count N d n kind.counts

      was : (k : ℕ) → k < 256 → k / 32 ≡ d → page_bytes m k ≡ first.page k
      was k inside same =
          here.page k inside ∙ ap (λ (e : ℕ). page_at N e (ps e) k) same ∙ ap (λ (i : ℕ). (own_after N d i).page k) kind.first

      old_is : old ≡ take 8 (drop offset (first.page q))
      old_is = ap (λ (bytes : List ℕ). take 8 (drop offset bytes)) (was q count.there count.own)

      own_is : own_device ≡ device_at N d after before
      own_is =
          ap (λ (x : DeviceState). record x { buf = splice x.buf 0 old }) (took_own ∙ taken_is)
          ∙ ap (λ (buf : List ℕ). record { bar = bar_at N d (has_written before); pending = pending_at after (accepted_at before); buf = buf; accepted = accepted_at before; done = done_at after; lost = 0 })
          (ap₂ (λ (o : Own) (bytes : List ℕ). splice o.buf 0 bytes) (ap (own_after N d) kind.first) old_is ∙ ap (λ (o : Own). o.buf) (sym next_is))

      there : q < length m.pages
      there = subst (λ (size : ℕ). q < size) (sym here.pages) count.there

      own_page : (k : ℕ) → k < 256 → k / 32 ≡ d → page_bytes (with_device middle d own_device) k ≡ page_at N d after k
      own_page k inside same =
          ⊎_elim (λ (is : k ≡ q). subst (λ (i : ℕ). page_bytes (with_device middle d own_device) i ≡ page_at N d after i) (sym is) written)
          (λ (other : k ≡ q → ⊥). get_or-set_other m.pages q k (splice (page_bytes m q) offset (added old value)) [] other ∙ was k inside same
          ∙ sym (cond-false (k == q) _ _ (ne_eqb k q other)) ∙ ap (λ (o : Own). o.page k) (sym next_is)) (cases_eq k q)
        where
          written : page_bytes (with_device middle d own_device) q ≡ page_at N d after q
          written =
              get_or-set_same m.pages q (splice (page_bytes m q) offset (added old value)) [] there
              ∙ ap₂ (λ (bytes front : List ℕ). splice bytes offset (added front value)) (was q count.there count.own) old_is
              ∙ sym (cond-true (q == q) _ _ (eq-eqb q q refl)) ∙ ap (λ (o : Own). o.page q) (sym next_is)

      other_page : (k : ℕ) → k < 256 → (k / 32 ≡ d → ⊥) → page_bytes (with_device middle d own_device) k ≡ page_bytes m k
      other_page k inside other =
          get_or-set_other m.pages q k (splice (page_bytes m q) offset (added old value)) [] (λ (same : k ≡ q). other (ap (λ (i : ℕ). i / 32) same ∙ count.own))
