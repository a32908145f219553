-- Packets of which each index below a number stands once and none above, the last alone a config packet: a whole stream.
use Rattle.std.proofs.Common.{◌≡◌, ℕ, zero, suc, ◌+◌, ◌-◌, ◌<◌, ◌≤◌, ◌==◌, Bool, true, false, ◌&&◌, ◌||◌, if◌then◌else◌, nat_lt, List, [], ◌∷◌, map, Option, Some, None, unwrap_or, refl, ap, sym, ◌∙◌, subst, arith, ⊎_elim, eqb-true, eq-eqb}
use Rattle.std.specs.Prelude.{max}
use Rattle.std.specs.List.{range_with_len, AllByRecursion}
use Rattle.std.specs.Option.{option_or, option_map}
use Rattle.std.proofs.lemmas.Bool.{cases_lt, cases_eq, ne_eqb, le-ltb, and_left, or_from, or_left, false≢true}
use Rattle.vfm_base.specs.Least.{least_from, least_below}
use Rattle.vfm_packet.specs.Packet.{Packet}
use Rattle.vfm_record.specs.Packing.{end_of}
use Rattle.vfm_streams.specs.Whole.{Doubled, Past, Missing, times, packet_with, top, is_config, has_config_at, config_index, gap_by_config, gap_of, in_order}
use Rattle.vfm_streams.proofs.Numbered.{by_bool}

-- ---- the least number that passes

fails_from : (n i : ℕ) (test : ℕ → Bool) → ((k : ℕ) → i ≤ k → k < i + n → test k ≡ false) → least_from i n test ≡ None
fails_from zero i test none = refl
fails_from (suc n) i test none =
    ap (λ (b : Bool). if b then Some i else least_from (i + 1) n test) (none i (omega arith) (omega arith))
    ∙ fails_from n (i + 1) test (λ k low high. none k (omega arith) (omega arith))

-- where each number below n fails, none is the least that passes
pub all_fail : (n : ℕ) (test : ℕ → Bool) → ((k : ℕ) → k < n → test k ≡ false) → least_below n test ≡ None
all_fail n test none = fails_from n 0 test (λ k low high. none k (omega arith))

first_from : (n i : ℕ) (test : ℕ → Bool) (p : ℕ) → i ≤ p → p < i + n → test p ≡ true → ((k : ℕ) → i ≤ k → k < p → test k ≡ false) → least_from i n test ≡ Some p
first_from zero i test p low high yes_ none = absurd (omega arith)
first_from (suc n) i test p low high yes_ none =
    ⊎_elim
    (λ (same : i ≡ p).
    ap (λ (b : Bool). if b then Some i else least_from (i + 1) n test) (subst (λ (k : ℕ). test k ≡ true) (sym same) yes_) ∙ ap Some same)
    (λ (other : i ≡ p → ⊥).
    ap (λ (b : Bool). if b then Some i else least_from (i + 1) n test) (none i (omega arith) (grind (arith, other)))
    ∙ first_from n (i + 1) test p (grind (arith, other)) (omega arith) yes_ (λ k from below. none k (omega arith) below)) (cases_eq i p)

pub first_passes : (n : ℕ) (test : ℕ → Bool) (p : ℕ) → p < n → test p ≡ true → ((k : ℕ) → k < p → test k ≡ false) → least_below n test ≡ Some p
first_passes n test p high yes_ none = first_from n 0 test p (omega arith) (omega arith) yes_ (λ k low below. none k below)

-- ---- packets by index

ap_one : (n : ℕ) (b : Bool) → b ≡ true → 0 < n + (if b then 1 else 0)
ap_one n true is = omega arith
ap_one n false is = absurd (false≢true is)

pub times_top : (packets : List Packet) (t : ℕ) → top packets ≡ suc t → 0 < times t packets
times_top [] t is = absurd (omega arith)
times_top (p ∷ packets) t is =
    ⊎_elim
    (λ (below : p.head.index + 1 < top packets).
    let rest : 0 < times t packets = times_top packets t (omega arith) in omega arith)
    (λ (above : top packets ≤ p.head.index + 1).
    let index : p.head.index ≡ t = omega arith in
    ap_one (times t packets) (p.head.index == t) (eq-eqb p.head.index t index))
    (cases_lt (p.head.index + 1) (top packets))

pub below_top : (packets : List Packet) (i : ℕ) → 0 < times i packets → i < top packets
below_top [] i some = absurd (omega arith)
below_top (p ∷ packets) i some =
    by_bool (p.head.index == i) (λ b. (p.head.index == i) ≡ b → 0 < times i packets + (if b then 1 else 0) → i < max (p.head.index + 1) (top packets))
    (λ same e h. let index : p.head.index ≡ i = eqb-true p.head.index i e in omega arith)
    (λ other e h. let rest : i < top packets = below_top packets i (omega arith) in omega arith) refl some

-- each packet of an index is this one
abbrev pub Only : ℕ → Packet → List Packet → Type 0
Only i q packets = AllByRecursion (λ p. p.head.index ≡ i → p ≡ q) packets

only_found : (packets : List Packet) (i : ℕ) (q : Packet) → Only i q packets → 0 < times i packets → packet_with i packets ≡ Some q
only_found [] i q only some = absurd (omega arith)
only_found (p ∷ packets) i q only some =
    by_bool (p.head.index == i)
    (λ b. (p.head.index == i) ≡ b → 0 < times i packets + (if b then 1 else 0) → (if b then Some p else packet_with i packets) ≡ Some q)
    (λ same e h. ap Some (only.0 (eqb-true p.head.index i e)))
    (λ other e h. only_found packets i q only.1 (omega arith)) refl some

no_config : (packets : List Packet) (i : ℕ) (q : Packet) → Only i q packets → is_config q.head.kind ≡ false → has_config_at i packets ≡ false
no_config [] i q only data_ = refl
no_config (p ∷ packets) i q only data_ =
    or_from (p.head.index == i && is_config p.head.kind) (has_config_at i packets)
    (by_bool (p.head.index == i) (λ b. (p.head.index == i) ≡ b → (b && is_config p.head.kind) ≡ false)
    (λ same e. ap (λ (x : Packet). is_config x.head.kind) (only.0 (eqb-true p.head.index i e)) ∙ data_) (λ other e. refl) refl)
    (no_config packets i q only.1 data_)

some_config : (packets : List Packet) (i : ℕ) (q : Packet) → Only i q packets → is_config q.head.kind ≡ true → 0 < times i packets → has_config_at i packets ≡ true
some_config [] i q only config some = absurd (omega arith)
some_config (p ∷ packets) i q only config some =
    by_bool (p.head.index == i)
    (λ b. (p.head.index == i) ≡ b → 0 < times i packets + (if b then 1 else 0) → ((b && is_config p.head.kind) || has_config_at i packets) ≡ true)
    (λ same e h. or_left (is_config p.head.kind) (has_config_at i packets) (ap (λ (x : Packet). is_config x.head.kind) (only.0 (eqb-true p.head.index i e)) ∙ config))
    (λ other e h. some_config packets i q only.1 config (omega arith)) refl some

-- the packets of a whole stream, by index
pub record IsWhole (packets : List Packet) (n : ℕ) (q : ℕ → Packet) : Type 0 where
  pub some : 0 < n
  pub once : (i : ℕ) → i < n → times i packets ≡ 1
  pub none : (i : ℕ) → n ≤ i → times i packets ≡ 0
  pub only : (i : ℕ) → i < n → Only i (q i) packets
  pub before : (i : ℕ) → i + 1 < n → is_config (q i).head.kind ≡ false
  pub last : (i : ℕ) → i + 1 ≡ n → is_config (q i).head.kind ≡ true

module _ (packets : List Packet) (n : ℕ) (q : ℕ → Packet) (whole : IsWhole packets n q) where
  top_is : top packets ≡ n
  top_is = at (top packets) refl
    where
      at : (t : ℕ) → top packets ≡ t → top packets ≡ n
      at zero is =
          let some : 0 < n = whole.some in
          let one : times 0 packets ≡ 1 = whole.once 0 some in
          let below : 0 < top packets = below_top packets 0 (omega arith) in absurd (omega arith)
      at (suc t) is =
          let some : 0 < times t packets = times_top packets t is in
          ⊎_elim
          (λ (low : t < n).
          ⊎_elim
          (λ (more : suc t < n).
          let one : times (suc t) packets ≡ 1 = whole.once (suc t) more in
          let below : suc t < top packets = below_top packets (suc t) (omega arith) in absurd (omega arith))
          (λ (enough : n ≤ suc t). omega arith) (cases_lt (suc t) n))
          (λ (high : n ≤ t). let zero_ : times t packets ≡ 0 = whole.none t high in absurd (omega arith)) (cases_lt t n)

  not_doubled : least_below (top packets) (λ i. nat_lt 1 (times i packets)) ≡ None
  not_doubled =
      all_fail (top packets) (λ i. nat_lt 1 (times i packets))
      (λ k below. let one : times k packets ≡ 1 = whole.once k (omega (arith, top_is)) in le-ltb 1 (times k packets) (omega arith))

  config_is : (last : ℕ) → last + 1 ≡ n → config_index packets ≡ Some last
  config_is last is =
      let one : times last packets ≡ 1 = whole.once last (omega arith) in
      first_passes (top packets) (λ i. has_config_at i packets) last (omega (arith, top_is))
      (some_config packets last (q last) (whole.only last (omega arith)) (whole.last last is) (omega arith))
      (λ k below. no_config packets k (q k) (whole.only k (omega arith)) (whole.before k (omega arith)))

  no_gap_behind : (last : ℕ) → last + 1 ≡ n → gap_by_config packets (Some last) ≡ None
  no_gap_behind last is =
      ap (λ (o : Option ℕ). option_or (option_map Past o) (option_map Missing (least_below last (λ i. times i packets == 0))))
      (all_fail (top packets) (λ i. nat_lt last i && nat_lt 0 (times i packets))
      (λ k below. and_left (nat_lt last k) (nat_lt 0 (times k packets)) (le-ltb last k (omega (arith, top_is)))))
      ∙ ap (option_map Missing)
      (all_fail last (λ i. times i packets == 0)
      (λ k below. let one : times k packets ≡ 1 = whole.once k (omega arith) in ne_eqb (times k packets) 0 (λ zero_. omega (arith, zero_))))

  -- nothing is lacking, and nothing is too much
  pub no_gap : gap_of packets ≡ None
  no_gap =
      let some : 0 < n = whole.some in
      ap (λ (o : Option ℕ). option_or (option_map Doubled o) (gap_by_config packets (config_index packets))) not_doubled
      ∙ ap (gap_by_config packets) (config_is (n - 1) (omega arith)) ∙ no_gap_behind (n - 1) (omega arith)

  -- in their order they are these
  pub ordered : in_order packets ≡ map q (range_with_len 0 n)
  ordered =
      ap (λ (k : ℕ). map (λ i. unwrap_or (packet_with i packets) (end_of 1 0)) (range_with_len 0 k)) top_is ∙ each 0 n (omega arith)
    where
      each : (from len : ℕ) → from + len ≤ n → map (λ i. unwrap_or (packet_with i packets) (end_of 1 0)) (range_with_len from len) ≡ map q (range_with_len from len)
      each from zero fits = refl
      each from (suc len) fits =
          let one : times from packets ≡ 1 = whole.once from (omega arith) in
          let found : packet_with from packets ≡ Some (q from) = only_found packets from (q from) (whole.only from (omega arith)) (omega arith) in
          rw (found, each (from + 1) len (omega arith)) refl
