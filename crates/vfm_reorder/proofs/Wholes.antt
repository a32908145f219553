-- What a buffer says at the end is what is wrong with the stream.
use Rattle.std.proofs.Common.{◌≡◌, ◌∙◌, refl, sym, ap, ap₂, ℕ, zero, suc, ◌-◌, ◌<◌, ◌≤◌, ◌==◌, ◌&&◌, ◌||◌, if◌then◌else◌, nat_lt, Bool, true, false, Option, Some, None, is_some, List, arith, ⊎_elim, eq-eqb}
use Rattle.std.specs.Option.{option_or, option_map}
use Rattle.std.proofs.lemmas.Bool.{cases_lt, ne_eqb, lt-ltb, le-ltb}
use Rattle.vfm_base.specs.Least.{least_below}
use Rattle.vfm_packet.specs.Packet.{Packet}
use Rattle.vfm_streams.specs.Whole.{Doubled, Past, NoConfig, Missing, times, top, has_config_at, config_index, gap_by_config, gap_of}
use Rattle.vfm_streams.proofs.Gaps.{all_fail, first_passes, times_top, below_top}
use Rattle.vfm_reorder.specs.declared.held.Held.{Held}
use Rattle.vfm_reorder.specs.declared.buffer.ReorderBuf.{ReorderBuf}
use Rattle.vfm_reorder.specs.Waiting.{is_config_held}
use Rattle.vfm_reorder.specs.Buffers.{waiting, is_put, is_config_put, IsAfter}

and-false : (a : Bool) → (a && false) ≡ false
and-false true = refl
and-false false = refl

pub config-some : (o : Option Held) → is_config_held o ≡ true → is_some o ≡ true
config-some None is = let clash : false ≡ true = is in absurd cc
config-some (Some held) is = refl

config-none : (o : Option Held) → is_some o ≡ false → is_config_held o ≡ false
config-none None none = refl
config-none (Some held) none = let clash : true ≡ false = none in absurd cc

module _ (b : ReorderBuf) (packets : List Packet) (after : IsAfter b packets) where
  one : (i : ℕ) → is_put b i ≡ true → times i packets ≡ 1
  one i put = after.once i ∙ ap (λ (t : Bool). if t then 1 else 0) put

  none : (i : ℕ) → is_put b i ≡ false → times i packets ≡ 0
  none i lacks = after.once i ∙ ap (λ (t : Bool). if t then 1 else 0) lacks

  at_most : (t : Bool) → nat_lt 1 (if t then 1 else 0) ≡ false
  at_most true = refl
  at_most false = refl

  -- no index is doubled
  undoubled : gap_of packets ≡ gap_by_config packets (config_index packets)
  undoubled =
      ap (λ (o : Option ℕ). option_or (option_map Doubled o) (gap_by_config packets (config_index packets)))
      (all_fail (top packets) (λ i. nat_lt 1 (times i packets)) (λ k below. ap (nat_lt 1) (after.once k) ∙ at_most (is_put b k)))

  -- below the top, where it was put
  in_top : (i : ℕ) → is_put b i ≡ true → i < top packets
  in_top i put = below_top packets i (omega (arith, one i put))

  pub no-config : ((i : ℕ) → is_config_put b i ≡ false) → gap_of packets ≡ Some NoConfig
  no-config plain =
      undoubled
      ∙ ap (gap_by_config packets) (all_fail (top packets) (λ i. has_config_at i packets) (λ k below. after.configs k ∙ plain k))

  module _ (last : ℕ) (put : is_put b last ≡ true) (config : is_config_put b last ≡ true) (first : (i : ℕ) → i < last → is_config_put b i ≡ false) where
    found : config_index packets ≡ Some last
    found =
        first_passes (top packets) (λ i. has_config_at i packets) last (in_top last put) (after.configs last ∙ config)
        (λ k below. after.configs k ∙ first k below)

    past_test : ℕ → Bool
    past_test i = nat_lt last i && nat_lt 0 (times i packets)

    pub past-at : (k : ℕ) → last < k → is_put b k ≡ true → ((i : ℕ) → last < i → i < k → is_put b i ≡ false) → gap_of packets ≡ Some (Past k)
    unfolding past_test
    past-at k above there between =
        undoubled ∙ ap (gap_by_config packets) found
        ∙ ap (λ (o : Option ℕ). option_or (option_map Past o) (option_map Missing (least_below last (λ i. times i packets == 0))))
        (first_passes (top packets) past_test k (in_top k there)
        (ap₂ (λ (s t : Bool). s && t) (lt-ltb last k above) (ap (nat_lt 0) (one k there)))
        (λ i below.
        ⊎_elim
        (λ (low : last < i). ap (λ (t : Bool). nat_lt last i && t) (ap (nat_lt 0) (none i (between i low below))) ∙ and-false (nat_lt last i))
        (λ (high : i ≤ last). ap (λ (t : Bool). t && nat_lt 0 (times i packets)) (le-ltb last i high)) (cases_lt last i)))

    none_past : ((i : ℕ) → last < i → is_put b i ≡ false)
        → gap_of packets ≡ option_map Missing (least_below last (λ i. times i packets == 0))
    unfolding past_test
    none_past above =
        undoubled ∙ ap (gap_by_config packets) found
        ∙ ap (λ (o : Option ℕ). option_or (option_map Past o) (option_map Missing (least_below last (λ i. times i packets == 0))))
        (all_fail (top packets) past_test
        (λ i below.
        ⊎_elim
        (λ (low : last < i). ap (λ (t : Bool). nat_lt last i && t) (ap (nat_lt 0) (none i (above i low))) ∙ and-false (nat_lt last i))
        (λ (high : i ≤ last). ap (λ (t : Bool). t && nat_lt 0 (times i packets)) (le-ltb last i high)) (cases_lt last i)))

    pub missing-at : (m : ℕ) → m < last → is_put b m ≡ false → ((i : ℕ) → i < m → is_put b i ≡ true) → ((i : ℕ) → last < i → is_put b i ≡ false)
        → gap_of packets ≡ Some (Missing m)
    missing-at m low lacks before above =
        none_past above
        ∙ ap (option_map Missing)
        (first_passes last (λ i. times i packets == 0) m low (eq-eqb (times m packets) 0 (none m lacks))
        (λ k below. ne_eqb (times k packets) 0 (λ zero_. omega (arith, zero_, one k (before k below)))))

    pub whole-all : ((i : ℕ) → i < last → is_put b i ≡ true) → ((i : ℕ) → last < i → is_put b i ≡ false) → gap_of packets ≡ None
    whole-all before above =
        none_past above
        ∙ ap (option_map Missing)
        (all_fail last (λ i. times i packets == 0) (λ k below. ne_eqb (times k packets) 0 (λ zero_. omega (arith, zero_, one k (before k below)))))

  -- one above the greatest index
  pub top-at : (n : ℕ) → ((i : ℕ) → i < n → is_put b i ≡ true) → ((i : ℕ) → n ≤ i → is_put b i ≡ false) → top packets ≡ n
  top-at n before above = at (top packets) refl
    where
      at : (t : ℕ) → top packets ≡ t → top packets ≡ n
      at zero is =
          ⊎_elim (λ (some : 0 < n). let low = in_top 0 (before 0 some) in absurd (omega (arith, low, is)))
          (λ (empty : n ≤ 0). omega (arith, is, empty)) (cases_lt 0 n)
      at (suc t) is =
          let some : 0 < times t packets = times_top packets t is in
          ⊎_elim
          (λ (low : t < n).
          ⊎_elim (λ (more : suc t < n). let inside = in_top (suc t) (before (suc t) more) in absurd (omega (arith, inside, is)))
          (λ (enough : n ≤ suc t). omega (arith, low, enough, is)) (cases_lt (suc t) n))
          (λ (high : n ≤ t). absurd (omega (arith, some, none t (above t high)))) (cases_lt t n)

-- ---- by the buffer's own words

module _ (b : ReorderBuf) (empty : (i : ℕ) → i < b.next → is_some (waiting b i) ≡ false) where
  pub put-below : (i : ℕ) → i < b.next → is_put b i ≡ true
  put-below i low = ap (λ (t : Bool). t || is_some (waiting b i)) (lt-ltb i b.next low)

  -- from the next on, what was put waits
  pub put-from : (i : ℕ) → b.next ≤ i → is_put b i ≡ is_some (waiting b i)
  put-from i high = ap (λ (t : Bool). t || is_some (waiting b i)) (le-ltb i b.next high)

  pub config-from : (i : ℕ) → b.next ≤ i → is_config_put b i ≡ is_config_held (waiting b i)
  config-from i high = ap (λ (t : Bool). if t then b.closed && suc i == b.next else is_config_held (waiting b i)) (le-ltb i b.next high)

  -- where none was given, a config packet waits wherever it was put
  pub config-open : b.closed ≡ false → (i : ℕ) → is_config_put b i ≡ is_config_held (waiting b i)
  config-open open_ i =
      ⊎_elim
      (λ (low : i < b.next).
      ap₂ (λ (t s : Bool). if t then s && suc i == b.next else is_config_held (waiting b i)) (lt-ltb i b.next low) open_
      ∙ sym (config-none (waiting b i) (empty i low)))
      (λ (high : b.next ≤ i). config-from i high) (cases_lt i b.next)

  pub key-from : (k : ℕ) → is_some (waiting b k) ≡ true → b.next ≤ k
  key-from k there =
      ⊎_elim (λ (low : k < b.next). let clash : true ≡ false = sym there ∙ empty k low in absurd cc) (λ (high : b.next ≤ k). high) (cases_lt k b.next)

-- ---- a config packet was given

module _ (b : ReorderBuf) (packets : List Packet) (after : IsAfter b packets) (empty : (i : ℕ) → i < b.next → is_some (waiting b i) ≡ false)
    (closed : b.closed ≡ true) (begun : 0 < b.next) where
  last : ℕ
  last = b.next - 1

  last_is : suc last ≡ b.next
  unfolding last
  last_is = omega (arith, begun)

  last_config : is_config_put b last ≡ true
  last_config =
      ap (λ (t : Bool). if t then b.closed && suc last == b.next else is_config_held (waiting b last)) (lt-ltb last b.next (omega (arith, last_is)))
      ∙ ap₂ (λ (s t : Bool). s && t) closed (eq-eqb (suc last) b.next last_is)

  none_before : (i : ℕ) → i < last → is_config_put b i ≡ false
  none_before i low =
      ap (λ (t : Bool). if t then b.closed && suc i == b.next else is_config_held (waiting b i)) (lt-ltb i b.next (omega (arith, low, last_is)))
      ∙ ap (λ (t : Bool). b.closed && t) (ne_eqb (suc i) b.next (λ e. omega (arith, e, low, last_is)))
      ∙ and-false b.closed

  last_put : is_put b last ≡ true
  last_put = put-below b empty last (omega (arith, last_is))

  pub closed-past : (k : ℕ) → is_some (waiting b k) ≡ true → ((i : ℕ) → i < k → waiting b i ≡ None) → gap_of packets ≡ Some (Past k)
  closed-past k there least =
      let high = key-from b empty k there in
      past-at b packets after last last_put last_config none_before k (omega (arith, high, last_is)) (put-from b empty k high ∙ there)
      (λ i above below. put-from b empty i (omega (arith, above, last_is)) ∙ ap is_some (least i below))

  pub closed-whole : ((i : ℕ) → waiting b i ≡ None) → gap_of packets ≡ None
  closed-whole nothing =
      whole-all b packets after last last_put last_config none_before (λ i low. put-below b empty i (omega (arith, low, last_is)))
      (λ i above. put-from b empty i (omega (arith, above, last_is)) ∙ ap is_some (nothing i))

  pub closed-count : ((i : ℕ) → waiting b i ≡ None) → top packets ≡ b.next
  closed-count nothing =
      top-at b packets after b.next (put-below b empty) (λ i high. put-from b empty i high ∙ ap is_some (nothing i))

-- ---- none was given, and the next packet is lacking

module _ (b : ReorderBuf) (packets : List Packet) (after : IsAfter b packets) (empty : (i : ℕ) → i < b.next → is_some (waiting b i) ≡ false)
    (shut : b.closed ≡ false) where
  pub open-none : ((i : ℕ) → is_config_held (waiting b i) ≡ false) → gap_of packets ≡ Some NoConfig
  open-none plain = no-config b packets after (λ i. config-open b empty shut i ∙ plain i)

  module _ (lacking : waiting b b.next ≡ None) (last : ℕ) (config : is_config_held (waiting b last) ≡ true)
      (first : (i : ℕ) → i < last → is_config_held (waiting b i) ≡ false) (left : ℕ → Option Held)
      (above : (i : ℕ) → left i ≡ (if nat_lt last i then waiting b i else None)) where
    there_last : is_some (waiting b last) ≡ true
    there_last = config-some (waiting b last) config

    from : b.next ≤ last
    from = key-from b empty last there_last

    put_last : is_put b last ≡ true
    put_last = put-from b empty last from ∙ there_last

    config_last : is_config_put b last ≡ true
    config_last = config-open b empty shut last ∙ config

    first_last : (i : ℕ) → i < last → is_config_put b i ≡ false
    first_last i low = config-open b empty shut i ∙ first i low

    still : (i : ℕ) → last < i → left i ≡ waiting b i
    still i high = above i ∙ ap (λ (t : Bool). if t then waiting b i else None) (lt-ltb last i high)

    pub open-past : (k : ℕ) → is_some (left k) ≡ true → ((i : ℕ) → i < k → left i ≡ None) → gap_of packets ≡ Some (Past k)
    open-past k there least =
        ⊎_elim
        (λ (high : last < k).
        past-at b packets after last put_last config_last first_last k high (put-from b empty k (omega (arith, high, from)) ∙ ap is_some (sym (still k high)) ∙ there)
        (λ i over below. put-from b empty i (omega (arith, over, from)) ∙ ap is_some (sym (still i over) ∙ least i below)))
        (λ (low : k ≤ last).
        let clash : false ≡ true = sym (ap is_some (above k ∙ ap (λ (t : Bool). if t then waiting b k else None) (le-ltb last k low))) ∙ there in absurd cc)
        (cases_lt last k)

    pub open-missing : ((i : ℕ) → left i ≡ None) → gap_of packets ≡ Some (Missing b.next)
    open-missing nothing =
        ⊎_elim
        (λ (low : b.next < last).
        missing-at b packets after last put_last config_last first_last b.next low (put-from b empty b.next (omega arith) ∙ ap is_some lacking)
        (put-below b empty)
        (λ i over. put-from b empty i (omega (arith, over, from)) ∙ ap is_some (sym (still i over) ∙ nothing i)))
        (λ (high : last ≤ b.next).
        let same : b.next ≡ last = omega (arith, high, from) in
        let clash : false ≡ true = sym (ap is_some (sym (ap (waiting b) same) ∙ lacking)) ∙ there_last in absurd cc) (cases_lt b.next last)
