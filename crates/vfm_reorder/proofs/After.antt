-- A buffer goes on to stand for the packets that were put into it.
use Rattle.std.proofs.Common.{◌≡◌, ◌∙◌, refl, sym, ap, ap₂, subst, ℕ, suc, ◌+◌, ◌<◌, ◌≤◌, ◌==◌, ◌&&◌, ◌||◌, if◌then◌else◌, nat_lt, Bool, true, false, Option, Some, None, IfSome, is_some, List, [], ◌∷◌, ◌++◌, arith, ⊎_elim, eq-eqb}
use Rattle.std.proofs.lemmas.Bool.{cases_eq, cases_lt, ne_eqb, lt-ltb, le-ltb}
use Rattle.std.proofs.lemmas.List.Folds.{list_any-append}
use Rattle.vfm_packet.specs.Packet.{Packet}
use Rattle.vfm_streams.specs.Whole.{times, packet_with, is_config, has_config_at}
use Rattle.vfm_streams.proofs.Numbered.{by_bool}
use Rattle.vfm_reorder.specs.declared.held.Held.{Held}
use Rattle.vfm_reorder.specs.declared.buffer.ReorderBuf.{ReorderBuf}
use Rattle.vfm_reorder.specs.Waiting.{is_config_held}
use Rattle.vfm_reorder.specs.Buffers.{waiting, is_put, is_config_put, IsHeld, IsAfter, IsPacket}

-- ---- tests

or-false : (b : Bool) → (b || false) ≡ b
or-false true = refl
or-false false = refl

and-false : (a : Bool) → (a && false) ≡ false
and-false true = refl
and-false false = refl

and-true : (a : Bool) → (a && true) ≡ a
and-true true = refl
and-true false = refl

-- ---- lists with one packet more

times-more : (i : ℕ) (packets : List Packet) (p : Packet) → times i (packets ++ p ∷ []) ≡ times i packets + (if p.head.index == i then 1 else 0)
times-more i [] p = refl
times-more i (q ∷ packets) p =
    ap (λ (n : ℕ). n + (if q.head.index == i then 1 else 0)) (times-more i packets p)
    ∙ omega arith

with-more : (i : ℕ) (packets : List Packet) (p : Packet) → times i packets ≡ 0 → p.head.index ≡ i → packet_with i (packets ++ p ∷ []) ≡ Some p
with-more i [] p none same = ap (λ (b : Bool). if b then Some p else None) (eq-eqb p.head.index i same)
with-more i (q ∷ packets) p none same =
    by_bool (q.head.index == i) (λ b. (q.head.index == i) ≡ b → times i packets + (if b then 1 else 0) ≡ 0 → (if b then Some q else packet_with i (packets ++ p ∷ [])) ≡ Some p)
    (λ here e n. absurd (omega (arith, n)))
    (λ away e n. with-more i packets p (omega (arith, n)) same) refl none

with-still : (i : ℕ) (packets : List Packet) (p q : Packet) → packet_with i packets ≡ Some q → packet_with i (packets ++ p ∷ []) ≡ Some q
with-still i [] p q is = let clash : None ≡ Some q = is in absurd cc
with-still i (r ∷ packets) p q is =
    by_bool (r.head.index == i) (λ b. (if b then Some r else packet_with i packets) ≡ Some q → (if b then Some r else packet_with i (packets ++ p ∷ [])) ≡ Some q)
    (λ here e. e) (λ away e. with-still i packets p q e) is

config-more : (i : ℕ) (packets : List Packet) (p : Packet)
    → has_config_at i (packets ++ p ∷ []) ≡ (has_config_at i packets || (p.head.index == i && is_config p.head.kind))
config-more i packets p =
    list_any-append (λ (q : Packet). q.head.index == i && is_config q.head.kind) packets (p ∷ [])
    ∙ ap (λ (b : Bool). has_config_at i packets || b) (or-false (p.head.index == i && is_config p.head.kind))

-- ---- what may be an option

map-some : {X : Type 0} (o : Option X) (P Q : X → Type 0) → ((x : X) → P x → Q x) → IfSome o P → IfSome o Q
map-some None P Q h p = tt
map-some (Some x) P Q h p = h x p

some-not : {X : Type 0} (o : Option X) → is_some o ≡ false → o ≡ None
some-not None none = refl
some-not (Some x) none = let clash : true ≡ false = none in absurd cc

or-left-not : (a b : Bool) → (a || b) ≡ false → a ≡ false
or-left-not true b is = is
or-left-not false b is = refl

or-right-not : (a b : Bool) → (a || b) ≡ false → b ≡ false
or-right-not true b is = let clash : true ≡ false = is in absurd cc
or-right-not false b is = is

or-true : (a : Bool) → (a || true) ≡ true
or-true true = refl
or-true false = refl

-- ---- a packet is put

module _ (b c : ReorderBuf) (packets : List Packet) (p : Packet) (index : ℕ) (held : Held) (next : c.next ≡ b.next) (closed : c.closed ≡ b.closed)
    (put : (i : ℕ) → waiting c i ≡ (if index == i then Some held else waiting b i)) (fresh : is_put b index ≡ false)
    (is : IsPacket p index held.config held.payload) (after : IsAfter b packets) where
  high : nat_lt index b.next ≡ false
  high = or-left-not (nat_lt index b.next) (is_some (waiting b index)) fresh

  lacked : waiting b index ≡ None
  lacked = some-not (waiting b index) (or-right-not (nat_lt index b.next) (is_some (waiting b index)) fresh)

  here : waiting c index ≡ Some held
  here = put index ∙ ap (λ (t : Bool). if t then Some held else waiting b index) (eq-eqb index index refl)

  other : (i : ℕ) → (index ≡ i → ⊥) → waiting c i ≡ waiting b i
  other i away = put i ∙ ap (λ (t : Bool). if t then Some held else waiting b i) (ne_eqb index i away)

  no_times : times index packets ≡ 0
  no_times = after.once index ∙ ap (λ (t : Bool). if t then 1 else 0) fresh

  once_here : times index (packets ++ p ∷ []) ≡ (if is_put c index then 1 else 0)
  once_here =
      times-more index packets p
      ∙ ap₂ (λ (n : ℕ) (t : Bool). n + (if t then 1 else 0)) no_times (eq-eqb p.head.index index is.index_is)
      ∙ sym (ap (λ (t : Bool). if t then 1 else 0) (ap (λ (o : Option Held). nat_lt index c.next || is_some o) here ∙ or-true (nat_lt index c.next)))

  away_index : (i : ℕ) → (index ≡ i → ⊥) → (p.head.index == i) ≡ false
  away_index i away = ne_eqb p.head.index i (λ e. away (sym is.index_is ∙ e))

  once_away : (i : ℕ) → (index ≡ i → ⊥) → times i (packets ++ p ∷ []) ≡ (if is_put c i then 1 else 0)
  once_away i away =
      times-more i packets p
      ∙ ap (λ (t : Bool). times i packets + (if t then 1 else 0)) (away_index i away)
      ∙ omega arith
      ∙ after.once i
      ∙ ap₂ (λ (n : ℕ) (o : Option Held). if nat_lt i n || is_some o then 1 else 0) (sym next) (sym (other i away))

  config_here : has_config_at index (packets ++ p ∷ []) ≡ is_config_put c index
  config_here =
      config-more index packets p
      ∙ ap₂ (λ (s t : Bool). s || t)
      (after.configs index
      ∙ ap (λ (t : Bool). if t then b.closed && suc index == b.next else is_config_held (waiting b index)) high
      ∙ ap is_config_held lacked)
      (ap (λ (t : Bool). t && is_config p.head.kind) (eq-eqb p.head.index index is.index_is) ∙ is.config_is)
      ∙ sym (ap₂ (λ (t : Bool) (o : Option Held). if t then c.closed && suc index == c.next else is_config_held o) (ap (λ (n : ℕ). nat_lt index n) next ∙ high) here)

  config_away : (i : ℕ) → (index ≡ i → ⊥) → has_config_at i (packets ++ p ∷ []) ≡ is_config_put c i
  config_away i away =
      config-more i packets p
      ∙ ap (λ (t : Bool). has_config_at i packets || (t && is_config p.head.kind)) (away_index i away)
      ∙ or-false (has_config_at i packets)
      ∙ after.configs i
      ∙ ap₂ (λ (n : ℕ) (o : Option Held). if nat_lt i n then b.closed && suc i == n else is_config_held o) (sym next) (sym (other i away))
      ∙ ap (λ (t : Bool). if nat_lt i c.next then t && suc i == c.next else is_config_held (waiting c i)) (sym closed)

  holds_here : IfSome (waiting c index) (IsHeld (packets ++ p ∷ []) index)
  holds_here =
      subst (λ (o : Option Held). IfSome o (IsHeld (packets ++ p ∷ []) index)) (sym here)
      (record { packet = p; found = with-more index packets p no_times is.index_is; config = is.config_is; payload = is.payload_is })

  holds_away : (i : ℕ) → (index ≡ i → ⊥) → IfSome (waiting c i) (IsHeld (packets ++ p ∷ []) i)
  holds_away i away =
      subst (λ (o : Option Held). IfSome o (IsHeld (packets ++ p ∷ []) i)) (sym (other i away))
      (map-some (waiting b i) (IsHeld packets i) (IsHeld (packets ++ p ∷ []) i)
      (λ h was. record { packet = was.packet; found = with-still i packets p was.packet was.found; config = was.config; payload = was.payload })
      (after.holds i))

  pub after-put : IsAfter c (packets ++ p ∷ [])
  after-put = record {
    once = λ i. ⊎_elim (λ (same : index ≡ i). subst (λ (n : ℕ). times n (packets ++ p ∷ []) ≡ (if is_put c n then 1 else 0)) same once_here) (once_away i) (cases_eq index i);
    configs = λ i. ⊎_elim (λ (same : index ≡ i). subst (λ (n : ℕ). has_config_at n (packets ++ p ∷ []) ≡ is_config_put c n) same config_here) (config_away i) (cases_eq index i);
    holds = λ i. ⊎_elim (λ (same : index ≡ i). subst (λ (n : ℕ). IfSome (waiting c n) (IsHeld (packets ++ p ∷ []) n)) same holds_here) (holds_away i) (cases_eq index i);
  }

-- ---- the next packet is given

module _ (b c : ReorderBuf) (packets : List Packet) (held : Held) (next : c.next ≡ b.next + 1) (closes : c.closed ≡ held.config) (was_open : b.closed ≡ false)
    (ready : waiting b b.next ≡ Some held) (left : (i : ℕ) → waiting c i ≡ (if b.next == i then None else waiting b i)) (after : IsAfter b packets) where
  gone : waiting c b.next ≡ None
  gone = left b.next ∙ ap (λ (t : Bool). if t then None else waiting b b.next) (eq-eqb b.next b.next refl)

  others : (i : ℕ) → (b.next ≡ i → ⊥) → waiting c i ≡ waiting b i
  others i away = left i ∙ ap (λ (t : Bool). if t then None else waiting b i) (ne_eqb b.next i away)

  -- the same was put, and the same config packets, at each index
  record Same (i : ℕ) : Type 0 where
    puts : is_put c i ≡ is_put b i
    configs : is_config_put c i ≡ is_config_put b i

  same_below : (i : ℕ) → i < b.next → Same i
  same_below i low =
      let now : nat_lt i c.next ≡ true = lt-ltb i c.next (omega (arith, low, next)) in
      let then_ : nat_lt i b.next ≡ true = lt-ltb i b.next low in
      record {
        puts = ap (λ (t : Bool). t || is_some (waiting c i)) now ∙ sym (ap (λ (t : Bool). t || is_some (waiting b i)) then_);
        configs =
            ap (λ (t : Bool). if t then c.closed && suc i == c.next else is_config_held (waiting c i)) now
            ∙ ap (λ (t : Bool). c.closed && t) (ne_eqb (suc i) c.next (λ e. omega (arith, e, low, next)))
            ∙ and-false c.closed
            ∙ sym (ap₂ (λ (t s : Bool). if t then s && suc i == b.next else is_config_held (waiting b i)) then_ was_open);
      }

  same_here : Same b.next
  same_here =
      let now : nat_lt b.next c.next ≡ true = lt-ltb b.next c.next (omega (arith, next)) in
      let then_ : nat_lt b.next b.next ≡ false = le-ltb b.next b.next (omega arith) in
      record {
        puts =
            ap (λ (t : Bool). t || is_some (waiting c b.next)) now
            ∙ sym (ap₂ (λ (t : Bool) (o : Option Held). t || is_some o) then_ ready);
        configs =
            ap (λ (t : Bool). if t then c.closed && suc b.next == c.next else is_config_held (waiting c b.next)) now
            ∙ ap₂ (λ (t s : Bool). t && s) closes (eq-eqb (suc b.next) c.next (omega (arith, next)))
            ∙ and-true held.config
            ∙ sym (ap₂ (λ (t : Bool) (o : Option Held). if t then b.closed && suc b.next == b.next else is_config_held o) then_ ready);
      }

  same_above : (i : ℕ) → b.next < i → Same i
  same_above i above_ =
      let now : nat_lt i c.next ≡ false = le-ltb i c.next (omega (arith, above_, next)) in
      let then_ : nat_lt i b.next ≡ false = le-ltb i b.next (omega (arith, above_)) in
      let still : waiting c i ≡ waiting b i = others i (λ e. omega (arith, e, above_)) in
      record {
        puts = ap₂ (λ (t : Bool) (o : Option Held). t || is_some o) (now ∙ sym then_) still;
        configs =
            ap₂ (λ (t : Bool) (o : Option Held). if t then c.closed && suc i == c.next else is_config_held o) now still
            ∙ sym (ap (λ (t : Bool). if t then b.closed && suc i == b.next else is_config_held (waiting b i)) then_);
      }

  same_all : (i : ℕ) → Same i
  same_all i =
      ⊎_elim (same_below i)
      (λ (high : b.next ≤ i).
      ⊎_elim (λ (same : b.next ≡ i). subst (λ (n : ℕ). Same n) same same_here)
      (λ (away : b.next ≡ i → ⊥). same_above i (grind (arith, away, high))) (cases_eq b.next i)) (cases_lt i b.next)

  pub after-pop : IsAfter c packets
  after-pop = record {
    once = λ i. after.once i ∙ sym (ap (λ (t : Bool). if t then 1 else 0) (same_all i).puts);
    configs = λ i. after.configs i ∙ sym (same_all i).configs;
    holds = λ i.
        ⊎_elim
        (λ (same : b.next ≡ i). subst (λ (n : ℕ). IfSome (waiting c n) (IsHeld packets n)) same (subst (λ (o : Option Held). IfSome o (IsHeld packets b.next)) (sym gone) tt))
        (λ (away : b.next ≡ i → ⊥). subst (λ (o : Option Held). IfSome o (IsHeld packets i)) (sym (others i away)) (after.holds i)) (cases_eq b.next i);
  }
