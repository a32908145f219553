-- A packet is put, told or applied.
use Rattle.std.proofs.Common.{◌≡◌, ◌∙◌, refl, sym, ap, ap₂, subst, ℕ, ◌+◌, ◌<◌, ◌≤◌, ◌||◌, if◌then◌else◌, nat_lt, Bool, true, false, Option, Some, None, is_some, List, [], ◌∷◌, ◌++◌, arith, ⊎_elim, eq-eqb}
use Rattle.std.proofs.lemmas.Bool.{cases_eq, cases_lt, ne_eqb, lt-ltb, le-ltb}
use Rattle.vfm_types.specs.declared.desc.Desc.{Desc}
use Rattle.vfm_packet.specs.Packet.{Packet}
use Rattle.vfm_streams.specs.Whole.{times, packet_with, top, in_order}
use Rattle.vfm_reorder.specs.declared.buffer.ReorderBuf.{ReorderBuf}
use Rattle.vfm_reorder.specs.Buffers.{given, waiting, is_put, IsAfter, IsPacket}
use Rattle.vfm_load.specs.declared.loader.Loader.{Loader}
use Rattle.vfm_load.specs.Loads.{IsAfter as IsLoadedAfter}
use Rattle.vfm_intake_laws.specs.Doubles.{IsLeastDoubled, least_told}
use Rattle.vfm_intake_laws.specs.Prefixes.{first_in_order}
use Rattle.vfm_intake_laws.proofs.Counting.{times-both, stay, go_on}
use Rattle.vfm_intake_laws.proofs.Told.{new-index, again}
use Rattle.vfm_intake.specs.declared.stream.StreamIntake.{StreamIntake}
use Rattle.vfm_intake.specs.Streams.{StandsAfter}

-- ---- the next packet is applied

pub applied-next : (D : Desc) (s : ℕ) (put : List Packet) (before after : ReorderBuf) (loader : Loader) (p : Packet)
    → given after ≡ given before + 1 → packet_with (given before) put ≡ Some p
    → IsLoadedAfter loader D s (first_in_order (given before) put ++ p ∷ []) → IsLoadedAfter loader D s (first_in_order (given after) put)
applied-next D s put before after loader p more found loaded =
    subst (λ (n : ℕ). IsLoadedAfter loader D s (first_in_order n put)) (sym more)
    (subst (IsLoadedAfter loader D s) (sym (go_on (given before) put p found)) loaded)

-- ---- counts

-- more of both
met-more : (a b k : ℕ) → nat_lt 0 a ≡ nat_lt 0 b → nat_lt 0 (a + k) ≡ nat_lt 0 (b + k)
met-more a b k met =
    ⊎_elim
    (λ (some : 0 < a).
    ⊎_elim (λ (also : 0 < b). lt-ltb 0 (a + k) (omega (arith, some)) ∙ sym (lt-ltb 0 (b + k) (omega (arith, also))))
    (λ (none : b ≤ 0). let clash : true ≡ false = sym (lt-ltb 0 a some) ∙ met ∙ le-ltb 0 b none in absurd cc) (cases_lt 0 b))
    (λ (none : a ≤ 0).
    ⊎_elim (λ (also : 0 < b). let clash : false ≡ true = sym (le-ltb 0 a none) ∙ met ∙ lt-ltb 0 b also in absurd cc)
    (λ (neither : b ≤ 0). ap (nat_lt 0) (same none neither)) (cases_lt 0 b)) (cases_lt 0 a)
  where
    same : a ≤ 0 → b ≤ 0 → a + k ≡ b + k
    same none neither = omega (arith, none, neither)

met-none : (a b : ℕ) → nat_lt 0 a ≡ nat_lt 0 b → a ≡ 0 → b ≡ 0
met-none a b met none =
    ⊎_elim (λ (some : 0 < b). let clash : false ≡ true = sym (le-ltb 0 a (omega (arith, none))) ∙ met ∙ lt-ltb 0 b some in absurd cc)
    (λ (zero_ : b ≤ 0). omega (arith, zero_)) (cases_lt 0 b)

met-some : (a b : ℕ) → nat_lt 0 a ≡ nat_lt 0 b → 0 < a → 0 < b
met-some a b met some =
    ⊎_elim (λ (also : 0 < b). also)
    (λ (none : b ≤ 0). let clash : true ≡ false = sym (lt-ltb 0 a some) ∙ met ∙ le-ltb 0 b none in absurd cc) (cases_lt 0 b)

module _ (before after : StreamIntake) (D : Desc) (s : ℕ) (came : List Packet) (p : Packet) (index : ℕ) (index_is : p.head.index ≡ index)
    (stands : StandsAfter before D s came) where
  -- how often an index was put
  put-times : (i : ℕ) (put : Bool) → is_put before.buffer i ≡ put → times i stands.put ≡ (if put then 1 else 0)
  put-times i put is = stands.after.once i ∙ ap (λ (b : Bool). if b then 1 else 0) is

  given-put : (i : ℕ) → i < given before.buffer → 0 < times i stands.put
  given-put i low =
      let one : times i stands.put ≡ 1 = put-times i true (ap (λ (b : Bool). b || is_some (waiting before.buffer i)) (lt-ltb i (given before.buffer) low)) in
      omega (arith, one)

  -- ---- a packet with a new index is put

  pub stands-put : is_put before.buffer index ≡ false → IsAfter after.buffer (stands.put ++ p ∷ []) → given after.buffer ≡ given before.buffer
      → after.loader ≡ before.loader → after.doubled ≡ before.doubled → StandsAfter after D s (came ++ p ∷ [])
  stands-put fresh put same_given same_loader same_doubled = record {
    put = stands.put ++ p ∷ [];
    after = put;
    loaded =
        subst (λ (loader : Loader). IsLoadedAfter loader D s (first_in_order (given after.buffer) (stands.put ++ p ∷ []))) (sym same_loader)
        (subst (λ (n : ℕ). IsLoadedAfter before.loader D s (first_in_order n (stands.put ++ p ∷ []))) (sym same_given)
        (subst (IsLoadedAfter before.loader D s) (sym (stay (given before.buffer) stands.put p given-put)) stands.loaded));
    met = λ i.
        ap (nat_lt 0) (times-both i stands.put (p ∷ [])) ∙ met-more (times i stands.put) (times i came) (times i (p ∷ [])) (stands.met i)
        ∙ sym (ap (nat_lt 0) (times-both i came (p ∷ [])));
    doubled = subst (λ (told : Option ℕ). IsLeastDoubled told (came ++ p ∷ [])) (sym same_doubled)
        (new-index before.doubled came p (met-none (times p.head.index stands.put) (times p.head.index came) (stands.met p.head.index) none) stands.doubled);
    whole = λ undoubled. ap (λ (ps : List Packet). ps ++ p ∷ []) (stands.whole (sym same_doubled ∙ undoubled));
  }
    where
      none : times p.head.index stands.put ≡ 0
      none = ap (λ (i : ℕ). times i stands.put) index_is ∙ put-times index false fresh

  -- ---- one with an index that came before is told

  pub stands-told : is_put before.buffer index ≡ true → IsAfter after.buffer stands.put → given after.buffer ≡ given before.buffer
      → after.loader ≡ before.loader → after.doubled ≡ Some (least_told before.doubled index) → StandsAfter after D s (came ++ p ∷ [])
  stands-told old put same_given same_loader told = record {
    put = stands.put;
    after = put;
    loaded =
        subst (λ (loader : Loader). IsLoadedAfter loader D s (first_in_order (given after.buffer) stands.put)) (sym same_loader)
        (subst (λ (n : ℕ). IsLoadedAfter before.loader D s (first_in_order n stands.put)) (sym same_given) stands.loaded);
    met = λ i.
        ⊎_elim
        (λ (same : p.head.index ≡ i).
        let there : 0 < times i stands.put = subst (λ (k : ℕ). 0 < times k stands.put) same some in
        let also : 0 < times i came = met-some (times i stands.put) (times i came) (stands.met i) there in
        lt-ltb 0 (times i stands.put) there ∙ sym (lt-ltb 0 (times i (came ++ p ∷ [])) (omega (arith, also, times-both i came (p ∷ [])))))
        (λ (away : p.head.index ≡ i → ⊥).
        stands.met i ∙ ap (nat_lt 0) (sym (times-both i came (p ∷ []) ∙ beside i away))) (cases_eq p.head.index i);
    doubled = subst (λ (o : Option ℕ). IsLeastDoubled o (came ++ p ∷ [])) (sym (told ∙ ap (λ (i : ℕ). Some (least_told before.doubled i)) (sym index_is)))
        (again before.doubled came p (met-some (times p.head.index stands.put) (times p.head.index came) (stands.met p.head.index) some) stands.doubled);
    whole = λ undoubled. let clash : Some (least_told before.doubled index) ≡ None = sym told ∙ undoubled in absurd cc;
  }
    where
      some : 0 < times p.head.index stands.put
      some =
          let one : times p.head.index stands.put ≡ 1 = ap (λ (i : ℕ). times i stands.put) index_is ∙ put-times index true old in
          omega (arith, one)

      beside : (i : ℕ) → (p.head.index ≡ i → ⊥) → times i came + times i (p ∷ []) ≡ times i came
      beside i away = ap (λ (b : Bool). times i came + (0 + (if b then 1 else 0))) (ne_eqb p.head.index i away) ∙ omega arith

-- ---- at the end

-- what was applied is the whole stream in order
pub applied-all : (put came : List Packet) (n count : ℕ) → put ≡ came → top came ≡ count → count ≡ n → first_in_order n put ≡ in_order came
applied-all put came n count whole most all_given =
    ap (first_in_order n) whole ∙ ap (λ (k : ℕ). first_in_order k came) (sym (most ∙ all_given))
