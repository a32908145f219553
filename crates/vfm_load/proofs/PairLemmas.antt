-- Pending requests one by one, and the places at which they are refused.
use Rattle.std.proofs.Common.{◌≡◌, ℕ, suc, ◌+◌, ◌*◌, ◌<◌, ◌≤◌, ◌&&◌, not, Bool, true, false, if◌then◌else◌, List, [], ◌∷◌, ◌++◌, length, get_or, take, drop, Some, None, refl, ap, ap₂, subst, ◌∙◌, arith}
use Rattle.std.specs.Prelude.{nat_lt, nat_le}
use Rattle.std.proofs.lemmas.Bool.{lt-ltb, le-ltb, le-leb, lt-leb}
use Rattle.std.proofs.lemmas.List.{take_more}
use Rattle.std.proofs.Math.Seq.{drop-cons}
use Rattle.vfm_record.specs.Record.{pairs_of, Pending}
use Rattle.vfm_record.proofs.Pairs.{length-pairs_of}
use Rattle.vfm_streams.specs.Judged.{number_after, pairs_fault}
use Rattle.vfm_load.specs.Stored.{StoredDevice, with_pairs, pairs_place, record_place}

-- the pair at a place, before those behind it
pub pair_first : (count i : ℕ) (bytes : List ℕ) (pair : ℕ × ℕ) → i < count → ((d : ℕ × ℕ) → get_or (pairs_of count bytes) i d ≡ pair)
    → drop i (pairs_of count bytes) ≡ pair ∷ drop (i + 1) (pairs_of count bytes)
pair_first count i bytes pair inside is =
    let long : length (pairs_of count bytes) ≡ count = length-pairs_of count bytes in
    let next : suc i ≡ i + 1 = omega arith in
    drop-cons (pairs_of count bytes) i pair (omega arith)
    ∙ ap (λ (p : ℕ × ℕ). p ∷ drop (suc i) (pairs_of count bytes)) (is pair)
    ∙ ap (λ (k : ℕ). pair ∷ drop k (pairs_of count bytes)) next

-- and behind those before it
pub pair_last : (count i : ℕ) (bytes : List ℕ) (pair : ℕ × ℕ) → i < count → ((d : ℕ × ℕ) → get_or (pairs_of count bytes) i d ≡ pair)
    → take (i + 1) (pairs_of count bytes) ≡ take i (pairs_of count bytes) ++ pair ∷ []
pair_last count i bytes pair inside is =
    let long : length (pairs_of count bytes) ≡ count = length-pairs_of count bytes in
    take_more (pairs_of count bytes) i pair (omega arith)
    ∙ ap (λ (p : ℕ × ℕ). take i (pairs_of count bytes) ++ p ∷ []) (is pair)

module _ (accepted jobs low i : ℕ) (pair : ℕ × ℕ) (rest : List (ℕ × ℕ)) where
  by_tests : (a b c : Bool) → nat_le low pair.0 ≡ a → nat_lt pair.0 accepted ≡ b → nat_lt pair.1 jobs ≡ c
      → pairs_fault accepted jobs low i (pair ∷ rest)
      ≡ (if not (a && b) then Some (3 + 8 * i) else (if not c then Some (7 + 8 * i) else pairs_fault accepted jobs (pair.0 + 1) (i + 1) rest))
  by_tests a b c is_a is_b is_c =
      ap (λ (x : Bool). if not (x && nat_lt pair.0 accepted) then Some (3 + 8 * i)
      else (if not (nat_lt pair.1 jobs) then Some (7 + 8 * i) else pairs_fault accepted jobs (pair.0 + 1) (i + 1) rest)) is_a
      ∙ ap (λ (x : Bool). if not (a && x) then Some (3 + 8 * i)
      else (if not (nat_lt pair.1 jobs) then Some (7 + 8 * i) else pairs_fault accepted jobs (pair.0 + 1) (i + 1) rest)) is_b
      ∙ ap (λ (x : Bool). if not (a && b) then Some (3 + 8 * i)
      else (if not x then Some (7 + 8 * i) else pairs_fault accepted jobs (pair.0 + 1) (i + 1) rest)) is_c

  pub number_low : pair.0 < low → pairs_fault accepted jobs low i (pair ∷ rest) ≡ Some (3 + 8 * i)
  number_low below = by_tests false (nat_lt pair.0 accepted) (nat_lt pair.1 jobs) (lt-leb low pair.0 below) refl refl

  pub number_high : low ≤ pair.0 → accepted ≤ pair.0 → pairs_fault accepted jobs low i (pair ∷ rest) ≡ Some (3 + 8 * i)
  number_high above past =
      by_tests true false (nat_lt pair.1 jobs) (le-leb low pair.0 above) (le-ltb pair.0 accepted past) refl

  pub job_high : low ≤ pair.0 → pair.0 < accepted → jobs ≤ pair.1 → pairs_fault accepted jobs low i (pair ∷ rest) ≡ Some (7 + 8 * i)
  job_high above below past =
      by_tests true true false (le-leb low pair.0 above) (lt-ltb pair.0 accepted below) (le-ltb pair.1 jobs past)

  pub pair_stands : low ≤ pair.0 → pair.0 < accepted → pair.1 < jobs
      → pairs_fault accepted jobs low i (pair ∷ rest) ≡ pairs_fault accepted jobs (pair.0 + 1) (i + 1) rest
  pair_stands above below there =
      by_tests true true true (le-leb low pair.0 above) (lt-ltb pair.0 accepted below) (lt-ltb pair.1 jobs there)

-- a device as it is seen, of which the parts are known; and pending requests that come behind its counts
module _ (jobs : ℕ) (pairs : List (ℕ × ℕ)) (parts stored : StoredDevice) (is : parts ≡ stored) (counted : parts.counted ≡ true) where
  behind_counts : record_place jobs parts (Pending pairs) ≡ pairs_place jobs parts pairs
  behind_counts = ap (λ (b : Bool). if b then pairs_place jobs parts pairs else Some 0) counted

  -- more come than are announced
  pub too_many : parts.pend < length parts.pending + length pairs → record_place jobs stored (Pending pairs) ≡ Some 1
  too_many many =
      subst (λ (s : StoredDevice). record_place jobs s (Pending pairs) ≡ Some 1) is
      (behind_counts
      ∙ ap (λ (b : Bool). if b then Some 1 else pairs_fault parts.accepted jobs parts.low 0 pairs) (lt-ltb parts.pend (length parts.pending + length pairs) many))

  module _ (few : length parts.pending + length pairs ≤ parts.pend) where
    announced : pairs_place jobs parts pairs ≡ pairs_fault parts.accepted jobs parts.low 0 pairs
    announced =
        ap (λ (b : Bool). if b then Some 1 else pairs_fault parts.accepted jobs parts.low 0 pairs) (le-ltb parts.pend (length parts.pending + length pairs) few)

    -- one of them is refused
    pub pair_refused : (place : ℕ) → pairs_fault parts.accepted jobs parts.low 0 pairs ≡ Some place → record_place jobs stored (Pending pairs) ≡ Some place
    pair_refused place refused =
        subst (λ (s : StoredDevice). record_place jobs s (Pending pairs) ≡ Some place) is (behind_counts ∙ announced ∙ refused)

    -- none of them is, and they were put behind the others
    pub pairs_taken : (after : StoredDevice) → after ≡ record parts { pending = after.pending; low = after.low; room = after.room }
        → after.pending ≡ parts.pending ++ pairs → after.low ≡ number_after parts.low pairs → after.room ≡ parts.room
        → pairs_fault parts.accepted jobs parts.low 0 pairs ≡ None
        → (stored.counted ≡ true) × (pairs_place jobs stored pairs ≡ None) × (after ≡ with_pairs pairs stored)
    pairs_taken after rest pending low room none =
        subst (λ (s : StoredDevice). (s.counted ≡ true) × (pairs_place jobs s pairs ≡ None) × (after ≡ with_pairs pairs s)) is (
          counted,
          announced ∙ none,
          rest
              ∙ ap (λ (xs : List (ℕ × ℕ)). record parts { pending = xs; low = after.low; room = after.room }) pending
              ∙ ap₂ (λ (n m : ℕ). record parts { pending = parts.pending ++ pairs; low = n; room = m }) low room,
        )
