-- A device that is stored keeps its sizes, and goes on to be what its records say.
use Rattle.std.proofs.Common.{◌≡◌, ℕ, ◌+◌, ◌*◌, ◌<◌, ◌≤◌, ◌==◌, ◌&&◌, not, Bool, true, false, if◌then◌else◌, List, [], ◌∷◌, ◌++◌, length, take, drop, Option, Some, None, refl, ap, sym, ◌∙◌, subst, arith, ⊎_elim, eq-eqb, length-append}
use Rattle.std.specs.Prelude.{All, Result, Ok, Err, MatchResult, nat_lt, nat_le}
use Rattle.std.proofs.lemmas.Bool.{cases_eq, ne_eqb, ltb-true, ltb-false, leb-true}
use Rattle.std.proofs.lemmas.Option.{none-some}
use Rattle.std.proofs.lemmas.List.Elements.{All-nil, All-cons, All-append}
use Rattle.vfm_base.specs.PageSet.{contains_page}
use Rattle.vfm_types.specs.declared.desc.DevShape.{DevShape}
use Rattle.vfm_types.specs.Machine.{splice}
use Rattle.vfm_plain.proofs.Steps.{length-splice}
use Rattle.vfm_laws.specs.Queues.{IsRising}
use Rattle.vfm_laws.proofs.Rising.{rising_from}
use Rattle.vfm_record.specs.Record.{Record, Block, Engine, Pending}
use Rattle.vfm_streams.specs.Loaded.{last_block}
use Rattle.vfm_streams.specs.Judged.{number_after, pairs_fault}
use Rattle.vfm_load.specs.Stored.{StoredDevice, TakesBlock, stored_block, with_counts, with_pairs, pairs_place, FitsDevice, HoldsDevice}
use Rattle.vfm_load.proofs.BlockLemmas.{block_here, block_away}

-- ---- a block

module _ (shape : DevShape) (b : ℕ) (bytes : List ℕ) (before after : StoredDevice) (takes : TakesBlock b bytes before after)
    (size : length bytes ≡ 64) (within : 64 * b + 64 ≤ length before.bar) where
  abbrev put : StoredDevice
  put = record before { bar = splice before.bar (64 * b) bytes; missing = after.missing }

  same_length : length (splice before.bar (64 * b) bytes) ≡ length before.bar
  same_length = length-splice before.bar (64 * b) bytes (omega arith)

  pub block_fits : FitsDevice shape before → FitsDevice shape after
  block_fits fits =
      subst (FitsDevice shape) (sym takes.bar)
      (record {
        bar = same_length ∙ fits.bar;
        blocks = same_length ∙ fits.blocks;
        missing = λ c above. takes.missing c ∙ ap (λ (x : Bool). x && not (c == b)) (fits.missing c above);
        buf = fits.buf;
        sum = fits.sum;
        within = fits.within;
        lost = fits.lost;
        jobs = fits.jobs;
        rising = fits.rising;
        low = fits.low;
        few = fits.few;
        room = fits.room;
        uncounted = fits.uncounted;
      })

  missing_here : contains_page after.missing b ≡ false
  missing_here =
      takes.missing b ∙ ap (λ (x : Bool). contains_page before.missing b && not x) (eq-eqb b b refl) ∙ and_false (contains_page before.missing b)
    where
      and_false : (x : Bool) → (x && false) ≡ false
      and_false true = refl
      and_false false = refl

  missing_at : (c : ℕ) → (c ≡ b → ⊥) → contains_page after.missing c ≡ contains_page before.missing c
  missing_at c other =
      takes.missing c ∙ ap (λ (x : Bool). contains_page before.missing c && not x) (ne_eqb c b other) ∙ and_true (contains_page before.missing c)
    where
      and_true : (x : Bool) → (x && true) ≡ x
      and_true true = refl
      and_true false = refl

  here : (records : List Record) → (if b == b then Some bytes else last_block b records) ≡ stored_block put b
  here records =
      ap (λ (x : Bool). if x then Some bytes else last_block b records) (eq-eqb b b refl)
      ∙ ap (λ (xs : List ℕ). Some xs) (sym (block_here before.bar b bytes size within))
      ∙ sym (ap (λ (x : Bool). if x then None else Some (take 64 (drop (64 * b) (splice before.bar (64 * b) bytes)))) missing_here)

  away : (records : List Record) (c : ℕ) → (b ≡ c → ⊥) → last_block c records ≡ stored_block before c
      → (if b == c then Some bytes else last_block c records) ≡ stored_block put c
  away records c other is =
      ap (λ (x : Bool). if x then Some bytes else last_block c records) (ne_eqb b c other)
      ∙ is
      ∙ ap (λ (xs : List ℕ). if contains_page before.missing c then None else Some xs) (sym (block_away before.bar b c bytes size within other))
      ∙ sym (ap (λ (x : Bool). if x then None else Some (take 64 (drop (64 * c) (splice before.bar (64 * b) bytes)))) (missing_at c (λ same. other (sym same))))

  pub block_holds : (records : List Record) → HoldsDevice shape records before → HoldsDevice shape (Block b bytes ∷ records) after
  block_holds records holds =
      subst (HoldsDevice shape (Block b bytes ∷ records)) (sym takes.bar)
      (record {
        blocks = λ c inside.
            ⊎_elim (λ (same : b ≡ c). subst (λ (k : ℕ). (if b == k then Some bytes else last_block k records) ≡ stored_block put k) same (here records))
            (λ (other : b ≡ c → ⊥). away records c other (holds.blocks c inside)) (cases_eq b c);
        counted = holds.counted;
        engine = holds.engine;
        pend = holds.pend;
        pairs = holds.pairs;
        low = holds.low;
      })

-- ---- the counts

pub counts_hold : (shape : DevShape) (records : List Record) (accepted done lost pend : ℕ) (buf : List ℕ) (before after : StoredDevice)
    → after ≡ with_counts accepted done lost pend buf before → HoldsDevice shape records before
    → HoldsDevice shape (Engine accepted done lost pend buf ∷ records) after
counts_hold shape records accepted done lost pend buf before after is holds =
    subst (HoldsDevice shape (Engine accepted done lost pend buf ∷ records)) (sym is)
    (record {
      blocks = holds.blocks;
      counted = refl;
      engine = λ yes_. refl;
      pend = refl;
      pairs = holds.pairs;
      low = holds.low;
    })

-- ---- pending requests

number_after-append : (low : ℕ) (front back : List (ℕ × ℕ)) → number_after low (front ++ back) ≡ number_after (number_after low front) back
number_after-append low [] back = refl
number_after-append low (r ∷ front) back = number_after-append (r.0 + 1) front back

rising_append : (low mid high : ℕ) (front back : List (ℕ × ℕ)) → IsRising low front mid → IsRising mid back high → IsRising low (front ++ back) high
rising_append low mid high [] back first then_ = rising_from low mid back high first then_
rising_append low mid high (r ∷ front) back first then_ = (first.0, rising_append (r.0 + 1) mid high front back first.1 then_)

-- pending requests that are refused nowhere
record Stand (accepted jobs low : ℕ) (pairs : List (ℕ × ℕ)) : Type 0 where
  rising : IsRising low pairs (number_after low pairs)
  bounded : number_after low pairs ≤ accepted
  known : All (λ (request : ℕ × ℕ). request.1 < jobs) pairs

test_parts : (a b c : Bool) (x y : ℕ) (o : Option ℕ) → (if not (a && b) then Some x else (if not c then Some y else o)) ≡ None
    → (a ≡ true) × (b ≡ true) × (c ≡ true) × (o ≡ None)
test_parts true true true x y o none = (refl, refl, refl, none)
test_parts true true false x y o none = let clash : Some y ≡ None = none in absurd cc
test_parts true false c x y o none = let clash : Some x ≡ None = none in absurd cc
test_parts false b c x y o none = let clash : Some x ≡ None = none in absurd cc

stand : (accepted jobs low i : ℕ) (pairs : List (ℕ × ℕ)) → low ≤ accepted → pairs_fault accepted jobs low i pairs ≡ None → Stand accepted jobs low pairs
stand accepted jobs low i [] few none = record { rising = omega arith; bounded = few; known = All-nil (λ (request : ℕ × ℕ). request.1 < jobs) }
stand accepted jobs low i (r ∷ pairs) few none =
    let parts = test_parts (nat_le low r.0) (nat_lt r.0 accepted) (nat_lt r.1 jobs) (3 + 8 * i) (7 + 8 * i)
    (pairs_fault accepted jobs (r.0 + 1) (i + 1) pairs) none in
    let low_ : low ≤ r.0 = leb-true low r.0 parts.0 in
    let high_ : r.0 < accepted = ltb-true r.0 accepted parts.1 in
    let rest = stand accepted jobs (r.0 + 1) (i + 1) pairs (omega arith) parts.3 in
    record { rising = (low_, rest.rising); bounded = rest.bounded; known = All-cons (λ (request : ℕ × ℕ). request.1 < jobs) r pairs (ltb-true r.1 jobs parts.2) rest.known }

pub pairs_fit : (shape : DevShape) (stored : StoredDevice) (pairs : List (ℕ × ℕ)) → length stored.pending + length pairs ≤ stored.pend
    → pairs_fault stored.accepted (length shape.jobs) stored.low 0 pairs ≡ None → stored.counted ≡ true → FitsDevice shape stored
    → FitsDevice shape (with_pairs pairs stored)
pairs_fit shape stored pairs few none counted fits =
    let all = stand stored.accepted (length shape.jobs) stored.low 0 pairs fits.low none in
    let clash : stored.counted ≡ false → stored.accepted ≡ 0 = λ not_. fits.uncounted not_ in
    record {
      bar = fits.bar;
      blocks = fits.blocks;
      missing = fits.missing;
      buf = fits.buf;
      sum = fits.sum;
      within = fits.within;
      lost = fits.lost;
      jobs = All-append (λ (request : ℕ × ℕ). request.1 < length shape.jobs) stored.pending pairs fits.jobs all.known;
      rising = rising_append 0 stored.low (number_after stored.low pairs) stored.pending pairs fits.rising all.rising;
      low = all.bounded;
      few = omega (arith, length-append stored.pending pairs);
      room = fits.room;
      uncounted = clash;
    }

pub pairs_hold : (shape : DevShape) (records : List Record) (pairs : List (ℕ × ℕ)) (before after : StoredDevice) → after ≡ with_pairs pairs before
    → HoldsDevice shape records before → HoldsDevice shape (Pending pairs ∷ records) after
pairs_hold shape records pairs before after is holds =
    subst (HoldsDevice shape (Pending pairs ∷ records)) (sym is)
    (record {
      blocks = holds.blocks;
      counted = holds.counted;
      engine = holds.engine;
      pend = holds.pend;
      pairs = ap (λ (xs : List (ℕ × ℕ)). xs ++ pairs) holds.pairs;
      low = number_after-append 0 before.pending pairs ∙ ap (λ (n : ℕ). number_after n pairs) holds.low;
    })

-- ---- what a call answered

-- a block was put in, or nothing was changed
pub block_fits_either : (shape : DevShape) (b : ℕ) (bytes : List ℕ) (before after : StoredDevice) (r : Result (Unit {0}) ℕ)
    → MatchResult r (λ _. (before.counted ≡ false) × TakesBlock b bytes before after) (λ place. (before.counted ≡ true) × (place ≡ 0) × (after ≡ before))
    → length bytes ≡ 64 → 64 * b + 64 ≤ length before.bar → FitsDevice shape before → FitsDevice shape after
block_fits_either shape b bytes before after (Ok done) is size within fits = block_fits shape b bytes before after is.1 size within fits
block_fits_either shape b bytes before after (Err place) is size within fits = subst (FitsDevice shape) (sym is.2) fits

-- pending requests were put in, or nothing was changed
pub pairs_fit_either : (shape : DevShape) (jobs : ℕ) (pairs : List (ℕ × ℕ)) (before after : StoredDevice) (r : Result (Unit {0}) ℕ) (refused : ℕ → Type 0)
    → jobs ≡ length shape.jobs
    → MatchResult r
    (λ _. (before.counted ≡ true) × (pairs_place jobs before pairs ≡ None) × (after ≡ with_pairs pairs before))
    (λ place. refused place × (after ≡ before))
    → FitsDevice shape before → FitsDevice shape after
pairs_fit_either shape jobs pairs before after (Ok done) refused jobs_are is fits =
    let parts = place_parts (nat_lt before.pend (length before.pending + length pairs)) (pairs_fault before.accepted jobs before.low 0 pairs) is.1 in
    subst (FitsDevice shape) (sym is.2)
    (pairs_fit shape before pairs (ltb-false before.pend (length before.pending + length pairs) parts.0)
    (ap (λ (n : ℕ). pairs_fault before.accepted n before.low 0 pairs) (sym jobs_are) ∙ parts.1) is.0 fits)
  where
    place_parts : (many : Bool) (o : Option ℕ) → (if many then Some 1 else o) ≡ None → (many ≡ false) × (o ≡ None)
    place_parts true o none = absurd (none-some 1 (sym none))
    place_parts false o none = (refl, none)
pairs_fit_either shape jobs pairs before after (Err place) refused jobs_are is fits = subst (FitsDevice shape) (sym is.1) fits
