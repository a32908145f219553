-- How often pages are copied and blocks read: at most once in each pass.
use Rattle.std.proofs.Common.{◌≡◌, ℕ, ◌+◌, ◌*◌, ◌<◌, ◌≤◌, ◌==◌, Bool, true, false, not, ◌&&◌, ◌||◌, if◌then◌else◌, List, [], ◌∷◌, nat_lt, refl, ap, sym, subst, arith, eqb-true, eq-eqb, ltb-true, mul-le-mul_right}
use Rattle.std.proofs.lemmas.Bool.{and_parts, and_right, ne_eqb, false≢true}
use Rattle.vfm_types.specs.declared.desc.Desc.{Desc}
use Rattle.vfm_types.specs.declared.entry.Entry.{Entry}
use Rattle.vfm_types.specs.declared.entry.Entry.TheVariants.{Pass, Copy, Block}
use Rattle.vfm_types.specs.Desc.{device_count, shape_at, block_count}
use Rattle.vfm_types.specs.Phases.{pass_count}
use Rattle.vfm_types.specs.Marks.{is_in_set, is_copied, set_size}
use Rattle.vfm_types.specs.Blocks.{takes_part, blocks_read, was_dry, has_part}
use Rattle.vfm_base.specs.Least.{count_below}
use Rattle.vfm_plain.specs.Legal.{IsLegal}
use Rattle.vfm_laws.proofs.Rising.{by_bool}
use Rattle.vfm_copying.specs.Counts.{copy_count, pages_copied, reading_count}
use Rattle.vfm_laws.proofs.Counts.{passes_in_all}
use Rattle.vfm_copying.specs.Stale.{is_left_to_copy, is_block_stale}
use Rattle.vfm_copying.proofs.LastBlocks.{next_stale}
use Rattle.vfm_copying.proofs.Tests.{least_passes, count_within, count_same, count_zero, count_cleared}
use Rattle.vfm_copying.proofs.Conditions.{copy_parts, block_parts}

-- the sums of one reading more, and of one pass more
one_more : (reading newest n total : ℕ) → reading + n ≤ total + newest → newest < n → reading + 1 ≤ total
one_more reading newest n total before room = omega arith

no_more : (reading total : ℕ) → reading ≤ total → reading + 0 ≤ total
no_more reading total all = omega arith

below_more : (newest n : ℕ) → newest < n → newest + 1 ≤ n
below_more newest n room = omega arith

both_more : (reading newest n total more : ℕ) → reading + n ≤ total + newest → reading + more + n ≤ total + (newest + more)
both_more reading newest n total more before = omega arith

times_more : (passes n : ℕ) → (passes + 1) * n ≡ passes * n + n
times_more passes n = grind arith

in_next : (reading passes n : ℕ) → reading ≤ passes * n → reading ≤ (passes + 1) * n
in_next reading passes n all = let more : (passes + 1) * n ≡ passes * n + n = times_more passes n in omega arith

at_next : (reading passes n : ℕ) → reading ≤ passes * n → reading + n ≤ (passes + 1) * n + 0
at_next reading passes n all = let more : (passes + 1) * n ≡ passes * n + n = times_more passes n in omega arith

-- pages of the newest pass that are left
abbrev pages_left : Desc → List Entry → ℕ
pages_left D past = count_below D.pages (λ q. is_left_to_copy D q past)

copy_clears : (D : Desc) (past : List Entry) (p : ℕ) → IsLegal D (Copy p ∷ past) → pages_left D past ≡ pages_left D (Copy p ∷ past) + 1
copy_clears D past p legal =
    let least = least_passes D.pages (λ q. is_left_to_copy D q past) p (copy_parts D past p legal.1).next in
    count_cleared D.pages (λ q. is_left_to_copy D q past) (λ q. is_left_to_copy D q (Copy p ∷ past)) p least.1 least.0
    (and_right (is_in_set D p past) (not (p == p || is_copied p past)) (ap (λ (b : Bool). not (b || is_copied p past)) (eq-eqb p p refl)))
    (λ k other. sym (ap (λ (b : Bool). is_in_set D k past && not (b || is_copied k past)) (ne_eqb p k (λ same. other (sym same)))))

and_true : (b : Bool) → (b && true) ≡ b
and_true true = refl
and_true false = refl

-- what was copied in the newest pass and what is left are its set
pub copied_and_left : (D : Desc) (past : List Entry) → IsLegal D past → pages_copied past + pages_left D past ≡ set_size D past
copied_and_left D [] legal = omega arith
copied_and_left D (Pass k ∷ past) legal =
    let same : pages_left D (Pass k ∷ past) ≡ set_size D (Pass k ∷ past) =
    count_same D.pages (λ q. is_left_to_copy D q (Pass k ∷ past)) (λ q. is_in_set D q (Pass k ∷ past)) (λ q inside. and_true (is_in_set D q (Pass k ∷ past))) in
    omega arith
copied_and_left D (Copy p ∷ past) legal =
    let before : pages_copied past + pages_left D past ≡ set_size D past = copied_and_left D past legal.2 in
    let cleared : pages_left D past ≡ pages_left D (Copy p ∷ past) + 1 = copy_clears D past p legal in omega arith
copied_and_left D (entry ∷ past) legal = copied_and_left D past legal.2

-- no more pages are copied in a pass than its set has
pub few_in_pass : (D : Desc) (past : List Entry) → IsLegal D past → pages_copied past ≤ set_size D past
few_in_pass D past legal = let sum : pages_copied past + pages_left D past ≡ set_size D past = copied_and_left D past legal in omega arith

copies_and_left : (D : Desc) (past : List Entry) → IsLegal D past → copy_count past + pages_left D past ≤ pass_count past * D.pages
copies_and_left D [] legal =
    let none : pages_left D [] ≡ 0 = count_zero D.pages (λ q. is_left_to_copy D q []) (λ q inside. refl) in omega arith
copies_and_left D (Pass k ∷ past) legal =
    let before : copy_count past + pages_left D past ≤ pass_count past * D.pages = copies_and_left D past legal.2 in
    let within : pages_left D (Pass k ∷ past) ≤ D.pages = count_within D.pages (λ q. is_left_to_copy D q (Pass k ∷ past)) in
    let next : (pass_count past + 1) * D.pages ≡ pass_count past * D.pages + D.pages = times_more (pass_count past) D.pages in omega arith
copies_and_left D (Copy p ∷ past) legal =
    let before : copy_count past + pages_left D past ≤ pass_count past * D.pages = copies_and_left D past legal.2 in
    let cleared : pages_left D past ≡ pages_left D (Copy p ∷ past) + 1 = copy_clears D past p legal in omega arith
copies_and_left D (entry ∷ past) legal = copies_and_left D past legal.2

pub few_copies : (D : Desc) (past : List Entry) → IsLegal D past → copy_count past ≤ pass_count past * D.pages
few_copies D past legal = let sum : copy_count past + pages_left D past ≤ pass_count past * D.pages = copies_and_left D past legal in omega arith

-- ---- blocks

-- a device takes part only once a pass has begun
part_begun : (past : List Entry) (d : ℕ) → takes_part d past ≡ true → 0 < pass_count past
part_begun [] d part = absurd (false≢true part)
part_begun (Pass k ∷ past) d part = omega arith
part_begun (entry ∷ past) d part = part_begun past d part

-- a block is read only of a device whose part hasn't ended
record HasPart (D : Desc) (d : ℕ) (past : List Entry) : Type 0 where
  room : blocks_read d past < block_count (shape_at D d)
  begun : 0 < pass_count past

part_of : (D : Desc) (past : List Entry) (d b : ℕ) → IsLegal D (Block d b ∷ past) → HasPart D d past
part_of D past d b legal =
    let least = least_passes (device_count D) (λ k. has_part D k past) d (block_parts D past d b legal.1).part in
    let all = and_parts (takes_part d past && not (was_dry d past)) (nat_lt (blocks_read d past) (block_count (shape_at D d))) least.0 in
    record {
      room = ltb-true (blocks_read d past) (block_count (shape_at D d)) all.1;
      begun = part_begun past d (and_parts (takes_part d past) (not (was_dry d past)) all.0).0;
    }

-- the readings of all passes, of the newest, and of those before it
record FewReadings (D : Desc) (d : ℕ) (past : List Entry) (n : ℕ) : Type 0 where
  all : reading_count d past ≤ pass_count past * n
  newest : blocks_read d past ≤ n
  before : 0 < pass_count past → reading_count d past + n ≤ pass_count past * n + blocks_read d past

few_block : (D : Desc) (past : List Entry) (e b d : ℕ) → IsLegal D (Block e b ∷ past) → FewReadings D d past (block_count (shape_at D d))
    → FewReadings D d (Block e b ∷ past) (block_count (shape_at D d))
few_block D past e b d legal few =
    record {
      all =
          by_bool (e == d) (λ x. (e == d) ≡ x → reading_count d past + (if x then 1 else 0) ≤ pass_count past * block_count (shape_at D d))
          (λ same f. let part = here (eqb-true e d same) in
          one_more (reading_count d past) (blocks_read d past) (block_count (shape_at D d)) (pass_count past * block_count (shape_at D d)) (few.before part.begun) part.room)
          (λ other f. no_more (reading_count d past) (pass_count past * block_count (shape_at D d)) few.all) refl;
      newest =
          by_bool (e == d) (λ x. (e == d) ≡ x → blocks_read d past + (if x then 1 else 0) ≤ block_count (shape_at D d))
          (λ same f. below_more (blocks_read d past) (block_count (shape_at D d)) (here (eqb-true e d same)).room)
          (λ other f. no_more (blocks_read d past) (block_count (shape_at D d)) few.newest) refl;
      before = λ begun.
          both_more (reading_count d past) (blocks_read d past) (block_count (shape_at D d)) (pass_count past * block_count (shape_at D d)) (if e == d then 1 else 0) (few.before begun);
    }
  where
    here : e ≡ d → HasPart D d past
    here same = part_of D past d b (subst (λ (k : ℕ). IsLegal D (Block k b ∷ past)) same legal)

few_pass : (D : Desc) (past : List Entry) (k d : ℕ) → FewReadings D d past (block_count (shape_at D d)) → FewReadings D d (Pass k ∷ past) (block_count (shape_at D d))
few_pass D past k d few =
    record {
      all = in_next (reading_count d past) (pass_count past) (block_count (shape_at D d)) few.all;
      newest = omega arith;
      before = λ begun. at_next (reading_count d past) (pass_count past) (block_count (shape_at D d)) few.all;
    }

few_readings_of : (D : Desc) (past : List Entry) → IsLegal D past → (d : ℕ) → FewReadings D d past (block_count (shape_at D d))
few_readings_of D [] legal d = record { all = omega arith; newest = omega arith; before = λ begun. absurd (omega arith) }
few_readings_of D (Pass k ∷ past) legal d = few_pass D past k d (few_readings_of D past legal.2 d)
few_readings_of D (Block e b ∷ past) legal d = few_block D past e b d legal (few_readings_of D past legal.2 d)
few_readings_of D (entry ∷ past) legal d =
    let few = few_readings_of D past legal.2 d in record { all = few.all; newest = few.newest; before = few.before }

-- no more blocks of a device are read in a pass than its BARs have
pub few_blocks_in_pass : (D : Desc) (past : List Entry) (d : ℕ) → IsLegal D past → blocks_read d past ≤ block_count (shape_at D d)
few_blocks_in_pass D past d legal = (few_readings_of D past legal d).newest

pub few_readings : (D : Desc) (past : List Entry) (d : ℕ) → IsLegal D past → reading_count d past ≤ pass_count past * block_count (shape_at D d)
few_readings D past d legal = (few_readings_of D past legal d).all

-- ---- as the laws have it

pub copy_left : (D : Desc) (past : List Entry) (p : ℕ) → IsLegal D (Copy p ∷ past) → is_left_to_copy D p past ≡ true
copy_left D past p legal = (least_passes D.pages (λ q. is_left_to_copy D q past) p (copy_parts D past p legal.1).next).0

pub reading_stale : (D : Desc) (past : List Entry) (d b : ℕ) → IsLegal D (Block d b ∷ past) → is_block_stale D d b past ≡ true
reading_stale D past d b legal = (next_stale D past d b (block_parts D past d b legal.1).next).0

within_most : (count passes rounds n : ℕ) → count ≤ passes * n → passes ≤ rounds + 1 → count ≤ (rounds + 1) * n
within_most count passes rounds n all few =
    let more : passes * n ≤ (rounds + 1) * n = mul-le-mul_right n few in omega arith

pub most_copies : (D : Desc) (past : List Entry) → IsLegal D past → copy_count past ≤ (D.rounds + 1) * D.pages
most_copies D past legal = within_most (copy_count past) (pass_count past) D.rounds D.pages (few_copies D past legal) (passes_in_all D past legal)

pub most_readings : (D : Desc) (past : List Entry) (d : ℕ) → IsLegal D past → reading_count d past ≤ (D.rounds + 1) * block_count (shape_at D d)
most_readings D past d legal =
    within_most (reading_count d past) (pass_count past) D.rounds (block_count (shape_at D d)) (few_readings D past d legal) (passes_in_all D past legal)
