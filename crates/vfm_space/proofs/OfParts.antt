-- What is written into BARs and read of them, as the entries make it of a device's part.
use Rattle.std.proofs.Common.{◌≡◌, ℕ, ◌+◌, ◌*◌, ◌<◌, ◌≤◌, ◌==◌, ◌&&◌, ◌||◌, not, Bool, true, false, nat_lt, if◌then◌else◌, List, refl, sym, ap, ◌∙◌, arith}
use Rattle.std.specs.Prelude.{IsTrue}
use Rattle.std.proofs.lemmas.Bool.{le-ltb, lt-ltb}
use Rattle.vfm_base.specs.PageSet.{contains_page, pages_where}
use Rattle.vfm_base.proofs.NumbersWhere.{contains-numbers_where_above}
use Rattle.vfm_types.specs.declared.desc.Desc.{Desc}
use Rattle.vfm_types.specs.declared.job.Job.{Job}
use Rattle.vfm_types.specs.Desc.{bar_bytes, block_count, device_count, shape_at}
use Rattle.vfm_types.specs.Job.{is_writer, length_of, place_of}
use Rattle.vfm_types.specs.Blocks.{writes_block}
use Rattle.vfm_types.specs.Valid.{IsValid, is_job_in_range}
use Rattle.vfm_types.proofs.BarSizes.{IsBarSize, all_bars}
use Rattle.vfm_plain.proofs.Sound.{some_bytes}
use Rattle.vfm_parts.specs.Parts.{Dev, numbers_below}
use Rattle.vfm_parts.specs.Fits.{DevFits, IsSetBelow}
use Rattle.vfm_parts.specs.BlockStep.{read_dev}
use Rattle.vfm_parts.specs.DeliverStep.{dirty_after_job}
use Rattle.vfm_parts.proofs.Sets.{below_same, pages_below}
use Rattle.vfm_space.specs.Blocks.{touches_block, with_marks, with_read}
use Rattle.vfm_space.specs.BlocksOfParts.{blocks_of, with_blocks, writes_bar}

-- the blocks of a device in a valid description
blocks_few : (D : Desc) (d : ℕ) → IsValid D → d < device_count D → block_count (shape_at D d) ≤ 1024
blocks_few D d valid inside =
    let size : IsBarSize (bar_bytes (shape_at D d)) = all_bars (shape_at D d) (valid.in_range.devices d inside).bars in
    let high = size.high in
    omega (arith, high)

blocks_whole : (D : Desc) (d : ℕ) → IsValid D → d < device_count D → 64 * block_count (shape_at D d) ≡ bar_bytes (shape_at D d)
blocks_whole D d valid inside =
    let size : IsBarSize (bar_bytes (shape_at D d)) = all_bars (shape_at D d) (valid.in_range.devices d inside).bars in
    let whole = size.whole in
    omega (arith, whole)

-- a set of numbers below n has none from n on
none_above : (n : ℕ) (set : List ℕ) → IsSetBelow n set → (q : ℕ) → n ≤ q → contains_page set q ≡ false
none_above n set fits q above =
    ap (λ (s : List ℕ). contains_page s q) fits ∙ contains-numbers_where_above (contains_page set) 0 n q (omega arith)

-- the same test in both forms
same_test : (held unread writes low high some : Bool) → writes ≡ true → some ≡ true
    → (held || ((some && low && high) && not unread)) ≡ ((not unread && (writes && low && high)) || held)
same_test held unread writes low high some is_writer is_some = grind arith

no_test : (held unread low high some : Bool) → held ≡ false → high ≡ false → (held || ((some && low && high) && not unread)) ≡ false
no_test held unread low high some none past = grind arith

pub written : (D : Desc) (t : ℕ) (job : Job) (dev : Dev) → IsValid D → t < device_count D → DevFits D t dev
    → IsTrue (is_job_in_range job) → (place_of D job).offset + length_of job ≤ bar_bytes (shape_at D t)
    → writes_bar D t job ≡ true → dev.logging ≡ true
    → dirty_after_job D t job dev ≡ (with_marks (place_of D job).offset (length_of job) (blocks_of dev)).dirty
written D t job dev valid inside fits in_range within writes logging =
    ap (λ (b : Bool). if b then numbers_below n after else dev.dirty) logging
    ∙ sym (pages_below n marked (blocks_few D t valid inside) past ∙ below_same n marked after same)
  where
    n : ℕ
    n = block_count (shape_at D t)

    offset : ℕ
    offset = (place_of D job).offset

    len : ℕ
    len = length_of job

    marked : ℕ → Bool
    marked b = contains_page dev.dirty b || (touches_block offset len b && not (contains_page dev.unread b))

    after : ℕ → Bool
    after b = (not (contains_page dev.unread b) && writes_block D t b job) || contains_page dev.dirty b

    some : nat_lt 0 len ≡ true
    some = lt-ltb 0 len ((some_bytes job in_range).0)

    same : (q : ℕ) → q < n → marked q ≡ after q
    same q low = same_test (contains_page dev.dirty q) (contains_page dev.unread q) (writes_bar D t job) (nat_lt offset (64 * (q + 1))) (nat_lt (64 * q) (offset + len)) (nat_lt 0 len) writes some

    past : (q : ℕ) → n ≤ q → marked q ≡ false
    past q above =
        no_test (contains_page dev.dirty q) (contains_page dev.unread q) (nat_lt offset (64 * (q + 1))) (nat_lt (64 * q) (offset + len)) (nat_lt 0 len)
        (none_above n dev.dirty fits.dirty q above) (beyond q above)
      where
        beyond : (q : ℕ) → block_count (shape_at D t) ≤ q → nat_lt (64 * q) ((place_of D job).offset + length_of job) ≡ false
        beyond q above = let whole = blocks_whole D t valid inside in le-ltb (64 * q) ((place_of D job).offset + length_of job) (omega (arith, whole, within))

-- the numbers of a set below n, by the test of its members
remade : (n : ℕ) (set : List ℕ) (test : ℕ → Bool) → IsSetBelow n set → ((q : ℕ) → q < n → test q ≡ contains_page set q) → numbers_below n test ≡ set
remade n set test fits same = below_same n test (contains_page set) same ∙ sym fits

none_written : (held unread writes low high : Bool) → writes ≡ false → ((not unread && (writes && low && high)) || held) ≡ held
none_written held unread writes low high none = grind arith

pub untouched : (D : Desc) (t : ℕ) (job : Job) (dev : Dev) → DevFits D t dev → writes_bar D t job ≡ false → dirty_after_job D t job dev ≡ dev.dirty
untouched D t job dev fits none = go dev.logging
  where
    n : ℕ
    n = block_count (shape_at D t)

    after : ℕ → Bool
    after b = (not (contains_page dev.unread b) && writes_block D t b job) || contains_page dev.dirty b

    go : (b : Bool) → (if b then numbers_below n after else dev.dirty) ≡ dev.dirty
    go true = remade n dev.dirty after fits.dirty (λ q low.
        none_written (contains_page dev.dirty q) (contains_page dev.unread q) (writes_bar D t job)
        (nat_lt (place_of D job).offset (64 * (q + 1))) (nat_lt (64 * q) ((place_of D job).offset + length_of job)) none)
    go false = refl

swapped : (held : Bool) (b c : ℕ) → (held && not (c == b)) ≡ (not (b == c) && held)
swapped held b c = grind arith

none_left : (held same : Bool) → held ≡ false → (held && not same) ≡ false
none_left held same none = grind arith

-- a set without one number, in both forms
without_block : (n b : ℕ) (set : List ℕ) → n ≤ 1024 → IsSetBelow n set
    → numbers_below n (λ c. not (b == c) && contains_page set c) ≡ pages_where (λ c. contains_page set c && not (c == b))
without_block n b set few fits =
    sym (pages_below n (λ c. contains_page set c && not (c == b)) few (λ q above. none_left (contains_page set q) (q == b) (none_above n set fits q above))
    ∙ below_same n (λ c. contains_page set c && not (c == b)) (λ c. not (b == c) && contains_page set c) (λ q low. swapped (contains_page set q) b q))

pub block_read : (D : Desc) (d b : ℕ) (dev : Dev) → IsValid D → d < device_count D → DevFits D d dev
    → read_dev D d b dev ≡ with_blocks (with_read b (blocks_of dev)) dev
block_read D d b dev valid inside fits =
    let n = block_count (shape_at D d) in
    ap (λ (u : List ℕ). record dev { unread = u; dirty = numbers_below n (λ c. not (b == c) && contains_page dev.dirty c) })
    (without_block n b dev.unread (blocks_few D d valid inside) fits.unread)
    ∙ ap (λ (x : List ℕ). record dev { unread = pages_where (λ c. contains_page dev.unread c && not (c == b)); dirty = x })
    (without_block n b dev.dirty (blocks_few D d valid inside) fits.dirty)
