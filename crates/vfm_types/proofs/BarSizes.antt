-- The sizes of a device's BARs: each lies within all of them, and together they are a size that one BAR alone may have.
use Rattle.std.proofs.Common.{◌≡◌, ℕ, ◌+◌, ◌%◌, ◌<◌, ◌≤◌, ◌==◌, ◌&&◌, Bool, true, nat_le, List, [], ◌∷◌, length, take, get_or, refl, ◌⊎◌, inl, inr, IsTrue, leb-true, le-leb, eqb-true, eq-eqb, arith}
use Rattle.std.specs.Prelude.{sum}
use Rattle.std.specs.List.{list_all}
use Rattle.std.proofs.lemmas.Bool.{and_parts, cases_lt}
use Rattle.std.proofs.lemmas.List.{get_or_past}
use Rattle.std.proofs.lemmas.List.Sums.{sum_by_more_le, sum_by-take-le, sum_by-cons}
use Rattle.vfm_types.specs.declared.fault.FieldName.TheVariants.{Bar}
use Rattle.vfm_types.specs.declared.desc.DevShape.{DevShape}
use Rattle.vfm_types.specs.Ranges.{takes, most_bars, are_bar_sizes}
use Rattle.vfm_types.specs.Desc.{bar_bytes, bar_size, bars_before}

-- a BAR lies within the bytes of all of them
pub bar_within : (shape : DevShape) (b : ℕ) → bars_before shape b + bar_size shape b ≤ bar_bytes shape
bar_within shape b = at (cases_lt b (length shape.bars))
  where
    at : (b < length shape.bars) ⊎ (length shape.bars ≤ b) → bars_before shape b + bar_size shape b ≤ bar_bytes shape
    at (inl h) = sum_by_more_le (λ (x : ℕ). x) shape.bars b 0 h
    at (inr h) = omega (arith, sum_by-take-le (λ (x : ℕ). x) shape.bars b, get_or_past shape.bars b 0 h)

-- what a size in its range is
pub record IsBarSize (size : ℕ) : Type 0 where
  pub low : 64 ≤ size
  pub high : size ≤ 65536
  pub whole : size % 64 ≡ 0

pub size_of_test : (size : ℕ) → IsTrue (takes Bar size) → IsBarSize size
size_of_test size is =
    let parts = and_parts (nat_le 64 size && nat_le size 65536) (size % 64 == 0) is in
    let range = and_parts (nat_le 64 size) (nat_le size 65536) parts.0 in
    record { low = leb-true _ _ range.0; high = leb-true _ _ range.1; whole = eqb-true _ _ parts.1 }

-- whole blocks add up to whole blocks
whole_blocks : (sizes : List ℕ) → IsTrue (list_all (takes Bar) sizes) → sum sizes % 64 ≡ 0
whole_blocks [] all = refl
whole_blocks (size ∷ sizes) all =
    let parts = and_parts (takes Bar size) (list_all (takes Bar) sizes) all in
    let first : size % 64 ≡ 0 = (size_of_test size parts.0).whole in
    let rest : sum sizes % 64 ≡ 0 = whole_blocks sizes parts.1 in
    omega (arith, first, rest, sum_by-cons (λ (x : ℕ). x) size sizes)

some_bytes : (sizes : List ℕ) → 1 ≤ length sizes → IsTrue (list_all (takes Bar) sizes) → 64 ≤ sum sizes
some_bytes [] some all = absurd (omega arith)
some_bytes (size ∷ sizes) some all =
    let first : 64 ≤ size = (size_of_test size (and_parts (takes Bar size) (list_all (takes Bar) sizes) all).0).low in
    omega (arith, first, sum_by-cons (λ (x : ℕ). x) size sizes)

-- together they are a size that one alone may have
pub all_bars : (shape : DevShape) → IsTrue (are_bar_sizes shape.bars) → IsBarSize (bar_bytes shape)
all_bars shape is =
    let sizes = shape.bars in
    let sum_test = and_parts (nat_le 1 (length sizes) && nat_le (length sizes) most_bars && list_all (takes Bar) sizes) (nat_le (sum sizes) 65536) is in
    let each = and_parts (nat_le 1 (length sizes) && nat_le (length sizes) most_bars) (list_all (takes Bar) sizes) sum_test.0 in
    let some = and_parts (nat_le 1 (length sizes)) (nat_le (length sizes) most_bars) each.0 in
    record {
      low = some_bytes sizes (leb-true _ _ some.0) each.1;
      high = leb-true _ _ sum_test.1;
      whole = whole_blocks sizes each.1;
    }
