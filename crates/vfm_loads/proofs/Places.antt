-- Where the jobs of a generated load are aimed.
use Rattle.std.proofs.Common.{◌≡◌, ℕ, ◌+◌, ◌*◌, ◌/◌, ◌%◌, ◌<◌, ◌≤◌, true, false, nat_le, Some, ap, ap₂, sym, ◌∙◌, subst, arith}
use Rattle.std.proofs.lemmas.Bool.{cond-true, cond-false, lt-ltb, le-leb, lt-leb, and_from, and_left}
use Rattle.vfm_types.specs.declared.job.Region.TheVariants.{Page, Bar}
use Rattle.vfm_types.specs.Desc.{device_count, shape_at, bar_size, bars_before}
use Rattle.vfm_types.specs.Region.{bar_base, device_stride, bar_owner, bar_number, bar_offset, is_in_page, is_in_bar, offset_in_bars, region_of}
use Rattle.vfm_loads.specs.Generated.{generated}
use Rattle.vfm_loads.proofs.Parts.{page_size, page_count, devices_are, bar_is}

-- bytes that lie in a page
module _ (N q offset len : ℕ) (page : q < 256) (within : offset + len ≤ 4096) (some : 1 ≤ len) where
  abbrev page_address : ℕ
  page_address = q * 4096 + offset

  page_is : page_address / (generated N).page ≡ q
  page_is = ap (λ (size : ℕ). page_address / size) (page_size N) ∙ omega arith

  page_offset_is : page_address % (generated N).page ≡ offset
  page_offset_is = ap (λ (size : ℕ). page_address % size) (page_size N) ∙ omega arith

  inside : is_in_page (generated N) page_address len ≡ true
  inside =
      let low : page_address + len ≤ (generated N).page * (generated N).pages =
      subst (λ (all : ℕ). page_address + len ≤ all) (sym (ap₂ (λ (a b : ℕ). a * b) (page_size N) (page_count N))) (omega arith) in
      let high : page_address % (generated N).page + len ≤ (generated N).page =
      subst (λ (o : ℕ). o + len ≤ (generated N).page) (sym page_offset_is) (subst (λ (size : ℕ). offset + len ≤ size) (sym (page_size N)) within) in
      and_from _ _ (le-leb _ _ low) (le-leb _ _ high)

  pub page_place : region_of (generated N) (q * 4096 + offset) len ≡ Some (record { region = Page q; offset = offset })
  page_place =
      cond-true (is_in_page (generated N) page_address len) _ _ inside
      ∙ ap₂ (λ (p o : ℕ). Some (record { region = Page p; offset = o })) page_is page_offset_is

-- bytes that lie in the BAR of a device
module _ (N e offset len : ℕ) (device : e < 8) (within : offset + len ≤ 4096) where
  abbrev bar_address : ℕ
  bar_address = bar_base + device_stride * e + offset

  owner_is : bar_owner bar_address ≡ e
  owner_is = omega arith

  number_is : bar_number bar_address ≡ 0
  number_is = omega arith

  bar_offset_is : bar_offset bar_address ≡ offset
  bar_offset_is = omega arith

  before : offset_in_bars (generated N) bar_address ≡ bar_offset bar_address
  before =
      ap (λ (b : ℕ). bars_before (shape_at (generated N) (bar_owner bar_address)) b + bar_offset bar_address) number_is ∙ omega arith

  outside : is_in_page (generated N) bar_address len ≡ false
  outside =
      and_left _ _ (ap (λ (all : ℕ). nat_le (bar_address + len) all) (ap₂ (λ (a b : ℕ). a * b) (page_size N) (page_count N)) ∙ lt-leb _ _ (omega arith))

  size_is : bar_size (shape_at (generated N) (bar_owner bar_address)) (bar_number bar_address) ≡ 4096
  size_is = ap₂ (λ (o b : ℕ). bar_size (shape_at (generated N) o) b) owner_is number_is ∙ bar_is N e device

  in_bar : is_in_bar (generated N) bar_address len ≡ true
  in_bar =
      let owned : bar_owner bar_address < device_count (generated N) =
      subst (λ (o : ℕ). o < device_count (generated N)) (sym owner_is) (subst (λ (n : ℕ). e < n) (sym (devices_are N)) device) in
      let fits : bar_offset bar_address + len ≤ bar_size (shape_at (generated N) (bar_owner bar_address)) (bar_number bar_address) =
      subst (λ (size : ℕ). bar_offset bar_address + len ≤ size) (sym size_is) (subst (λ (o : ℕ). o + len ≤ 4096) (sym bar_offset_is) within) in
      and_from _ _ (and_from _ _ (le-leb _ _ (omega arith)) (lt-ltb _ _ owned)) (le-leb _ _ fits)

  pub bar_place : region_of (generated N) (bar_base + device_stride * e + offset) len ≡ Some (record { region = Bar e; offset = offset })
  bar_place =
      cond-false (is_in_page (generated N) bar_address len) _ _ outside
      ∙ cond-true (is_in_bar (generated N) bar_address len) _ _ in_bar
      ∙ ap₂ (λ (p o : ℕ). Some (record { region = Bar p; offset = o })) owner_is (before ∙ bar_offset_is)
