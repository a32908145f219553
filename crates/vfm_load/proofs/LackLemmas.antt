-- What a device that is stored lacks at the end.
use Rattle.std.proofs.Common.{◌≡◌, ℕ, zero, suc, ◌+◌, ◌*◌, ◌<◌, ◌≤◌, ◌==◌, ◌&&◌, Bool, true, false, if◌then◌else◌, List, [], length, take, drop, Option, Some, None, refl, ap, ap₂, sym, ◌∙◌, arith, eq-eqb, ne_eqb}
use Rattle.std.specs.Prelude.{IfSome, IfNone, IsTrue, is_none, unwrap_or}
use Rattle.std.specs.List.{flat_map, range_with_len}
use Rattle.std.specs.Option.{option_or}
use Rattle.vfm_base.specs.Least.{least_below}
use Rattle.vfm_base.specs.PageSet.{contains_page}
use Rattle.vfm_base.proofs.LeastPages.{least_below-pages}
use Rattle.vfm_types.specs.declared.desc.Desc.{Desc}
use Rattle.vfm_types.specs.Desc.{shape_at, block_count}
use Rattle.vfm_record.specs.Record.{Record}
use Rattle.vfm_streams.specs.Loaded.{last_block, engine_pend, loaded_bar, loaded_device}
use Rattle.vfm_streams.specs.Judged.{lacks, engine_lacks}
use Rattle.vfm_streams.proofs.Chunks.{all_blocks}
use Rattle.vfm_load.specs.Stored.{StoredDevice, device_stored, FitsDevice, HoldsDevice}

none_where : (b : Bool) (bytes : List ℕ) → b ≡ is_none (if b then None else Some bytes)
none_where true bytes = refl
none_where false bytes = refl

-- what is answered by the counts
abbrev pub counts_answer : Bool → Option ℕ
counts_answer all = if all then None else Some 4294967295

-- blocks that are the same one by one
same_blocks : (f g : ℕ → List ℕ) (from n : ℕ) → ((b : ℕ) → from ≤ b → b < from + n → f b ≡ g b) → flat_map f (range_with_len from n) ≡ flat_map g (range_with_len from n)
same_blocks f g from zero each = refl
same_blocks f g from (suc n) each =
    rw (each from (omega arith) (omega arith), same_blocks f g (from + 1) n (λ b low high. each b (omega arith) (omega arith))) refl

module _ (D : Desc) (d : ℕ) (records : List Record) (stored : StoredDevice) (fits : FitsDevice (shape_at D d) stored) (holds : HoldsDevice (shape_at D d) records stored) where
  abbrev count : ℕ
  count = block_count (shape_at D d)

  lacking : (b : ℕ) → b < block_count (shape_at D d) → contains_page stored.missing b ≡ is_none (last_block b records)
  lacking b inside =
      none_where (contains_page stored.missing b) (take 64 (drop (64 * b) stored.bar)) ∙ ap is_none (sym (holds.blocks b inside))

  least_block : (r : Option ℕ) → IfSome r (λ q. (0 ≤ q) × (q < 1024) × IsTrue (contains_page stored.missing q))
      → IfSome r (λ q. (s : ℕ) → 0 ≤ s → s < q → contains_page stored.missing s ≡ false)
      → IfNone r ((s : ℕ) → 0 ≤ s → contains_page stored.missing s ≡ false) → least_below (block_count (shape_at D d)) (λ b. is_none (last_block b records)) ≡ r
  least_block r found least none =
      sym (least_below-pages stored.missing (λ b. is_none (last_block b records)) (block_count (shape_at D d)) 0 r (λ q low inside. lacking q inside) fits.missing
      (λ q below inside. absurd (omega arith)) found least none)

  -- a block never came
  pub lacks_block : (q : ℕ) → (0 ≤ q) × (q < 1024) × IsTrue (contains_page stored.missing q)
      → ((s : ℕ) → 0 ≤ s → s < q → contains_page stored.missing s ≡ false) → lacks D (suc d) records ≡ Some q
  lacks_block q found least = ap (λ (o : Option ℕ). option_or o (engine_lacks records)) (least_block (Some q) found least tt)

  module _ (none : (s : ℕ) → 0 ≤ s → contains_page stored.missing s ≡ false) where
    rest : lacks D (suc d) records ≡ engine_lacks records
    rest = ap (λ (o : Option ℕ). option_or o (engine_lacks records)) (least_block None tt tt none)

    by_counts : (a b : Bool) → stored.counted ≡ a → (length stored.pending == stored.pend) ≡ b → lacks D (suc d) records ≡ counts_answer (a && b)
    by_counts a b is_a is_b =
        rest
        ∙ ap₂ (λ (x : Bool) (xs : List (ℕ × ℕ)). counts_answer (x && (length xs == engine_pend records))) (holds.counted ∙ is_a) holds.pairs
        ∙ ap (λ (n : ℕ). counts_answer (a && (length stored.pending == n))) holds.pend
        ∙ ap (λ (x : Bool). counts_answer (a && x)) is_b

    -- the counts never came
    pub lacks_counts : stored.counted ≡ false → lacks D (suc d) records ≡ Some 4294967295
    lacks_counts not_ = by_counts false (length stored.pending == stored.pend) not_ refl

    -- some of the pending requests never came
    pub lacks_pairs : (length stored.pending ≡ stored.pend → ⊥) → lacks D (suc d) records ≡ Some 4294967295
    lacks_pairs fewer = by_counts stored.counted false refl (ne_eqb (length stored.pending) stored.pend fewer) ∙ both stored.counted
      where
        both : (a : Bool) → counts_answer (a && false) ≡ Some 4294967295
        both true = refl
        both false = refl

    -- nothing is lacking
    pub lacks_none : stored.counted ≡ true → length stored.pending ≡ stored.pend → lacks D (suc d) records ≡ None
    lacks_none counted all = by_counts true true counted (eq-eqb (length stored.pending) stored.pend all)

    bar_is : loaded_bar D d records ≡ stored.bar
    bar_is =
        same_blocks (λ b. unwrap_or (last_block b records) []) (λ b. take 64 (drop (64 * b) stored.bar)) 0 (block_count (shape_at D d))
        (λ b low high.
        ap (λ (o : Option (List ℕ)). unwrap_or o [])
        (holds.blocks b (omega arith) ∙ ap (λ (x : Bool). if x then None else Some (take 64 (drop (64 * b) stored.bar))) (none b (omega arith))))
        ∙ all_blocks 64 (block_count (shape_at D d)) stored.bar fits.blocks

    -- the device is what the records load
    pub device_is_loaded : stored.counted ≡ true → device_stored stored ≡ loaded_device D d records
    device_is_loaded counted = sym (rw (holds.engine counted, bar_is, holds.pairs) refl)
