-- The pages that are stored, and what records say of them.
use Rattle.std.proofs.Common.{◌≡◌, ℕ, ◌<◌, ◌≤◌, ◌==◌, ◌&&◌, not, Bool, true, false, if◌then◌else◌, List, [], ◌∷◌, length, get_or, Option, Some, None, refl, ap, sym, ◌∙◌, subst, arith, ⊎_elim, eq-eqb}
use Rattle.std.specs.Prelude.{IfSome, IfNone, IsTrue, is_none, unwrap_or}
use Rattle.std.proofs.lemmas.Bool.{cases_eq, ne_eqb}
use Rattle.std.proofs.lemmas.List.{get_or-set_same, get_or-set_other, length-set}
use Rattle.std.proofs.lemmas.List.FromFn.{fill_by_all}
use Rattle.vfm_base.specs.PageSet.{contains_page}
use Rattle.vfm_base.proofs.LeastPages.{least_below-pages}
use Rattle.vfm_types.specs.declared.desc.Desc.{Desc}
use Rattle.vfm_record.specs.Record.{Record, Page}
use Rattle.vfm_streams.specs.Loaded.{last_page}
use Rattle.vfm_streams.specs.Judged.{lacks}
use Rattle.vfm_load.specs.Stored.{StoredPages, TakesPage, FitsPages, HoldsPages, stored_page}
use Rattle.vfm_load.specs.Parts.{loaded_pages}

none_where : (b : Bool) (bytes : List ℕ) → b ≡ is_none (if b then None else Some bytes)
none_where true bytes = refl
none_where false bytes = refl

module _ (D : Desc) (records : List Record) (stored : StoredPages) (fits : FitsPages D stored) (holds : HoldsPages D records stored) where
  -- a page is lacking exactly where no record has it
  lacking : (p : ℕ) → p < D.pages → contains_page stored.missing p ≡ is_none (last_page p records)
  lacking p inside =
      none_where (contains_page stored.missing p) (get_or stored.pages p []) ∙ ap is_none (sym (holds.pages p inside))

  pub least_lacking_page : (r : Option ℕ) → IfSome r (λ q. (0 ≤ q) × (q < 1024) × IsTrue (contains_page stored.missing q))
      → IfSome r (λ q. (s : ℕ) → 0 ≤ s → s < q → contains_page stored.missing s ≡ false)
      → IfNone r ((s : ℕ) → 0 ≤ s → contains_page stored.missing s ≡ false) → r ≡ lacks D 0 records
  least_lacking_page r found least none =
      least_below-pages stored.missing (λ p. is_none (last_page p records)) D.pages 0 r (λ q low inside. lacking q inside) fits.missing
      (λ q below inside. absurd (omega arith)) found least none

  pub pages_are_loaded : ((s : ℕ) → 0 ≤ s → contains_page stored.missing s ≡ false) → stored.pages ≡ loaded_pages D records
  pages_are_loaded none =
      fill_by_all (λ p. unwrap_or (last_page p records) []) stored.pages D.pages [] fits.count
      (λ p inside.
      sym (ap (λ (o : Option (List ℕ)). unwrap_or o [])
      (holds.pages p inside ∙ ap (λ (b : Bool). if b then None else Some (get_or stored.pages p [])) (none p (omega arith)))))

module _ (D : Desc) (records : List Record) (p : ℕ) (bytes : List ℕ) (before after : StoredPages) (takes : TakesPage p bytes before after)
    (fits : FitsPages D before) (inside : p < D.pages) (size : length bytes ≡ D.page) where
  count : p < length before.pages
  count = omega (arith, fits.count)

  at : (q : ℕ) → (q ≡ p → ⊥) → get_or after.pages q [] ≡ get_or before.pages q []
  at q other = ap (λ (pages : List (List ℕ)). get_or pages q []) takes.pages ∙ get_or-set_other before.pages p q bytes [] other

  here : get_or after.pages p [] ≡ bytes
  here = ap (λ (pages : List (List ℕ)). get_or pages p []) takes.pages ∙ get_or-set_same before.pages p bytes [] count

  -- the pages keep their sizes
  pub pages_fit : FitsPages D after
  pages_fit =
      record {
        count = ap (length {A = List ℕ}) takes.pages ∙ length-set before.pages p bytes ∙ fits.count;
        size = λ q below.
            ⊎_elim (λ (same : q ≡ p). subst (λ (k : ℕ). length (get_or after.pages k []) ≡ D.page) (sym same) (ap (length {A = ℕ}) here ∙ size))
            (λ (other : q ≡ p → ⊥). ap (length {A = ℕ}) (at q other) ∙ fits.size q below) (cases_eq q p);
        missing = λ q above.
            takes.missing q ∙ ap (λ (b : Bool). b && not (q == p)) (fits.missing q above);
      }

  missing_here : contains_page after.missing p ≡ false
  missing_here =
      takes.missing p ∙ ap (λ (b : Bool). contains_page before.missing p && not b) (eq-eqb p p refl) ∙ and_false (contains_page before.missing p)
    where
      and_false : (b : Bool) → (b && false) ≡ false
      and_false true = refl
      and_false false = refl

  missing_at : (q : ℕ) → (q ≡ p → ⊥) → contains_page after.missing q ≡ contains_page before.missing q
  missing_at q other =
      takes.missing q ∙ ap (λ (b : Bool). contains_page before.missing q && not b) (ne_eqb q p other) ∙ and_true (contains_page before.missing q)
    where
      and_true : (b : Bool) → (b && true) ≡ b
      and_true true = refl
      and_true false = refl

  -- and are what the records say, this one with them
  pub pages_hold : HoldsPages D records before → HoldsPages D (Page p bytes ∷ records) after
  pages_hold holds =
      record {
        pages = λ q below.
            ⊎_elim
            (λ (same : q ≡ p).
            subst (λ (k : ℕ). (if p == k then Some bytes else last_page k records) ≡ stored_page after k) (sym same)
            (ap (λ (b : Bool). if b then Some bytes else last_page p records) (eq-eqb p p refl)
            ∙ ap (λ (x : List ℕ). Some x) (sym here)
            ∙ sym (ap (λ (b : Bool). if b then None else Some (get_or after.pages p [])) missing_here)))
            (λ (other : q ≡ p → ⊥).
            ap (λ (b : Bool). if b then Some bytes else last_page q records) (ne_eqb p q (λ same. other (sym same)))
            ∙ holds.pages q below
            ∙ ap (λ (x : List ℕ). if contains_page before.missing q then None else Some x) (sym (at q other))
            ∙ sym (ap (λ (b : Bool). if b then None else Some (get_or after.pages q [])) (missing_at q other)))
            (cases_eq q p);
      }
