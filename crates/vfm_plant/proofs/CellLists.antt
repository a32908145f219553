-- The list of all cells of a world, and what is taken out of it.
use Rattle.std.proofs.Common.{◌≡◌, ℕ, zero, suc, ◌+◌, ◌<◌, List, [], ◌∷◌, ◌++◌, map, reverse, length, refl, ap, ap₂, sym, subst, ◌∙◌, arith, Some, length-append}
use Rattle.std.specs.List.{slice_get, slice_index_or}
use Rattle.std.proofs.lemmas.List.{reverse-append, reverse-reverse, length-map}
use Rattle.vfm_types.specs.declared.desc.Desc.{Desc}
use Rattle.vfm_types.specs.Desc.{device_count}
use Rattle.vfm_parts.specs.Parts.{Dev, Lead, World, no_dev, parts_in}
use Rattle.vfm_turn.proofs.Runs.{get_some, get_there, same_lists}
use Rattle.vfm_cells.specs.Cells.{Cell, lead_cell, device_cell, page_cell, cell_at, cell_count, IsWhole}
use Rattle.vfm_cells.specs.CellFits.{CellFits, CellsFit}
use Rattle.vfm_cells.proofs.Whole.{cell_dev, cell_page, by_cell}
use Rattle.vfm_core.specs.CoreState.{FitsDesc, world_with}
use Rattle.vfm_cells.proofs.Fitting.{parts_to_cells}
use Rattle.vfm_plant_laws.specs.OneRun.{AreCellsOf}
use Rattle.vfm_plant.specs.CellList.{cell_list}
use Rattle.vfm_plant.specs.Rooms.{AreFittingFrom}

-- what was taken out, last first, is the list
pub list_back : (xs c1 c2 c3 : List Cell) (lead : Lead) (devs : List Dev) (pages : List (List ℕ)) → reverse xs ≡ c1 ++ lead_cell lead ∷ []
    → c2 ++ reverse (map device_cell devs) ≡ c1 → c3 ++ reverse (map page_cell pages) ≡ c2 → c3 ≡ [] → cell_list lead devs pages ≡ xs
list_back xs c1 c2 c3 lead devs pages all mine theirs none =
    let md = map device_cell devs in
    let mp = map page_cell pages in
    let here : reverse mp ≡ c2 = ap (λ (ys : List Cell). ys ++ reverse mp) (sym none) ∙ theirs in
    let both : reverse (md ++ mp) ≡ c1 = reverse-append md mp ∙ (ap (λ (ys : List Cell). ys ++ reverse md) here ∙ mine) in
    let whole : reverse (lead_cell lead ∷ (md ++ mp)) ≡ reverse xs =
    reverse-append (lead_cell lead ∷ []) (md ++ mp) ∙ (ap (λ (ys : List Cell). ys ++ lead_cell lead ∷ []) both ∙ sym all) in
    sym (reverse-reverse (cell_list lead devs pages)) ∙ (ap reverse whole ∙ reverse-reverse xs)

same_pages : (ps ps' : List (List ℕ)) → map page_cell ps ≡ map page_cell ps' → ps ≡ ps'
same_pages [] [] e = refl
same_pages [] (q ∷ qs) e = cc
same_pages (p ∷ ps) [] e = cc
same_pages (p ∷ ps) (q ∷ qs) e =
    let rest : map page_cell ps ≡ map page_cell qs = cc in
    let head : p ≡ q = cc in
    ap₂ (λ (x : List ℕ) (xs : List (List ℕ)). x ∷ xs) head (same_pages ps qs rest)

same_tail : (ds ds' : List Dev) (ps ps' : List (List ℕ)) → length ds ≡ length ds'
    → map device_cell ds ++ map page_cell ps ≡ map device_cell ds' ++ map page_cell ps' → (ds ≡ ds') × (ps ≡ ps')
same_tail [] [] ps ps' len e = (refl, same_pages ps ps' e)
same_tail [] (d ∷ ds) ps ps' len e = absurd (omega arith)
same_tail (d ∷ ds) [] ps ps' len e = absurd (omega arith)
same_tail (d ∷ ds) (d' ∷ ds') ps ps' len e =
    let rest : map device_cell ds ++ map page_cell ps ≡ map device_cell ds' ++ map page_cell ps' = cc in
    let head : d ≡ d' = cc in
    let r = same_tail ds ds' ps ps' (omega arith) rest in
    (ap₂ (λ (x : Dev) (xs : List Dev). x ∷ xs) head r.0, r.1)

-- lists of the same cells are of the same parts
pub same_parts : (lead lead' : Lead) (devs devs' : List Dev) (pages pages' : List (List ℕ)) → length devs ≡ length devs'
    → cell_list lead devs pages ≡ cell_list lead' devs' pages' → (lead ≡ lead') × (devs ≡ devs') × (pages ≡ pages')
same_parts lead lead' devs devs' pages pages' len e =
    let rest : map device_cell devs ++ map page_cell pages ≡ map device_cell devs' ++ map page_cell pages' = cc in
    let head : lead ≡ lead' = cc in
    let r = same_tail devs devs' pages pages' len rest in
    (head, r.0, r.1)

dev_there : (ds : List Dev) (ys : List Cell) (k : ℕ) (x : Cell) → k < length ds → slice_get (map device_cell ds ++ ys) k ≡ Some x
    → x ≡ device_cell (slice_index_or ds k no_dev)
dev_there [] ys k x h e = absurd (omega arith)
dev_there (d ∷ ds) ys zero x h e = cc
dev_there (d ∷ ds) ys (suc k) x h e = dev_there ds ys k x (omega arith) e

page_there : (ps : List (List ℕ)) (k : ℕ) (x : Cell) → slice_get (map page_cell ps) k ≡ Some x → x ≡ page_cell (slice_index_or ps k [])
page_there [] k x e = cc
page_there (p ∷ ps) zero x e = cc
page_there (p ∷ ps) (suc k) x e = page_there ps k x e

past : (xs ys : List Cell) (k : ℕ) → slice_get (xs ++ ys) (k + length xs) ≡ slice_get ys k
past [] ys k = let same : k + 0 ≡ k = omega arith in ap (slice_get ys) same
past (x ∷ xs) ys k =
    let next : k + suc (length xs) ≡ suc (k + length xs) = omega arith in
    ap (slice_get (x ∷ xs ++ ys)) next ∙ past xs ys k

module _ (D : Desc) (w : World) (whole : IsWhole D w) where
  -- the list of the parts has the cells of the world
  pub list_cells : AreCellsOf D w (cell_list w.lead w.devs w.pages)
  list_cells =
      record {
        count =
            (let all = length-append (map device_cell w.devs) (map page_cell w.pages) in
            let devs = length-map w.devs device_cell in
            let pages = length-map w.pages page_cell in
            let a = whole.devs in
            let b = whole.pages in
            omega arith);
        each = λ c x here. at c (low c x here) x here;
      }
    where
      first : (x : Cell) → Some (lead_cell w.lead) ≡ Some x → x ≡ lead_cell w.lead
      first x e = cc

      low : (c : ℕ) (x : Cell) → slice_get (cell_list w.lead w.devs w.pages) c ≡ Some x → c < cell_count D
      low c x here =
          let all = length-append (map device_cell w.devs) (map page_cell w.pages) in
          let devs = length-map w.devs device_cell in
          let pages = length-map w.pages page_cell in
          let a = whole.devs in
          let b = whole.pages in
          let below = get_some (cell_list w.lead w.devs w.pages) c x here in
          omega arith

      at : (c : ℕ) → c < cell_count D → (x : Cell) → slice_get (cell_list w.lead w.devs w.pages) c ≡ Some x → x ≡ cell_at D w c
      at =
          by_cell D (λ c. (x : Cell) → slice_get (cell_list w.lead w.devs w.pages) c ≡ Some x → x ≡ cell_at D w c)
          (λ x e. first x e)
          (λ k h x e.
          let next : k + 1 ≡ suc k = omega arith in
          let len = whole.devs in
          dev_there w.devs (map page_cell w.pages) k x (omega arith) (ap (slice_get (cell_list w.lead w.devs w.pages)) (sym next) ∙ e)
          ∙ sym (cell_dev D (parts_in w) k h))
          (λ i h x e.
          let len : length (map device_cell w.devs) ≡ device_count D = length-map w.devs device_cell ∙ whole.devs in
          let next : i + (device_count D + 1) ≡ suc (i + length (map device_cell w.devs)) = omega arith in
          page_there w.pages i x
          (sym (past (map device_cell w.devs) (map page_cell w.pages) i) ∙ (ap (slice_get (cell_list w.lead w.devs w.pages)) (sym next) ∙ e))
          ∙ sym (cell_page D (parts_in w) i))

  -- a list that has the cells of the world is that of its parts
  pub cells_list : (cells : List Cell) → AreCellsOf D w cells → cells ≡ cell_list w.lead w.devs w.pages
  cells_list cells are =
      let mine = list_cells in
      same_lists cells (cell_list w.lead w.devs w.pages) (are.count ∙ sym mine.count)
      (λ k x here.
      let long = are.count in
      let count = mine.count in
      let below = get_some cells k x here in
      let there = get_there (cell_list w.lead w.devs w.pages) k (omega arith) in
      there.1 ∙ ap (λ (y : Cell). Some y) (mine.each k there.0 there.1 ∙ sym (are.each k x here)))

  -- what is in them fits
  pub cells_fit : (cells : List Cell) → AreCellsOf D w cells → CellsFit D w → (c : ℕ) (x : Cell) → slice_get cells c ≡ Some x → CellFits D c x
  cells_fit cells are fit c x here =
      let long = are.count in
      let below = get_some cells c x here in
      subst (CellFits D c) (sym (are.each c x here)) (fit c (omega arith))

-- each that fits its cell, they fit in their order
pub fitting_from : (D : Desc) (c : ℕ) (xs : List Cell) → ((k : ℕ) (x : Cell) → slice_get xs k ≡ Some x → CellFits D (c + k) x) → AreFittingFrom D c xs
fitting_from D c [] fit = tt
fitting_from D c (x ∷ xs) fit =
    let same : c + 0 ≡ c = omega arith in (
      subst (λ (j : ℕ). CellFits D j x) same (fit 0 x refl),
      fitting_from D (c + 1) xs (λ k y here. let next : c + suc k ≡ c + 1 + k = omega arith in subst (λ (j : ℕ). CellFits D j y) next (fit (suc k) y here)),
    )

pub fitting_all : (D : Desc) (xs : List Cell) → ((k : ℕ) (x : Cell) → slice_get xs k ≡ Some x → CellFits D k x) → AreFittingFrom D 0 xs
fitting_all D xs fit = fitting_from D 0 xs (λ k x here. let same : k ≡ 0 + k = omega arith in subst (λ (j : ℕ). CellFits D j x) same (fit k x here))

-- what lies last in the reversed list is first
pub front_fits : (D : Desc) (c : ℕ) (xs rest : List Cell) (x : Cell) → reverse xs ≡ rest ++ x ∷ [] → AreFittingFrom D c xs
    → CellFits D c x × AreFittingFrom D (c + 1) (reverse rest)
front_fits D c xs rest x is fits =
    let front : xs ≡ x ∷ reverse rest = sym (reverse-reverse xs) ∙ (ap reverse is ∙ reverse-append rest (x ∷ [])) in
    subst (AreFittingFrom D c) front fits

-- the cells of a core that was taken apart
module _ (D : Desc) (w : World) (fit : FitsDesc D w) where
  pub whole_parts : IsWhole D w
  whole_parts = record { devs = fit.devs; pages = fit.pages }

  pub spread_cells : (cells : List Cell) → cells ≡ cell_list w.lead w.devs w.pages → AreCellsOf D w cells
  spread_cells cells is = subst (AreCellsOf D w) (sym is) (list_cells D w whole_parts)

  pub spread_fit : (cells : List Cell) → cells ≡ cell_list w.lead w.devs w.pages → (c : ℕ) (x : Cell) → slice_get cells c ≡ Some x → CellFits D c x
  spread_fit cells is = cells_fit D w whole_parts cells (spread_cells cells is) (parts_to_cells D w fit.fits)

  -- what is collected from them is the world
  pub collected : (cells : List Cell) (lead : Lead) (devs : List Dev) (pages : List (List ℕ)) → cells ≡ cell_list w.lead w.devs w.pages
      → cell_list lead devs pages ≡ cells → length devs ≡ device_count D → w ≡ world_with lead devs pages
  collected cells lead devs pages is back len =
      let same = same_parts w.lead lead w.devs devs w.pages pages (fit.devs ∙ sym len) (sym is ∙ sym back) in
      ap (λ (l : Lead). world_with l w.devs w.pages) same.0
      ∙ (ap (λ (ds : List Dev). world_with lead ds w.pages) same.1 ∙ ap (world_with lead devs) same.2)
