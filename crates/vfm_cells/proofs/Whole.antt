-- The cells of a whole world: what lies in each, and that a step on the touched ones is a step of the whole.
use Rattle.vfm_parts.proofs.Allowed.{none_is}
use Rattle.std.proofs.Math.Bool.{or-true, or-false}
use Rattle.std.proofs.Common.{◌≡◌, ℕ, ◌+◌, ◌-◌, ◌<◌, ◌≤◌, ◌==◌, ◌&&◌, ◌||◌, Bool, true, false, is_none, nat_lt, if◌then◌else◌, List, [], ◌∷◌, map, Some, None, refl, ap, ap₂, sym, ◌∙◌, subst, arith, eqb-true, ltb-true, lt-ltb, ⊎_elim}
use Rattle.std.proofs.lemmas.Bool.{eq-eqb, ne_eqb, cond-true, cond-false, cases_lt, cases_eq, and_parts, false≢true, le-ltb}
use Rattle.std.proofs.lemmas.List.{get_or_past}
use Rattle.vfm_types.specs.declared.desc.Desc.{Desc}
use Rattle.vfm_types.specs.declared.entry.Entry.{Entry}
use Rattle.vfm_types.specs.declared.entry.Entry.TheVariants.{Issue, Deliver, Complete, Report, Copy, Block, Dry}
use Rattle.vfm_types.specs.declared.entry.Rule.{Rule}
use Rattle.vfm_types.specs.declared.job.Region.{Region}
use Rattle.vfm_types.specs.declared.job.Region.TheVariants.{Page, Bar}
use Rattle.vfm_types.specs.Desc.{device_count, shape_at, block_count}
use Rattle.vfm_plain.specs.Legal.{is_entry_of}
use Rattle.vfm_parts.specs.Parts.{World, Parts, parts_in, no_dev}
use Rattle.vfm_parts.specs.Steps.{fault_in, dev_after, page_after, parts_after, fault_on, after_on}
use Rattle.vfm_parts.proofs.Listed.{listed_at, length-listed}
use Rattle.vfm_turn.specs.Order.{has}
use Rattle.vfm_laws.proofs.Rising.{by_bool}
use Rattle.vfm_laws.proofs.Walks.{some_none}
use Rattle.vfm_cells.specs.Cells.{Cell, lead_cell, device_cell, page_cell, dev_number, page_number, region_number, cell_count, lead_or_first, dev_or_none, bytes_or_none, cell_in, cell_at, IsWhole}
use Rattle.vfm_cells.specs.Touched.{touched, is_aimed, aim, has_region, up_from}
use Rattle.vfm_cells.specs.CellSteps.{given_at, given_parts, is_same_list, may_step, step_of, IsStepOf}
use Rattle.vfm_cells.proofs.Numbers.{order_has, up_past}
use Rattle.vfm_cells.proofs.Local.{Agrees, Alike, alike, touched_alike, aimed_alike, touched_back, never}

-- ---- cells by their kinds

pub cell_dev : (D : Desc) (parts : Parts) (k : ℕ) → k < device_count D → cell_in D parts (dev_number k) ≡ device_cell (parts.dev k)
cell_dev D parts k h =
    cond-false _ _ _ (ne_eqb (k + 1) 0 (λ same. omega arith))
    ∙ cond-true _ _ _ (lt-ltb (k + 1) (device_count D + 1) (omega arith))
    ∙ ap (λ (j : ℕ). device_cell (parts.dev j)) (omega arith)

pub cell_page : (D : Desc) (parts : Parts) (i : ℕ) → cell_in D parts (page_number D i) ≡ page_cell (parts.page i)
cell_page D parts i =
    cond-false _ _ _ (ne_eqb (i + (device_count D + 1)) 0 (λ same. omega arith))
    ∙ cond-false _ _ _ (le-ltb (i + (device_count D + 1)) (device_count D + 1) (omega arith))
    ∙ ap (λ (j : ℕ). page_cell (parts.page j)) (omega arith)

-- what holds of the coordinator's cell, of each device's and of each page's holds of each cell
pub by_cell : (D : Desc) (P : ℕ → Type 0) → P 0 → ((k : ℕ) → k < device_count D → P (dev_number k))
    → ((i : ℕ) → i < D.pages → P (page_number D i)) → (c : ℕ) → c < cell_count D → P c
by_cell D P first dev page c below =
    ⊎_elim (λ (is : c ≡ 0). subst P (sym is) first)
    (λ (other : c ≡ 0 → ⊥). ⊎_elim (λ (h : c < device_count D + 1). device other h) (λ (h : device_count D + 1 ≤ c). past h)
    (cases_lt c (device_count D + 1))) (cases_eq c 0)
  where
    device : (c ≡ 0 → ⊥) → c < device_count D + 1 → P c
    device other h =
        let is : c - 1 + 1 ≡ c = omega (arith, other) in
        let inside : c - 1 < device_count D = omega (arith, other) in
        subst P is (dev (c - 1) inside)

    past : device_count D + 1 ≤ c → P c
    past h =
        let is : c - (device_count D + 1) + (device_count D + 1) ≡ c = omega arith in
        let inside : c - (device_count D + 1) < D.pages = omega arith in
        subst P is (page (c - (device_count D + 1)) inside)

-- ---- the given cells

pub given_is : (cells : List ℕ) (at : ℕ → Cell) (c : ℕ) → has c cells ≡ true → given_at cells (map at cells) c ≡ at c
given_is [] at c among = absurd (false≢true among)
given_is (k ∷ cells) at c among =
    by_bool (k == c) (λ b. (k == c) ≡ b → (b || has c cells) ≡ true → (if b then at k else given_at cells (map at cells) c) ≡ at c)
    (λ here e h. ap at (eqb-true k c e)) (λ away e h. given_is cells at c h) refl among

pub agrees_given : (D : Desc) (w : World) (cells : List ℕ) → IsWhole D w → Agrees D (given_parts D cells (map (cell_at D w) cells)) (parts_in w) cells
agrees_given D w cells whole =
    record {
      lead = λ among. ap (lead_or_first D) (given_is cells (cell_at D w) 0 among);
      dev = λ k h among.
          cond-true _ _ _ (lt-ltb k (device_count D) h)
          ∙ ap dev_or_none (given_is cells (cell_at D w) (dev_number k) among ∙ cell_dev D (parts_in w) k h);
      outside = λ k h. cond-false _ _ _ (le-ltb k (device_count D) h) ∙ sym (get_or_past w.devs k no_dev (omega (arith, whole.devs)));
      page = λ i h among. ap bytes_or_none (given_is cells (cell_at D w) (page_number D i) among ∙ cell_page D (parts_in w) i);
    }

-- ---- the world after an entry

pub after_whole : (D : Desc) (w : World) (entry : Entry) → IsWhole D (after_on D w entry)
after_whole D w entry =
    record { devs = length-listed (device_count D) (dev_after D (parts_in w) entry); pages = length-listed D.pages (page_after D (parts_in w) entry) }

pub after_cell : (D : Desc) (w : World) (entry : Entry) (c : ℕ) → c < cell_count D
    → cell_at D (after_on D w entry) c ≡ cell_in D (parts_after D (parts_in w) entry) c
after_cell D w entry =
    by_cell D (λ c. cell_at D (after_on D w entry) c ≡ cell_in D (parts_after D (parts_in w) entry) c) refl
    (λ k h. cell_dev D (parts_in (after_on D w entry)) k h
    ∙ ap device_cell (listed_at (device_count D) (dev_after D (parts_in w) entry) k no_dev h)
    ∙ sym (cell_dev D (parts_after D (parts_in w) entry) k h))
    (λ i h. cell_page D (parts_in (after_on D w entry)) i
    ∙ ap page_cell (listed_at D.pages (page_after D (parts_in w) entry) i [] h)
    ∙ sym (cell_page D (parts_after D (parts_in w) entry) i))

-- cells that parts which are touched alike have after the entry
made_alike : (D : Desc) (q p : Parts) (entry : Entry) (cells : List ℕ) → Alike D q p entry cells
    → (c : ℕ) → c < cell_count D → has c cells ≡ true → cell_in D (parts_after D q entry) c ≡ cell_in D (parts_after D p entry) c
made_alike D q p entry cells same =
    by_cell D (λ c. has c cells ≡ true → cell_in D (parts_after D q entry) c ≡ cell_in D (parts_after D p entry) c)
    (λ among. ap lead_cell (same.lead among))
    (λ k h among. cell_dev D (parts_after D q entry) k h ∙ ap device_cell (same.dev k h among) ∙ sym (cell_dev D (parts_after D p entry) k h))
    (λ i h among. cell_page D (parts_after D q entry) i ∙ ap page_cell (same.page i h among) ∙ sym (cell_page D (parts_after D p entry) i))

kept_alike : (D : Desc) (q p : Parts) (entry : Entry) (cells : List ℕ) → Alike D q p entry cells
    → (c : ℕ) → c < cell_count D → has c cells ≡ false → cell_in D (parts_after D p entry) c ≡ cell_in D p c
kept_alike D q p entry cells same =
    by_cell D (λ c. has c cells ≡ false → cell_in D (parts_after D p entry) c ≡ cell_in D p c)
    (λ apart. ap lead_cell (same.lead_kept apart))
    (λ k h apart. cell_dev D (parts_after D p entry) k h ∙ ap device_cell (same.dev_kept k h apart) ∙ sym (cell_dev D p k h))
    (λ i h apart. cell_page D (parts_after D p entry) i ∙ ap page_cell (same.page_kept i h apart) ∙ sym (cell_page D p i))

-- ---- touched cells are cells

one_below : (D : Desc) (a c : ℕ) → a < cell_count D → (a == c) ≡ true → c < cell_count D
one_below D a c below same = subst (λ (k : ℕ). k < cell_count D) (eqb-true a c same) below

either_below : (D : Desc) (a b c : ℕ) → a < cell_count D → b < cell_count D → (a == c || b == c) ≡ true → c < cell_count D
either_below D a b c first second among =
    by_bool (a == c) (λ t. (a == c) ≡ t → (t || b == c) ≡ true → c < cell_count D)
    (λ here e h. one_below D a c first e) (λ away e h. one_below D b c second h) refl among

pub dev_below : (D : Desc) (d : ℕ) → d < device_count D → dev_number d < cell_count D
dev_below D d h = omega arith

pub page_below : (D : Desc) (i : ℕ) → i < D.pages → page_number D i < cell_count D
page_below D i h = omega arith

pub region_below : (D : Desc) (r : Region) → has_region D r ≡ true → region_number D r < cell_count D
region_below D (Page i) there = page_below D i (ltb-true i D.pages there)
region_below D (Bar t) there = dev_below D t (ltb-true t (device_count D) there)

two_below : (D : Desc) (a c : ℕ) → a < cell_count D → has c (0 ∷ a ∷ []) ≡ true → c < cell_count D
two_below D a c below among =
    either_below D 0 a c (omega arith) below (ap (λ (b : Bool). 0 == c || b) (sym (or-false (a == c))) ∙ among)

all_below : (D : Desc) (c : ℕ) → has c (up_from 0 (device_count D + 1)) ≡ true → c < cell_count D
all_below D c among =
    ⊎_elim (λ (h : c < device_count D + 1). inside h)
    (λ (h : device_count D + 1 ≤ c). never (has c (up_from 0 (device_count D + 1))) (up_past c 0 (device_count D + 1) (omega arith)) among)
    (cases_lt c (device_count D + 1))
  where
    inside : c < device_count D + 1 → c < cell_count D
    inside h = omega arith

pub touched_below : (D : Desc) (parts : Parts) (entry : Entry) → is_entry_of D entry ≡ true → is_aimed D parts entry ≡ true
    → (c : ℕ) → has c (touched D parts entry) ≡ true → c < cell_count D
touched_below D parts (Issue d n) named aimed c among =
    one_below D (dev_number d) c (dev_below D d (ltb-true d (device_count D) named)) (sym (or-false (dev_number d == c)) ∙ among)
touched_below D parts (Complete d n) named aimed c among =
    one_below D (dev_number d) c (dev_below D d (ltb-true d (device_count D) named)) (sym (or-false (dev_number d == c)) ∙ among)
touched_below D parts (Deliver d n) named aimed c among =
    let region = aim D d n (parts.dev d) in
    either_below D (dev_number d) (region_number D region) c (dev_below D d (ltb-true d (device_count D) named)) (region_below D region aimed)
    (sym (order_has (dev_number d) (region_number D region) c) ∙ among)
touched_below D parts (Report d) named aimed c among = two_below D (dev_number d) c (dev_below D d (ltb-true d (device_count D) named)) among
touched_below D parts (Block d b) named aimed c among =
    two_below D (dev_number d) c (dev_below D d (ltb-true d (device_count D) (and_parts (nat_lt d (device_count D)) (nat_lt b (block_count (shape_at D d))) named).0)) among
touched_below D parts (Dry d) named aimed c among = two_below D (dev_number d) c (dev_below D d (ltb-true d (device_count D) named)) among
touched_below D parts (Copy p) named aimed c among = two_below D (page_number D p) c (page_below D p (ltb-true p D.pages named)) among
touched_below D parts entry named aimed c among = all_below D c among

-- ---- a step

pub map_same : (cells : List ℕ) (f g : ℕ → Cell) → ((c : ℕ) → has c cells ≡ true → f c ≡ g c) → map f cells ≡ map g cells
map_same [] f g h = refl
map_same (k ∷ cells) f g h =
    ap₂ (λ (x : Cell) (xs : List Cell). x ∷ xs) (h k (ap (λ (b : Bool). b || has k cells) (eq-eqb k k refl)))
    (map_same cells f g (λ c among. h c (ap (λ (b : Bool). k == c || b) among ∙ or-true (k == c))))

same_list_is : (xs ys : List ℕ) → is_same_list xs ys ≡ true → xs ≡ ys
same_list_is [] [] e = refl
same_list_is [] (y ∷ ys) e = absurd (false≢true e)
same_list_is (x ∷ xs) [] e = absurd (false≢true e)
same_list_is (x ∷ xs) (y ∷ ys) e =
    let both = and_parts (x == y) (is_same_list xs ys) e in
    ap₂ (λ (z : ℕ) (zs : List ℕ). z ∷ zs) (eqb-true x y both.0) (same_list_is xs ys both.1)

same_list_refl : (xs : List ℕ) → is_same_list xs xs ≡ true
same_list_refl [] = refl
same_list_refl (x ∷ xs) = ap₂ (λ (a b : Bool). a && b) (eq-eqb x x refl) (same_list_refl xs)

made_of : {X : Type 0} (b : Bool) (x y : X) → (if b then Some x else None) ≡ Some y → (b ≡ true) × (x ≡ y)
made_of true x y e = (refl, cc)
made_of false x y e = absurd (some_none y (sym e))

may_parts : (D : Desc) (q : Parts) (entry : Entry) (cells : List ℕ) → may_step D q entry cells ≡ true
    → (is_entry_of D entry ≡ true) × (is_aimed D q entry ≡ true) × (cells ≡ touched D q entry) × (fault_in D q entry ≡ None)
may_parts D q entry cells may =
    let three = and_parts (is_entry_of D entry && is_aimed D q entry && is_same_list cells (touched D q entry)) (is_none (fault_in D q entry)) may in
    let two = and_parts (is_entry_of D entry && is_aimed D q entry) (is_same_list cells (touched D q entry)) three.0 in
    let one = and_parts (is_entry_of D entry) (is_aimed D q entry) two.0 in
    (one.0, one.1, same_list_is cells (touched D q entry) two.1, none_is (fault_in D q entry) three.1)

-- a step by parts that are those of the world in the given cells
step_from : (D : Desc) (w : World) (entry : Entry) (cells : List ℕ) (afters : List Cell) (q : Parts) → Agrees D q (parts_in w) cells
    → (may_step D q entry cells ≡ true) × (map (cell_in D (parts_after D q entry)) cells ≡ afters) → IsStepOf D w entry cells afters
step_from D w entry cells afters q agrees step =
    let may = may_parts D q entry cells step.0 in
    let there : Agrees D q (parts_in w) (touched D q entry) = subst (Agrees D q (parts_in w)) may.2 agrees in
    let same : Alike D q (parts_in w) entry cells = subst (Alike D q (parts_in w) entry) (sym may.2) (alike D q (parts_in w) entry may.0 may.1 there) in
    let below : (c : ℕ) → has c cells ≡ true → c < cell_count D = λ c among. touched_below D q entry may.0 may.1 c (ap (has c) (sym may.2) ∙ among) in
    record {
      named = may.0;
      allowed = sym same.fault ∙ may.3;
      touched = may.2 ∙ touched_alike D q (parts_in w) entry may.0 there;
      made = sym step.1 ∙ map_same cells _ _ (λ c among. made_alike D q (parts_in w) entry cells same c (below c among) among ∙ sym (after_cell D w entry c (below c among)));
      kept = λ c h apart. after_cell D w entry c h ∙ kept_alike D q (parts_in w) entry cells same c h apart;
    }

pub step_told : (D : Desc) (w : World) (entry : Entry) (cells : List ℕ) (afters : List Cell) → IsWhole D w
    → step_of D entry cells (map (cell_at D w) cells) ≡ Some afters → IsStepOf D w entry cells afters
step_told D w entry cells afters whole step =
    step_from D w entry cells afters (given_parts D cells (map (cell_at D w) cells)) (agrees_given D w cells whole) (made_of _ _ afters step)

-- ---- the other way round

-- what the parts in the given cells say, where these are the touched ones of a world
module _ (D : Desc) (w : World) (entry : Entry) (whole : IsWhole D w) (named : is_entry_of D entry ≡ true) where
  abbrev reached : List ℕ
  reached = touched D (parts_in w) entry

  abbrev given : Parts
  given = given_parts D reached (map (cell_at D w) reached)

  same_touched : touched D given entry ≡ reached
  same_touched = touched_back D given (parts_in w) entry named (agrees_given D w reached whole)

  there : Agrees D given (parts_in w) (touched D given entry)
  there = subst (Agrees D given (parts_in w)) (sym same_touched) (agrees_given D w reached whole)

  same_aimed : is_aimed D given entry ≡ is_aimed D (parts_in w) entry
  same_aimed = aimed_alike D given (parts_in w) entry named there

  may_is : is_aimed D (parts_in w) entry ≡ true → may_step D given entry reached ≡ is_none (fault_on D w entry)
  may_is aimed =
      let same : Alike D given (parts_in w) entry (touched D given entry) = alike D given (parts_in w) entry named (same_aimed ∙ aimed) there in
      ap₂ (λ (a b : Bool). a && b && is_same_list reached (touched D given entry) && is_none (fault_in D given entry)) named (same_aimed ∙ aimed)
      ∙ ap₂ (λ (a b : Bool). a && b) (ap (is_same_list reached) same_touched ∙ same_list_refl reached) (ap is_none same.fault)

  pub step_made : is_aimed D (parts_in w) entry ≡ true → fault_on D w entry ≡ None
      → step_of D entry reached (map (cell_at D w) reached) ≡ Some (map (cell_at D (after_on D w entry)) reached)
  step_made aimed fine =
      let may : may_step D given entry reached ≡ true = may_is aimed ∙ ap is_none fine in
      let step = step_from D w entry reached (map (cell_in D (parts_after D given entry)) reached) given (agrees_given D w reached whole) (may, refl) in
      cond-true _ _ _ may ∙ ap Some step.made

  pub step_refused : (rule : Rule) → is_aimed D (parts_in w) entry ≡ true → fault_on D w entry ≡ Some rule
      → step_of D entry reached (map (cell_at D w) reached) ≡ None
  step_refused rule aimed broken = cond-false _ _ _ (may_is aimed ∙ ap is_none broken)
