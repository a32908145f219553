-- Turns on one or two held cells, and what came of them.
use Rattle.std.proofs.Common.{◌≡◌, ◌≢◌, ℕ, ◌+◌, ◌-◌, ◌%◌, length, ◌<◌, ◌≤◌, ◌==◌, ◌||◌, inl, inr, Bool, true, false, List, [], ◌∷◌, map, Some, None, refl, ap, ap₂, sym, subst, ◌∙◌, arith, eqb-true, lt-ltb}
use Rattle.std.proofs.lemmas.Bool.{eq-eqb, cond-true, cond-false, false≢true, le-ltb}
use Rattle.vfm_types.specs.declared.desc.Desc.{Desc}
use Rattle.vfm_types.specs.declared.look.DevLook.{DevLook}
use Rattle.vfm_types.specs.declared.entry.Entry.{Entry}
use Rattle.vfm_types.specs.declared.entry.Entry.TheVariants.{Issue, Deliver, Complete, Hold, Arc, Fail, Report, Pass, Copy, Block, Dry, Begin, Joint, Abort, Resume}
use Rattle.vfm_types.specs.declared.job.Region.{Region}
use Rattle.vfm_types.specs.Desc.{device_count}
use Rattle.vfm_parts.specs.Parts.{Dev, World, dev_at, parts_in}
use Rattle.vfm_parts.specs.Fits.{DevFits}
use Rattle.vfm_device_part.proofs.AllowedSteps.{Allowed, enabled_allowed}
use Rattle.vfm_parts_laws.specs.LooksIn.{look_in}
use Rattle.vfm_turn.specs.declared.seen.Busy.{Busy}
use Rattle.vfm_turn.specs.Order.{has}
use Rattle.vfm_turn.specs.Seen.{Hold as Holding, Seen, hold, is_held, left, noted, note, met, settled_of}
use Rattle.vfm_laws.proofs.Rising.{by_bool}
use Rattle.vfm_cells.specs.Cells.{Cell, lead_cell, device_cell, page_cell, dev_or_none, dev_number, region_number, cell_at}
use Rattle.vfm_cells.specs.CellFits.{CellFits}
use Rattle.vfm_cells.specs.Touched.{in_order}
use Rattle.vfm_cells.specs.CellSteps.{step_of}
use Rattle.vfm_cells.specs.WholeRun.{IsStep, touch_cell, touch_before, touch_after}
use Rattle.vfm_cells.proofs.Whole.{cell_dev}
use Rattle.vfm_cells.proofs.Numbers.{order_has}
use Rattle.vfm_cell_steps.specs.Made.{IsMade, two_cells, IsDelivered}
use Rattle.vfm_device_part.specs.DeviceSteps.{is_own_of, is_step_of, target_in}
use Rattle.vfm_device_part.specs.Pick.{enabled_steps, picked}
use Rattle.vfm_plant_laws.specs.OneRun.{AreIn, IsFoundIn}
use Rattle.vfm_plant.specs.declared.hand.Hand.{Hand}
use Rattle.vfm_plant.specs.declared.stepped.Wish.{Wish}
use Rattle.vfm_plant.specs.declared.stepped.Wish.TheVariants as wish
use Rattle.vfm_plant.specs.declared.stepped.Look.TheVariants as look
use Rattle.vfm_plant.specs.declared.stepped.Stepped.{Stepped}
use Rattle.vfm_plant.specs.declared.stepped.Stepped.TheVariants as stepped
use Rattle.vfm_plant.specs.Hands.{touches_by, turned, looked, IsMaking}
use Rattle.vfm_plant.specs.Outcome.{Attempt, HasDrawn, HasLooked, HasMet, IsOutcome, IsOtherCell, IsOwnCell, IsSeen, IsWished, bytes_read}

both_ways : {X : Type 0} (b : Bool) → b ≡ true → b ≡ false → X
both_ways b is not = absurd (false≢true (sym not ∙ is))

-- ---- what is made on one cell or on two

pub one_making : (holds : List (Holding Cell)) (items : List Hand) (h : Hand) (before : Cell) → items ≡ h ∷ [] → holds ≡ hold h.cell before before ∷ []
    → IsMaking holds items (h.cell ∷ []) (λ k. before) (λ k. h.part)
one_making holds items h before is stands =
    subst (λ (hands : List Hand). IsMaking holds hands (h.cell ∷ []) (λ k. before) (λ k. h.part)) (sym is)
    record { holds_are = stands; parts = (refl, tt); kept = λ c among apart. both_ways (has c (h.cell ∷ [])) among apart }

pub two_making : (holds : List (Holding Cell)) (items : List Hand) (one two : Hand) (this that : Cell) (cells : List ℕ) → items ≡ one ∷ two ∷ []
    → (one.cell == two.cell) ≡ false → holds ≡ hold one.cell this this ∷ hold two.cell that that ∷ []
    → ((c : ℕ) → has c (one.cell ∷ two.cell ∷ []) ≡ true → has c cells ≡ true)
    → IsMaking holds items cells (two_cells one.cell this that) (two_cells one.cell one.part two.part)
two_making holds items one two this that cells is other stands among =
    subst (λ (hands : List Hand). IsMaking holds hands cells (two_cells one.cell this that) (two_cells one.cell one.part two.part)) (sym is)
    record {
      holds_are =
          stands
          ∙ ap₂ (λ (x y : Cell). hold one.cell x x ∷ hold two.cell y y ∷ []) (sym (first this that)) (sym (second this that));
      parts = (first one.part two.part, (second one.part two.part, tt));
      kept = λ c there apart. both_ways (has c cells) (among c there) apart;
    }
  where
    first : (x y : Cell) → two_cells one.cell x y one.cell ≡ x
    first x y = cond-true _ _ _ (eq-eqb one.cell one.cell refl)

    second : (x y : Cell) → two_cells one.cell x y two.cell ≡ y
    second x y = cond-false _ _ _ other

pub order_low : (a b : ℕ) → (a == b) ≡ false → a < b → in_order a b ≡ a ∷ b ∷ []
order_low a b other low = cond-false _ _ _ other ∙ cond-true _ _ _ (lt-ltb a b low)

pub order_high : (a b : ℕ) → (a == b) ≡ false → b ≤ a → in_order a b ≡ b ∷ a ∷ []
order_high a b other high = cond-false _ _ _ other ∙ cond-false _ _ _ (le-ltb a b high)

pub has_swapped : (a b c : ℕ) → has c (a ∷ b ∷ []) ≡ true → has c (b ∷ a ∷ []) ≡ true
has_swapped a b c among = swapped (a == c) (b == c) among
  where
    swapped : (x y : Bool) → (x || (y || false)) ≡ true → (y || (x || false)) ≡ true
    swapped true true e = refl
    swapped true false e = refl
    swapped false true e = refl
    swapped false false e = e

-- ---- the touches of a step

pub cells_by : (f g : ℕ → Cell) (cells : List ℕ) → map touch_cell (touches_by f g cells) ≡ cells
cells_by f g [] = refl
cells_by f g (c ∷ cells) = ap (λ (cs : List ℕ). c ∷ cs) (cells_by f g cells)

pub befores_by : (f g : ℕ → Cell) (cells : List ℕ) → map touch_before (touches_by f g cells) ≡ map f cells
befores_by f g [] = refl
befores_by f g (c ∷ cells) = ap (λ (cs : List Cell). f c ∷ cs) (befores_by f g cells)

afters_by : (f g : ℕ → Cell) (cells : List ℕ) → map touch_after (touches_by f g cells) ≡ map g cells
afters_by f g [] = refl
afters_by f g (c ∷ cells) = ap (λ (cs : List Cell). g c ∷ cs) (afters_by f g cells)

pub made_step : (D : Desc) (entry : Entry) (cells : List ℕ) (f g : ℕ → Cell) → IsMade D entry cells f g → IsStep D entry (touches_by f g cells)
made_step D entry cells f g made =
    ap₂ (λ (cs : List ℕ) (bs : List Cell). step_of D entry cs bs) (cells_by f g cells) (befores_by f g cells)
    ∙ (made ∙ ap Some (sym (afters_by f g cells)))

same_at : (f h : ℕ → Cell) (cells : List ℕ) → map f cells ≡ map h cells → (c : ℕ) → has c cells ≡ true → f c ≡ h c
same_at f h [] e c among = absurd (false≢true among)
same_at f h (k ∷ cells) e c among =
    by_bool (k == c) (λ b. (k == c) ≡ b → (b || has c cells) ≡ true → f c ≡ h c)
    (λ here is m. let same : k ≡ c = eqb-true k c is in subst (λ (j : ℕ). f j ≡ h j) same (head e))
    (λ away is m. same_at f h cells (tail e) c m) refl among
  where
    head : (f k ∷ map f cells) ≡ (h k ∷ map h cells) → f k ≡ h k
    head p = cc

    tail : (f k ∷ map f cells) ≡ (h k ∷ map h cells) → map f cells ≡ map h cells
    tail p = cc

-- what a step found in a cell is what the world has there
pub found_at : (D : Desc) (w : World) (cells : List ℕ) (f g : ℕ → Cell) → IsFoundIn D w (touches_by f g cells) → (c : ℕ) → has c cells ≡ true → f c ≡ cell_at D w c
found_at D w cells f g found =
    same_at f (cell_at D w) cells (sym (befores_by f g cells) ∙ (found ∙ ap (map (cell_at D w)) (cells_by f g cells)))

-- ---- what came of a device's wish

-- the part that lies in the device's cell of a world
pub own_dev_is : (D : Desc) (w : World) (d : ℕ) (own : Cell) → d < device_count D → own ≡ cell_at D w (dev_number d) → dev_or_none own ≡ dev_at w d
own_dev_is D w d own inside is = ap dev_or_none (is ∙ cell_dev D (parts_in w) d inside)

-- nothing is read by a step of a device
reads_nothing : (D : Desc) (w : World) (d : ℕ) (entry : Entry) → is_step_of d entry ≡ true → bytes_read w entry ≡ []
reads_nothing D w d (Issue e n) own = refl
reads_nothing D w d (Deliver e n) own = refl
reads_nothing D w d (Complete e n) own = refl
reads_nothing D w d (Hold e to) own = refl
reads_nothing D w d (Arc e to) own = refl
reads_nothing D w d (Fail e to) own = refl
reads_nothing D w d (Report e) own = refl
reads_nothing D w d (Pass k) own = refl
reads_nothing D w d (Copy p) own = absurd (false≢true own)
reads_nothing D w d (Block e b) own = absurd (false≢true own)
reads_nothing D w d (Dry e) own = refl
reads_nothing D w d Begin own = refl
reads_nothing D w d Joint own = refl
reads_nothing D w d Abort own = refl
reads_nothing D w d Resume own = refl

pub dev_drawn : (a : Attempt) (d pick place : ℕ) (entry : Entry) (cells : List ℕ) (f g : ℕ → Cell) (stamp : ℕ) → a.wish ≡ wish.Device d pick
    → d < device_count a.desc → has (dev_number d) cells ≡ true → picked (enabled_steps a.desc d (dev_or_none (f (dev_number d)))) pick ≡ Some entry
    → is_step_of d entry ≡ true → IsMade a.desc entry cells f g → a.new ≡ turned a.by stamp entry (touches_by f g cells) a.old
    → place ≡ a.base + stamp → a.bytes ≡ [] → HasDrawn a place entry
dev_drawn a d pick place entry cells f g stamp asks inside own named kind made seen placed none =
    record {
      stamp = stamp;
      touches = touches_by f g cells;
      seen = seen;
      placed = placed;
      step = made_step a.desc entry cells f g made;
      wished = subst (λ (w : Wish). IsWished a.desc w (touches_by f g cells) entry) (sym asks)
          (λ (w : World) (found : IsFoundIn a.desc w (touches_by f g cells)).
          ap (λ (dev : Dev). picked (enabled_steps a.desc d dev) pick)
          (sym (own_dev_is a.desc w d (f (dev_number d)) inside (found_at a.desc w cells f g found (dev_number d) own))) ∙ named);
      read = λ w found. none ∙ sym (reads_nothing a.desc w d entry kind);
    }

-- an entry of a device that is no delivery
pub own_step : (d : ℕ) (entry : Entry) → is_step_of d entry ≡ true → ((k n : ℕ) → entry ≡ Deliver k n → ⊥) → is_own_of d entry ≡ true
own_step d (Issue e n) kind apart = kind
own_step d (Deliver e n) kind apart = absurd (apart e n refl)
own_step d (Complete e n) kind apart = kind
own_step d (Hold e to) kind apart = kind
own_step d (Arc e to) kind apart = kind
own_step d (Fail e to) kind apart = kind
own_step d (Report e) kind apart = kind
own_step d (Pass k) kind apart = kind
own_step d (Copy p) kind apart = kind
own_step d (Block e b) kind apart = kind
own_step d (Dry e) kind apart = kind
own_step d Begin kind apart = kind
own_step d Joint kind apart = kind
own_step d Abort kind apart = kind
own_step d Resume kind apart = kind

pub step_own : (d : ℕ) (entry : Entry) → is_own_of d entry ≡ true → is_step_of d entry ≡ true
step_own d (Issue e n) kind = kind
step_own d (Deliver e n) kind = absurd (false≢true kind)
step_own d (Complete e n) kind = kind
step_own d (Hold e to) kind = kind
step_own d (Arc e to) kind = kind
step_own d (Fail e to) kind = kind
step_own d (Report e) kind = kind
step_own d (Pass k) kind = kind
step_own d (Copy p) kind = kind
step_own d (Block e b) kind = kind
step_own d (Dry e) kind = kind
step_own d Begin kind = kind
step_own d Joint kind = kind
step_own d Abort kind = kind
step_own d Resume kind = kind

-- one held cell is left after a note
pub looked_one : (s t : Seen Cell) (cell answer : ℕ) (own : Cell) → t ≡ left cell (noted answer s) → s.holds ≡ hold cell own own ∷ []
    → t ≡ looked answer (hold cell own own ∷ []) s
looked_one s t cell answer own seen stands =
    seen
    ∙ (ap (λ (hs : List (Holding Cell)). left cell (noted answer (record s { holds = hs }))) stands
    ∙ ap (λ (hs : List (Holding Cell)). record (looked answer (hold cell own own ∷ []) s) { holds = hs }) (cond-true _ _ _ (eq-eqb cell cell refl)))

pub one_held : (cell : ℕ) (own : Cell) (holds : List (Holding Cell)) → holds ≡ hold cell own own ∷ [] → is_held cell holds ≡ true
one_held cell own holds is = ap (is_held cell) is ∙ ap (λ (b : Bool). b || false) (eq-eqb cell cell refl)

pub dev_looked : (a : Attempt) (d pick at answer : ℕ) (own : Cell) (seen : DevLook) → a.wish ≡ wish.Device d pick → d < device_count a.desc
    → picked (enabled_steps a.desc d (dev_or_none own)) pick ≡ None → seen ≡ look_in a.desc d (dev_or_none own)
    → a.new ≡ looked answer (hold (dev_number d) own own ∷ []) a.old → at ≡ a.base + answer → a.bytes ≡ [] → HasLooked a at (look.Device seen)
dev_looked a d pick at answer own seen asks inside none shows new placed bytes =
    record {
      answer = answer;
      holds = hold (dev_number d) own own ∷ [];
      noted = new;
      placed = placed;
      look = subst (λ (w : Wish). IsSeen a.desc w (map settled_of (hold (dev_number d) own own ∷ [])) (look.Device seen)) (sym asks)
          (λ (w : World) (there : AreIn a.desc w (map settled_of (hold (dev_number d) own own ∷ []))).
          let same : dev_or_none own ≡ dev_at w d = own_dev_is a.desc w d own inside there.0.1 in (
            ap look.Device (shows ∙ ap (look_in a.desc d) same),
            ap (λ (dev : Dev). picked (enabled_steps a.desc d dev) pick) (sym same) ∙ none,
          ));
      bytes = bytes;
    }

-- ---- a delivery

pub pair_drawn : (a : Attempt) (d n pick place k cell : ℕ) (region : Region) (own target own' target' : Cell) (stamp : ℕ) → a.wish ≡ wish.Device d pick
    → d < device_count a.desc → picked (enabled_steps a.desc d (dev_or_none own)) pick ≡ Some (Deliver d n)
    → IsDelivered a.desc d n region own target own' target' → k ≡ dev_number d → cell ≡ region_number a.desc region
    → a.new ≡ turned a.by stamp (Deliver d n) (touches_by (two_cells k own target) (two_cells k own' target') (in_order k cell)) a.old
    → place ≡ a.base + stamp → a.bytes ≡ [] → HasDrawn a place (Deliver d n)
pair_drawn a d n pick place k cell region own target own' target' stamp asks inside named made first second seen placed none =
    let cells = in_order (dev_number d) (region_number a.desc region) in
    dev_drawn a d pick place (Deliver d n) cells (two_cells (dev_number d) own target) (two_cells (dev_number d) own' target') stamp asks inside
    (order_has (dev_number d) (region_number a.desc region) (dev_number d)
    ∙ ap (λ (b : Bool). b || region_number a.desc region == dev_number d) (eq-eqb (d + 1) (d + 1) refl))
    (ap (λ (x : Cell). picked (enabled_steps a.desc d (dev_or_none x)) pick) (cond-true _ own target (eq-eqb (d + 1) (d + 1) refl)) ∙ named)
    (eq-eqb d d refl) made.made
    (seen
    ∙ ap₂ (λ (i j : ℕ). turned a.by stamp (Deliver d n) (touches_by (two_cells i own target) (two_cells i own' target') (in_order i j)) a.old) first second)
    placed none

pub met_one : (s t : Seen Cell) (busy : Busy) (cell answer : ℕ) (own : Cell) → t ≡ left cell (noted answer (met busy s)) → s.holds ≡ hold cell own own ∷ []
    → t ≡ record s { holds = []; notes = note answer (map settled_of (hold cell own own ∷ [])) ∷ s.notes; meetings = busy ∷ s.meetings }
met_one s t busy cell answer own seen stands =
    seen
    ∙ (ap (λ (hs : List (Holding Cell)). left cell (noted answer (met busy (record s { holds = hs })))) stands
    ∙ ap (λ (hs : List (Holding Cell)). record s { holds = hs; notes = note answer (map settled_of (hold cell own own ∷ [])) ∷ s.notes; meetings = busy ∷ s.meetings })
    (cond-true _ _ _ (eq-eqb cell cell refl)))

pub dev_met : (a : Attempt) (busy : Busy) (d n pick answer : ℕ) (region : Region) (own : Cell) → a.wish ≡ wish.Device d pick → d < device_count a.desc
    → picked (enabled_steps a.desc d (dev_or_none own)) pick ≡ Some (Deliver d n) → target_in a.desc d n (dev_or_none own) ≡ Some region
    → busy.cell ≡ region_number a.desc region
    → a.new ≡ record a.old { holds = []; notes = note answer (map settled_of (hold (dev_number d) own own ∷ [])) ∷ a.old.notes; meetings = busy ∷ a.old.meetings }
    → busy.holder < a.seats → busy.holder ≢ a.by → a.bytes ≡ [] → HasMet a busy.cell busy.holder
dev_met a busy d n pick answer region own asks inside named aimed cell seen seat another none =
    record {
      met = inr (record {
        answer = answer;
        holds = hold (dev_number d) own own ∷ [];
        seen = seen;
        other = subst (λ (w : Wish). IsOtherCell a.desc w (map settled_of (hold (dev_number d) own own ∷ [])) busy.cell) (sym asks)
            (λ (w : World) (there : AreIn a.desc w (map settled_of (hold (dev_number d) own own ∷ []))).
            let same : dev_or_none own ≡ dev_at w d = own_dev_is a.desc w d own inside there.0.1 in (
              n,
              region,
              ap (λ (dev : Dev). picked (enabled_steps a.desc d dev) pick) (sym same) ∙ named,
              ap (λ (dev : Dev). target_in a.desc d n dev) (sym same) ∙ aimed,
              cell,
            ));
      });
      seat = seat;
      another = another;
      bytes = none;
    }

pub met_at_once : (a : Attempt) (busy : Busy) → a.new ≡ record a.old { holds = []; meetings = busy ∷ a.old.meetings } → IsOwnCell a.desc a.wish busy.cell
    → busy.holder < a.seats → busy.holder ≢ a.by → a.bytes ≡ [] → HasMet a busy.cell busy.holder
met_at_once a busy seen own seat another none = record { met = inl (record { seen = seen; own = own }); seat = seat; another = another; bytes = none }

-- ---- what is so of the device's part

pub dev_fits_of : (D : Desc) (d : ℕ) (own : Cell) → d < device_count D → CellFits D (dev_number d) own → DevFits D d (dev_or_none own)
dev_fits_of D d (lead_cell lead) inside fits = let never = fits.0 in absurd (omega arith)
dev_fits_of D d (device_cell dev) inside fits = let same : d + 1 - 1 ≡ d = omega arith in subst (λ (k : ℕ). DevFits D k dev) same fits.2
dev_fits_of D d (page_cell bytes) inside fits = let never = fits.0 in absurd (omega arith)

pub pick_allowed : (D : Desc) (d pick : ℕ) (own : Cell) (entry : Entry) → d < device_count D → CellFits D (dev_number d) own
    → picked (enabled_steps D d (dev_or_none own)) pick ≡ Some entry → Allowed D d (dev_or_none own) entry
pick_allowed D d pick own entry inside fits named =
    enabled_allowed D d (dev_or_none own) (pick % length (enabled_steps D d (dev_or_none own))) entry (dev_fits_of D d own inside fits) named

-- whose delivery it is
pub same_device : (d k n : ℕ) (entry : Entry) → is_step_of d entry ≡ true → entry ≡ Deliver k n → entry ≡ Deliver d n
same_device d k n entry kind is =
    let same : k ≡ d = eqb-true k d (ap (is_step_of d) (sym is) ∙ kind) in is ∙ ap (λ (j : ℕ). Deliver j n) same

-- ---- before a cell is entered

pub outcome_from : (a : Attempt) (s : Seen Cell) (holds : List (Holding Cell)) (r : Stepped) → s ≡ record a.old { holds = holds }
    → IsOutcome (record a { old = s }) r → IsOutcome a r
outcome_from a s holds r is out =
    go r (subst (λ (o : Seen Cell). IsOutcome (record a { old = o }) r) is out)
  where
    go : (r : Stepped) → IsOutcome (record a { old = record a.old { holds = holds } }) r → IsOutcome a r
    go (stepped.Did place entry) o =
        record { stamp = o.stamp; touches = o.touches; seen = o.seen; placed = o.placed; step = o.step; wished = o.wished; read = o.read }
    go (stepped.Nothing at seen) o =
        record { answer = o.answer; holds = o.holds; noted = o.noted; placed = o.placed; look = o.look; bytes = o.bytes }
    go (stepped.Busy cell holder) o =
        record {
          met = elim o.met [
            | inl x ↦ inl (record { seen = x.seen; own = x.own })
            | inr x ↦ inr (record { answer = x.answer; holds = x.holds; seen = x.seen; other = x.other })
          ];
          seat = o.seat;
          another = o.another;
          bytes = o.bytes;
        }
