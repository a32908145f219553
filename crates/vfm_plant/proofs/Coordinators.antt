-- What came of the coordinator's wish.
use Rattle.std.proofs.Common.{◌≡◌, ℕ, suc, zero, ◌+◌, ◌*◌, ◌<◌, ◌≤◌, ◌==◌, ◌||◌, not, append-nil, Bool, true, false, nat_lt, take, drop, ltb-true, eqb-true, ⊎_elim, List, [], ◌∷◌, ◌++◌, map, length, Some, refl, ap, ap₂, sym, subst, ◌∙◌, arith}
use Rattle.vfm_types.specs.declared.desc.Desc.{Desc}
use Rattle.vfm_types.specs.declared.entry.Entry.{Entry}
use Rattle.std.proofs.lemmas.Bool.{eq-eqb, and_parts, cases_lt, false≢true}
use Rattle.vfm_types.specs.declared.entry.Entry.TheVariants.{Issue, Deliver, Complete, Hold, Arc, Fail, Report, Pass, Copy, Block, Dry, Begin, Joint, Abort, Resume}
use Rattle.vfm_types.specs.declared.entry.Rule.{Rule}
use Rattle.vfm_types.specs.Desc.{block_count, device_count, shape_at}
use Rattle.vfm_plain.specs.Legal.{is_entry_of}
use Rattle.vfm_parts.specs.Steps.{fault_on}
use Rattle.vfm_laws.proofs.Walks.{some_none}
use Rattle.vfm_quiet.specs.declared.want.Want.{Want}
use Rattle.vfm_quiet.specs.declared.want.Want.TheVariants.{Do}
use Rattle.vfm_quiet.specs.Order.{next_want}
use Rattle.std.proofs.Math.Bool.{or-false}
use Rattle.std.proofs.lemmas.List.Elements.{All-push}
use Rattle.vfm_laws.proofs.Rising.{by_bool}
use Rattle.vfm_turn.proofs.Lists.{each_snoc}
use Rattle.vfm_turn.proofs.Tickets.{once_end}
use Rattle.vfm_cells.specs.CellFits.{CellFits}
use Rattle.vfm_turn.specs.Order.{are_once, has}
use Rattle.vfm_cells.specs.Touched.{touched, up_from}
use Rattle.vfm_cells.proofs.Numbers.{copy_page, two_dev, up_has}
use Rattle.vfm_parts.specs.Parts.{Dev, Lead, Parts, World, parts_in, dev_at, no_dev, listed}
use Rattle.vfm_parts.proofs.Listed.{listed_at, listed_items, listed_same}
use Rattle.vfm_quiet.specs.declared.move_look.MoveLook.{MoveLook}
use Rattle.vfm_turn.specs.Seen.{Hold as Holding, hold, settled_of}
use Rattle.vfm_cells.specs.Cells.{Cell, page_cell, page_number, bytes_or_none, device_cell, dev_or_none, lead_or_first, cell_at, cell_count, dev_number, IsWhole}
use Rattle.vfm_cells.proofs.Whole.{cell_dev, cell_page}
use Rattle.vfm_lead.specs.LeadSteps.{AreSound, dev_of_list, lead_fault, is_of_lead, parts_of}
use Rattle.vfm_lead.specs.Shown.{Shows}
use Rattle.vfm_core.specs.CoreState.{world_with}
use Rattle.vfm_cell_steps.specs.Made.{group, IsStepTo}
use Rattle.vfm_plant_laws.specs.OneRun.{AreIn, IsFoundIn}
use Rattle.vfm_plant.specs.declared.hand.Hand.{Hand}
use Rattle.vfm_plant.specs.declared.stepped.Wish.{Wish}
use Rattle.vfm_plant.specs.declared.stepped.Wish.TheVariants as wish
use Rattle.vfm_plant.specs.declared.stepped.Look.TheVariants as look
use Rattle.vfm_plant.specs.Group.{hand_of, dev_hands, group_hands, group_holds, is_made_by_seats, IsGroupTurn}
use Rattle.vfm_plant.specs.Hands.{AreAmong, AreFitting, AreParts, cells_held, hand_cell, held, rest_of, touches_by, turned}
use Rattle.vfm_plant.proofs.Holds.{has_end, map_end, rest_held}
use Rattle.vfm_plant.proofs.GroupHands.{group_cells, group_fits, group_once, group_past}
use Rattle.vfm_plant.proofs.Turns.{befores_by, cells_by, found_at, made_step}
use Rattle.vfm_plant.specs.Outcome.{Attempt, HasDrawn, IsOtherCell, IsSeen, IsWished, WantsNothing, bytes_in_group, bytes_read}

-- what is held stands in the world
abbrev StandIn : Desc → World → List (Holding Cell) → Type 0
StandIn D w holds = AreIn D w (map settled_of holds)

front : (D : Desc) (w : World) (xs ys : List (Holding Cell)) → StandIn D w (xs ++ ys) → StandIn D w xs
front D w [] ys there = tt
front D w (x ∷ xs) ys there = (there.0, front D w xs ys there.1)

devs_in : (D : Desc) (w : World) (d : ℕ) (devs : List Dev) → d + length devs ≤ device_count D → StandIn D w (map rest_of (dev_hands (d + 1) devs))
    → (i : ℕ) → i < length devs → dev_of_list devs i ≡ dev_at w (d + i)
devs_in D w d [] few there i inside = absurd (omega arith)
devs_in D w d (dev ∷ devs) few there zero inside =
    let here : dev ≡ dev_at w d = ap dev_or_none (there.0.1 ∙ cell_dev D (parts_in w) d (omega arith)) in
    here ∙ ap (dev_at w) (omega arith)
devs_in D w d (dev ∷ devs) few there (suc i) inside =
    devs_in D w (d + 1) devs (omega arith) there.1 i (omega arith) ∙ ap (dev_at w) (omega arith)

-- a world in which the coordinator's cell and each device's stand so
pub group_world : (D : Desc) (w : World) (lead : Lead) (devs : List Dev) (more : List (Holding Cell)) → IsWhole D w → length devs ≡ device_count D
    → StandIn D w (group_holds lead devs ++ more) → w ≡ world_with lead devs w.pages
group_world D w lead devs more whole count there =
    let stand = front D w (group_holds lead devs) more there in
    let first : lead ≡ w.lead = ap (lead_or_first D) stand.0.1 in
    let each : (i : ℕ) → i < device_count D → dev_of_list devs i ≡ dev_at w i =
    λ i h. devs_in D w 0 devs (omega arith) stand.1 i (omega arith) ∙ ap (dev_at w) (omega arith) in
    let all : devs ≡ w.devs =
    sym (listed_items (device_count D) devs no_dev count) ∙ (listed_same (device_count D) (dev_of_list devs) (dev_at w) each ∙ listed_items (device_count D) w.devs no_dev whole.devs) in
    ap₂ (λ (l : Lead) (ds : List Dev). world_with l ds w.pages) (sym first) (sym all)

-- the look shows such a world, whatever its pages are
pub shows_in : (D : Desc) (lead : Lead) (devs : List Dev) (pages : List (List ℕ)) (seen : MoveLook) → Shows D (parts_of lead devs) seen
    → Shows D (parts_in (world_with lead devs pages)) seen
shows_in D lead devs pages seen s =
    record {
      begun = s.begun;
      joint = s.joint;
      aborted = s.aborted;
      resumed = s.resumed;
      failed = s.failed;
      passes = s.passes;
      ended = s.ended;
      last = s.last;
      set = s.set;
      next_copy = s.next_copy;
      part = s.part;
      next_block = s.next_block;
      count = s.count;
      reported = s.reported;
      devices = s.devices;
      ready = s.ready;
    }

-- there is nothing to be made in it
pub seen_rests : (D : Desc) (lead : Lead) (devs : List Dev) (more : List (Holding Cell)) (seen : MoveLook) (abort_after : ℕ) → length devs ≡ device_count D
    → Shows D (parts_of lead devs) seen → WantsNothing D (group D lead devs []) seen abort_after
    → IsSeen D (wish.Coordinator abort_after) (map settled_of (group_holds lead devs ++ more)) (look.Coordinator seen)
seen_rests D lead devs more seen abort_after count shows none = λ w whole there.
    let is = group_world D w lead devs more whole count there in (
      seen,
      refl,
      subst (λ (v : World). Shows D (parts_in v) seen) (sym is) (shows_in D lead devs w.pages seen shows),
      subst (λ (v : World). WantsNothing D v seen abort_after) (sym is) none,
    )

-- ---- turns on the group

parts_devs : (D : Desc) (w : World) (d : ℕ) (devs : List Dev) → d + length devs ≤ device_count D → ((i : ℕ) → i < length devs → dev_at w (d + i) ≡ dev_of_list devs i)
    → AreParts (cell_at D w) (dev_hands (d + 1) devs)
parts_devs D w d [] few same = tt
parts_devs D w d (dev ∷ devs) few same = (
  cell_dev D (parts_in w) d (omega arith) ∙ ap device_cell (ap (dev_at w) (omega arith) ∙ same 0 (omega arith)),
  parts_devs D w (d + 1) devs (omega arith) (λ i h. ap (dev_at w) (omega arith) ∙ same (suc i) (omega arith)),
)

pub parts_group : (D : Desc) (lead : Lead) (devs : List Dev) (pages : List (List ℕ)) → length devs ≡ device_count D
    → AreParts (cell_at D (world_with lead devs pages)) (group_hands lead devs)
parts_group D lead devs pages count =
    (refl, parts_devs D (world_with lead devs pages) 0 devs (omega arith) (λ i h. ap (dev_at (world_with lead devs pages)) (omega arith)))

among_up : (cells others : List ℕ) → ((c : ℕ) → has c cells ≡ true → has c others ≡ true) → AreAmong cells others
among_up [] others all = tt
among_up (c ∷ cells) others all = (
  all c (ap (λ (b : Bool). b || has c cells) (eq-eqb c c refl)),
  among_up cells others (λ k among. all k (ap (λ (b : Bool). c == k || b) among ∙ or-true (c == k))),
)
  where
    or-true : (b : Bool) → (b || true) ≡ true
    or-true true = refl
    or-true false = refl

among_two : (D : Desc) (d : ℕ) → d < device_count D → AreAmong (0 ∷ dev_number d ∷ []) (up_from 0 (device_count D + 1))
among_two D d inside =
    (up_has 0 0 (device_count D + 1) (omega arith) (omega arith), (up_has (d + 1) 0 (device_count D + 1) (omega arith) (omega arith), tt))

lead_among : (D : Desc) (parts : Parts) (entry : Entry) → is_of_lead entry ≡ true → is_entry_of D entry ≡ true → AreAmong (touched D parts entry) (up_from 0 (device_count D + 1))
lead_among D parts (Issue d n) kind named = absurd (false≢true kind)
lead_among D parts (Deliver d n) kind named = absurd (false≢true kind)
lead_among D parts (Complete d n) kind named = absurd (false≢true kind)
lead_among D parts (Copy p) kind named = absurd (false≢true kind)
lead_among D parts (Report d) kind named = among_two D d (ltb-true d (device_count D) named)
lead_among D parts (Block d b) kind named = among_two D d (ltb-true d (device_count D) (and_parts (nat_lt d (device_count D)) (nat_lt b (block_count (shape_at D d))) named).0)
lead_among D parts (Dry d) kind named = among_two D d (ltb-true d (device_count D) named)
lead_among D parts (Hold d to) kind named = among_up (up_from 0 (device_count D + 1)) (up_from 0 (device_count D + 1)) (λ c among. among)
lead_among D parts (Arc d to) kind named = among_up (up_from 0 (device_count D + 1)) (up_from 0 (device_count D + 1)) (λ c among. among)
lead_among D parts (Fail d to) kind named = among_up (up_from 0 (device_count D + 1)) (up_from 0 (device_count D + 1)) (λ c among. among)
lead_among D parts (Pass k) kind named = among_up (up_from 0 (device_count D + 1)) (up_from 0 (device_count D + 1)) (λ c among. among)
lead_among D parts Begin kind named = among_up (up_from 0 (device_count D + 1)) (up_from 0 (device_count D + 1)) (λ c among. among)
lead_among D parts Joint kind named = among_up (up_from 0 (device_count D + 1)) (up_from 0 (device_count D + 1)) (λ c among. among)
lead_among D parts Abort kind named = among_up (up_from 0 (device_count D + 1)) (up_from 0 (device_count D + 1)) (λ c among. among)
lead_among D parts Resume kind named = among_up (up_from 0 (device_count D + 1)) (up_from 0 (device_count D + 1)) (λ c among. among)

cells_of_group : (D : Desc) (lead : Lead) (devs : List Dev) → length devs ≡ device_count D → cells_held (group_hands lead devs) ≡ up_from 0 (device_count D + 1)
cells_of_group D lead devs count = let same : suc (length devs) ≡ device_count D + 1 = omega arith in group_cells lead devs ∙ ap (up_from 0) same

group_below : (D : Desc) (lead : Lead) (devs : List Dev) (c : ℕ) → length devs ≡ device_count D → has c (cells_held (group_hands lead devs)) ≡ true → c < cell_count D
group_below D lead devs c count among =
    ⊎_elim (λ (h : c < device_count D + 1). let low : c < cell_count D = omega arith in low)
    (λ (h : device_count D + 1 ≤ c). absurd (false≢true (sym (group_past lead devs c (omega arith)) ∙ among))) (cases_lt c (device_count D + 1))

pub group_turn : (D : Desc) (entry : Entry) (holds : List (Holding Cell)) (hands : List Hand) (lead lead' : Lead) (devs devs' : List Dev) (bytes : List ℕ)
    → length devs ≡ device_count D → length devs' ≡ device_count D → is_of_lead entry ≡ true → is_entry_of D entry ≡ true
    → holds ≡ group_holds lead devs → hands ≡ group_hands lead' devs' → IsStepTo D entry (group D lead devs bytes) (group D lead' devs' bytes)
    → IsGroupTurn D entry holds hands (group D lead devs bytes) (group D lead' devs' bytes)
group_turn D entry holds hands lead lead' devs devs' bytes count count' kind named stands are step =
    subst (λ (hs : List Hand). IsGroupTurn D entry holds hs (group D lead devs bytes) (group D lead' devs' bytes)) (sym are)
    record {
      holds_are =
          stands
          ∙ (sym (rest_held (cell_at D (group D lead devs bytes)) (group_hands lead devs) (parts_group D lead devs (listed D.pages (λ p. bytes)) count))
          ∙ ap (held (cell_at D (group D lead devs bytes)) (cell_at D (group D lead devs bytes))) (cells_of_group D lead devs count ∙ sym (cells_of_group D lead' devs' count')));
      parts = parts_group D lead' devs' (listed D.pages (λ p. bytes)) count';
      below = λ c among. group_below D lead' devs' c count' among;
      among = subst (λ (cells : List ℕ). AreAmong (touched D (parts_in (group D lead devs bytes)) entry) cells) (sym (cells_of_group D lead' devs' count'))
          (lead_among D (parts_in (group D lead devs bytes)) entry kind named);
      step = step;
    }

-- ---- what was drawn

found_by : (D : Desc) (w : World) (f g : ℕ → Cell) (cells : List ℕ) → f ≡ cell_at D w → IsFoundIn D w (touches_by f g cells)
found_by D w f g cells is = befores_by f g cells ∙ (ap (λ (h : ℕ → Cell). map h cells) is ∙ ap (map (cell_at D w)) (sym (cells_by f g cells)))

pub lead_drawn : (a : Attempt) (abort_after place stamp : ℕ) (entry : Entry) (w v : World) (seen : MoveLook) → a.wish ≡ wish.Coordinator abort_after
    → IsStepTo a.desc entry w v
    → a.new ≡ turned a.by stamp entry (touches_by (cell_at a.desc w) (cell_at a.desc v) (touched a.desc (parts_in w) entry)) a.old
    → place ≡ a.base + stamp → Shows a.desc (parts_in w) seen → next_want a.desc seen abort_after ≡ Do entry → is_made_by_seats entry ≡ true
    → ((u : World) → IsFoundIn a.desc u (touches_by (cell_at a.desc w) (cell_at a.desc v) (touched a.desc (parts_in w) entry)) → a.bytes ≡ bytes_read u entry)
    → HasDrawn a place entry
lead_drawn a abort_after place stamp entry w v seen asks step new placed shows wants made reads =
    let D = a.desc in
    let cells = touched D (parts_in w) entry in
    record {
      stamp = stamp;
      touches = touches_by (cell_at D w) (cell_at D v) cells;
      seen = new;
      placed = placed;
      step = made_step D entry cells (cell_at D w) (cell_at D v) step.made;
      wished = subst (λ (x : Wish). IsWished D x (touches_by (cell_at D w) (cell_at D v) cells) entry) (sym asks)
          (w, seen, found_by D w (cell_at D w) (cell_at D v) cells refl, shows, wants, made);
      read = reads;
    }

-- what an entry that copies no page reads
pub group_reads : (D : Desc) (lead : Lead) (devs : List Dev) (pages : List (List ℕ)) (entry : Entry) (v : World) → is_of_lead entry ≡ true → is_entry_of D entry ≡ true
    → (u : World) → IsFoundIn D u (touches_by (cell_at D (world_with lead devs pages)) (cell_at D v) (touched D (parts_in (world_with lead devs pages)) entry))
    → bytes_in_group lead devs entry ≡ bytes_read u entry
group_reads D lead devs pages (Block d b) v kind named u found =
    let inside : d < device_count D = ltb-true d (device_count D) (and_parts (nat_lt d (device_count D)) (nat_lt b (block_count (shape_at D d))) named).0 in
    let w = world_with lead devs pages in
    let there = found_at D u (0 ∷ dev_number d ∷ []) (cell_at D w) (cell_at D v) found (dev_number d) (two_dev d d ∙ eq-eqb d d refl) in
    let same : dev_at w d ≡ dev_at u d = ap dev_or_none (sym (cell_dev D (parts_in w) d inside) ∙ (there ∙ cell_dev D (parts_in u) d inside)) in
    ap (λ (dev : Dev). take 64 (drop (64 * b) dev.plain.bar)) same
group_reads D lead devs pages (Copy p) v kind named u found = absurd (false≢true kind)
group_reads D lead devs pages (Issue d n) v kind named u found = refl
group_reads D lead devs pages (Deliver d n) v kind named u found = refl
group_reads D lead devs pages (Complete d n) v kind named u found = refl
group_reads D lead devs pages (Hold d to) v kind named u found = refl
group_reads D lead devs pages (Arc d to) v kind named u found = refl
group_reads D lead devs pages (Fail d to) v kind named u found = refl
group_reads D lead devs pages (Report d) v kind named u found = refl
group_reads D lead devs pages (Pass k) v kind named u found = refl
group_reads D lead devs pages (Dry d) v kind named u found = refl
group_reads D lead devs pages Begin v kind named u found = refl
group_reads D lead devs pages Joint v kind named u found = refl
group_reads D lead devs pages Abort v kind named u found = refl
group_reads D lead devs pages Resume v kind named u found = refl

-- the wanted entry breaks a rule
do_same : (e e' : Entry) → Do e ≡ Do e' → e ≡ e'
do_same e e' is = cc

pub wants_barred : (D : Desc) (w : World) (seen : MoveLook) (abort_after : ℕ) (entry : Entry) (rule : Rule) → next_want D seen abort_after ≡ Do entry
    → fault_on D w entry ≡ Some rule → WantsNothing D w seen abort_after
wants_barred D w seen abort_after entry rule wants broken = λ other wanted made named fine.
    let same : other ≡ entry = do_same other entry (sym wanted ∙ wants) in
    some_none rule (sym broken ∙ (ap (fault_on D w) (sym same) ∙ fine))

-- ---- the copying of a page

both_hands : (D : Desc) (lead : Lead) (devs : List Dev) (bytes : List ℕ) (p cell : ℕ) → length devs ≡ device_count D → p < D.pages → cell ≡ page_number D p
    → AreParts (cell_at D (group D lead devs bytes)) (group_hands lead devs ++ hand_of cell (page_cell bytes) ∷ [])
both_hands D lead devs bytes p cell count inside is =
    each_snoc (λ h. cell_at D (group D lead devs bytes) h.cell ≡ h.part) (group_hands lead devs) (hand_of cell (page_cell bytes))
    (parts_group D lead devs (listed D.pages (λ q. bytes)) count)
    (ap (cell_at D (group D lead devs bytes)) is
    ∙ (cell_page D (parts_in (group D lead devs bytes)) p ∙ ap page_cell (listed_at D.pages (λ q. bytes) p [] inside)))

cells_with : (D : Desc) (lead : Lead) (devs : List Dev) (cell : ℕ) (part : Cell) → length devs ≡ device_count D
    → cells_held (group_hands lead devs ++ hand_of cell part ∷ []) ≡ up_from 0 (device_count D + 1) ++ cell ∷ []
cells_with D lead devs cell part count =
    map_end hand_cell (group_hands lead devs) (hand_of cell part) ∙ ap (λ (cs : List ℕ). cs ++ cell ∷ []) (cells_of_group D lead devs count)

has_either : (P : ℕ → Type 0) (c y : ℕ) (xs : List ℕ) → has c (xs ++ y ∷ []) ≡ true → (has c xs ≡ true → P c) → P y → P c
has_either P c y [] among first last = subst P (eqb-true y c (sym (or-false (y == c)) ∙ among)) last
has_either P c y (x ∷ xs) among first last =
    by_bool (x == c) (λ b. (x == c) ≡ b → (b || has c (xs ++ y ∷ [])) ≡ true → P c)
    (λ here e m. first (ap (λ (b : Bool). b || has c xs) e))
    (λ away e m. has_either P c y xs m (λ h. first (ap (λ (b : Bool). b || has c xs) e ∙ h)) last) refl among

has_more : (c : ℕ) (xs ys : List ℕ) → has c xs ≡ true → has c (xs ++ ys) ≡ true
has_more c [] ys among = absurd (false≢true among)
has_more c (x ∷ xs) ys among =
    by_bool (x == c) (λ b. (b || has c xs) ≡ true → (b || has c (xs ++ ys)) ≡ true) (λ here m. refl) (λ away m. has_more c xs ys m) among

page_past : (D : Desc) (p c : ℕ) → p < D.pages → c ≡ page_number D p → c < cell_count D
page_past D p c inside is = omega arith

pub copy_turn : (D : Desc) (holds : List (Holding Cell)) (hands : List Hand) (lead lead' : Lead) (devs : List Dev) (bytes : List ℕ) (p cell : ℕ)
    → length devs ≡ device_count D → p < D.pages → cell ≡ page_number D p
    → holds ≡ group_holds lead devs ++ hold cell (page_cell bytes) (page_cell bytes) ∷ [] → hands ≡ group_hands lead' devs ++ hand_of cell (page_cell bytes) ∷ []
    → IsStepTo D (Copy p) (group D lead devs bytes) (group D lead' devs bytes)
    → IsGroupTurn D (Copy p) holds hands (group D lead devs bytes) (group D lead' devs bytes)
copy_turn D holds hands lead lead' devs bytes p cell count inside is stands are step =
    let f = cell_at D (group D lead devs bytes) in
    let all = group_hands lead devs ++ hand_of cell (page_cell bytes) ∷ [] in
    let all' = group_hands lead' devs ++ hand_of cell (page_cell bytes) ∷ [] in
    let cells' = cells_with D lead' devs cell (page_cell bytes) count in
    subst (λ (hs : List Hand). IsGroupTurn D (Copy p) holds hs (group D lead devs bytes) (group D lead' devs bytes)) (sym are)
    record {
      holds_are =
          stands
          ∙ (sym (map_end rest_of (group_hands lead devs) (hand_of cell (page_cell bytes)))
          ∙ (sym (rest_held f all (both_hands D lead devs bytes p cell count inside is))
          ∙ ap (held f f) (cells_with D lead devs cell (page_cell bytes) count ∙ sym cells')));
      parts = both_hands D lead' devs bytes p cell count inside is;
      below = λ c among.
          has_either (λ k. k < cell_count D) c cell (up_from 0 (device_count D + 1)) (ap (has c) (sym cells') ∙ among)
          (λ h. group_below D lead' devs c count (ap (has c) (cells_of_group D lead' devs count) ∙ h)) (page_past D p cell inside is);
      among = subst (λ (cells : List ℕ). AreAmong (0 ∷ page_number D p ∷ []) cells) (sym cells') (
        has_more 0 (up_from 0 (device_count D + 1)) (cell ∷ []) (up_has 0 0 (device_count D + 1) (omega arith) (omega arith)),
        (subst (λ (k : ℕ). has k (up_from 0 (device_count D + 1) ++ cell ∷ []) ≡ true) is (has_end cell (up_from 0 (device_count D + 1))), tt),
      );
      step = step;
    }

pub copy_reads : (D : Desc) (lead : Lead) (devs : List Dev) (bytes : List ℕ) (p : ℕ) (v u : World) → p < D.pages
    → IsFoundIn D u (touches_by (cell_at D (group D lead devs bytes)) (cell_at D v) (0 ∷ page_number D p ∷ [])) → bytes ≡ bytes_read u (Copy p)
copy_reads D lead devs bytes p v u inside found =
    let w = group D lead devs bytes in
    let there = found_at D u (0 ∷ page_number D p ∷ []) (cell_at D w) (cell_at D v) found (page_number D p) (copy_page D p p ∙ eq-eqb p p refl) in
    ap bytes_or_none
    (ap page_cell (sym (listed_at D.pages (λ q. bytes) p [] inside)) ∙ (sym (cell_page D (parts_in w) p) ∙ (there ∙ cell_page D (parts_in u) p)))

-- what is held with the page's cell
pub copy_holding : (D : Desc) (lead : Lead) (devs : List Dev) (page : Cell) (p cell : ℕ) (hands : List Hand) → AreSound D lead devs → cell ≡ page_number D p
    → CellFits D cell page → hands ≡ group_hands lead devs ++ hand_of cell page ∷ []
    → (are_once (cells_held hands) ≡ true) × AreFitting D hands
copy_holding D lead devs page p cell hands sound is fits are =
    let count = sound.devs_fit.count in (
      ap (λ (hs : List Hand). are_once (cells_held hs)) are
          ∙ (ap are_once (map_end hand_cell (group_hands lead devs) (hand_of cell page))
          ∙ once_end cell (cells_held (group_hands lead devs)) (group_once lead devs) (group_past lead devs cell (omega arith))),
      subst (AreFitting D) (sym are)
          (All-push (λ (h : Hand). CellFits D h.cell h.part) (group_hands lead devs) (hand_of cell page)
          (group_fits D lead devs sound.lead_fits (omega arith) (λ i h. sound.devs_fit.each i (omega arith))) fits),
    )

length_devs : (k : ℕ) (devs : List Dev) → length (dev_hands k devs) ≡ length devs
length_devs k [] = refl
length_devs k (dev ∷ devs) = ap suc (length_devs (k + 1) devs)

pub length_group : (lead : Lead) (devs : List Dev) → length (group_hands lead devs) ≡ suc (length devs)
length_group lead devs = ap suc (length_devs 1 devs)

pub copy_judged : (D : Desc) (lead : Lead) (devs : List Dev) (p : ℕ) (rule : Rule) → lead_fault D lead devs (Copy p) ≡ Some rule
    → fault_on D (group D lead devs []) (Copy p) ≡ Some rule
copy_judged D lead devs p rule broken = broken

-- another seat is in the page's cell
pub other_copy : (D : Desc) (lead : Lead) (devs : List Dev) (seen : MoveLook) (abort_after p cell : ℕ) (holds : List (Holding Cell)) → length devs ≡ device_count D
    → Shows D (parts_of lead devs) seen → next_want D seen abort_after ≡ Do (Copy p) → cell ≡ page_number D p → holds ≡ group_holds lead devs
    → IsOtherCell D (wish.Coordinator abort_after) (map settled_of holds) cell
other_copy D lead devs seen abort_after p cell holds count shows wants is stands = λ w whole there.
    let all : StandIn D w (group_holds lead devs ++ []) = subst (StandIn D w) (stands ∙ sym (append-nil (group_holds lead devs))) there in
    let same = group_world D w lead devs [] whole count all in
    (p, seen, subst (λ (v : World). Shows D (parts_in v) seen) (sym same) (shows_in D lead devs w.pages seen shows), wants, is)

-- nothing is wanted, or what a seat doesn't make
pub wants_none : (D : Desc) (w : World) (seen : MoveLook) (abort_after : ℕ) (want : Want) → want ≡ next_want D seen abort_after → ((e : Entry) → want ≡ Do e → ⊥)
    → WantsNothing D w seen abort_after
wants_none D w seen abort_after found is none = λ other wanted made named fine. none other (is ∙ wanted)

pub wants_else : (D : Desc) (w : World) (seen : MoveLook) (abort_after : ℕ) (e : Entry) (b c : Bool) → Do e ≡ next_want D seen abort_after
    → b ≡ is_made_by_seats e → c ≡ is_entry_of D e → (not b || not c) ≡ true → WantsNothing D w seen abort_after
wants_else D w seen abort_after e b c is made there barred = λ other wanted mine named fine.
    let same : e ≡ other = do_same e other (is ∙ wanted) in
    never b c (made ∙ (ap is_made_by_seats same ∙ mine)) (there ∙ (ap (is_entry_of D) same ∙ named)) barred
  where
    never : (b c : Bool) → b ≡ true → c ≡ true → (not b || not c) ≡ true → ⊥
    never true true x y z = false≢true z
    never true false x y z = false≢true y
    never false c x y z = false≢true x

pub made_kind : (e : Entry) → is_made_by_seats e ≡ true → ((p : ℕ) → e ≡ Copy p → ⊥) → is_of_lead e ≡ true
made_kind (Issue d n) made copy = absurd (false≢true made)
made_kind (Deliver d n) made copy = absurd (false≢true made)
made_kind (Complete d n) made copy = absurd (false≢true made)
made_kind (Hold d to) made copy = refl
made_kind (Arc d to) made copy = refl
made_kind (Fail d to) made copy = refl
made_kind (Report d) made copy = refl
made_kind (Pass k) made copy = refl
made_kind (Copy p) made copy = absurd (copy p refl)
made_kind (Block d b) made copy = refl
made_kind (Dry d) made copy = refl
made_kind Begin made copy = refl
made_kind Joint made copy = refl
made_kind Abort made copy = absurd (false≢true made)
made_kind Resume made copy = refl
