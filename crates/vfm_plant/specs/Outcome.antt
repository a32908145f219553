-- What came of a wish: what the answer says of the seat's ticket, before the call and after it.
use Rattle.std.specs.Prelude.{◌≡◌, ◌≢◌, ℕ, ◌+◌, ◌*◌, ◌<◌, ◌≤◌, ◌⊎◌, true, List, [], ◌∷◌, map, take, drop, Option, Some, None, IsTrue}
use Rattle.vfm_types.specs.declared.desc.Desc.{Desc}
use Rattle.vfm_types.specs.declared.entry.Entry.{Entry}
use Rattle.vfm_types.specs.declared.entry.Entry.TheVariants.{Deliver, Copy, Block}
use Rattle.vfm_types.specs.declared.job.Region.{Region}
use Rattle.vfm_types.specs.Desc.{device_count}
use Rattle.vfm_plain.specs.Legal.{is_entry_of}
use Rattle.vfm_parts.specs.Parts.{Dev, Lead, World, dev_at, page_at, parts_in}
use Rattle.vfm_parts.specs.Steps.{fault_on}
use Rattle.vfm_parts_laws.specs.LooksIn.{look_in}
use Rattle.vfm_quiet.specs.declared.move_look.MoveLook.{MoveLook}
use Rattle.vfm_quiet.specs.declared.want.Want.TheVariants.{Do}
use Rattle.vfm_quiet.specs.Order.{next_want}
use Rattle.vfm_turn.specs.declared.seen.Busy.{Busy}
use Rattle.vfm_turn.specs.declared.seen.Stand.{Stand}
use Rattle.vfm_turn.specs.declared.seen.Touch.{Touch}
use Rattle.vfm_turn.specs.Seen.{Hold, Seen, note, settled_of}
use Rattle.vfm_cells.specs.Cells.{Cell, IsWhole, dev_number, page_number, region_number}
use Rattle.vfm_cells.specs.WholeRun.{IsStep}
use Rattle.vfm_device_part.specs.DeviceSteps.{target_in}
use Rattle.vfm_device_part.specs.Pick.{enabled_steps, picked}
use Rattle.vfm_lead.specs.Shown.{Shows}
use Rattle.vfm_plant_laws.specs.OneRun.{AreIn, IsFoundIn}
use Rattle.vfm_plant.specs.declared.stepped.Wish.{Wish}
use Rattle.vfm_plant.specs.declared.stepped.Wish.TheVariants.{Device, Coordinator}
use Rattle.vfm_plant.specs.declared.stepped.Look.{Look}
use Rattle.vfm_plant.specs.declared.stepped.Look.TheVariants as look
use Rattle.vfm_plant.specs.declared.stepped.Stepped.{Stepped}
use Rattle.vfm_plant.specs.declared.stepped.Stepped.TheVariants as stepped
use Rattle.vfm_turn.specs.declared.kept.Kept.{Ghosts}
use Rattle.vfm_turn.specs.declared.ticket.Ticket.{Ticket}
use Rattle.vfm_turn.specs.Words.{number_of, seats_of, seen_of}
use Rattle.vfm_plant.specs.declared.plant.Plant.{Plant}
use Rattle.vfm_plant.specs.Group.{is_made_by_seats}
use Rattle.vfm_plant.specs.Started.{base_of}
use Rattle.vfm_plant.specs.Hands.{turned, looked}

-- One call: the description, the seat's number, how many entries the journal had at the start, how many seats there are, the
-- wish, what the seat knew before the call and knows after it, and the bytes that were given out.
pub record Attempt : Type 0 where
  pub desc : Desc
  pub by : ℕ
  pub base : ℕ
  pub seats : ℕ
  pub wish : Wish
  pub old : Seen Cell
  pub new : Seen Cell
  pub bytes : List ℕ

-- the step of device d that a number picks in a world
abbrev pub step_in : Desc → World → ℕ → ℕ → Option Entry
step_in D w d pick = picked (enabled_steps D d (dev_at w d)) pick

-- the bytes that an entry reads in a world: those of the page that it copies, or of the block that it reads
abbrev pub bytes_read : World → Entry → List ℕ
bytes_read w (Copy p) = page_at w p
bytes_read w (Block d b) = take 64 (drop (64 * b) (dev_at w d).plain.bar)
bytes_read w entry = []

-- The entry is the one that is wished for. Of a device: it is the step that the number picks in each world that has in the
-- cells of the entry what it found there. Of the coordinator: it is what the order wants in such a world, and isn't Abort.
abbrev pub IsWished : Desc → Wish → List (Touch Cell) → Entry → Type 0
IsWished D (Device d pick) touches entry = (w : World) → IsFoundIn D w touches → step_in D w d pick ≡ Some entry
IsWished D (Coordinator abort_after) touches entry =
    (w : World) × (look : MoveLook) × IsFoundIn D w touches × Shows D (parts_in w) look × (next_want D look abort_after ≡ Do entry) × (is_made_by_seats entry ≡ true)

-- An entry was drawn, in this call: the seat's newest record is its, and it is a step on the cells that it touches. Its place
-- is its stamp, behind the journal of the start. The bytes are those of each world that has in its cells what it found there.
pub record HasDrawn (a : Attempt) (place : ℕ) (entry : Entry) : Type 0 where
  pub stamp : ℕ
  pub touches : List (Touch Cell)
  pub seen : a.new ≡ turned a.by stamp entry touches a.old
  pub placed : place ≡ a.base + stamp
  pub step : IsStep a.desc entry touches
  pub wished : IsWished a.desc a.wish touches entry
  pub read : (w : World) → IsFoundIn a.desc w touches → a.bytes ≡ bytes_read w entry

-- what the order wants isn't made: it isn't the coordinator's or is Abort, or it breaks a rule
abbrev pub WantsNothing : Desc → World → MoveLook → ℕ → Type 0
WantsNothing D w look abort_after =
    (entry : Entry) → next_want D look abort_after ≡ Do entry → is_made_by_seats entry ≡ true → IsTrue (is_entry_of D entry) → fault_on D w entry ≢ None

-- The look is that of each world which has in some cells what was noted of them, and there is nothing in it that is wished for.
abbrev pub IsSeen : Desc → Wish → List (Stand Cell) → Look → Type 0
IsSeen D (Device d pick) stands seen =
    (w : World) → AreIn D w stands → (seen ≡ look.Device (look_in D d (dev_at w d))) × (step_in D w d pick ≡ None)
IsSeen D (Coordinator abort_after) stands seen =
    (w : World) → IsWhole D w → AreIn D w stands
    → (shown : MoveLook) × (seen ≡ look.Coordinator shown) × Shows D (parts_in w) shown × WantsNothing D w shown abort_after

-- Nothing was made. In this call the seat noted how many stamps are drawn, and what stands in the cells that it then held.
pub record HasLooked (a : Attempt) (at : ℕ) (seen : Look) : Type 0 where
  pub answer : ℕ
  pub holds : List (Hold Cell)
  pub noted : a.new ≡ looked answer holds a.old
  pub placed : at ≡ a.base + answer
  pub look : IsSeen a.desc a.wish (map settled_of holds) seen
  pub bytes : a.bytes ≡ []

-- a cell that the wish touches whatever lies in it: the device's own; the coordinator's and each device's
abbrev pub IsOwnCell : Desc → Wish → ℕ → Type 0
IsOwnCell D (Device d pick) cell = cell ≡ dev_number d
IsOwnCell D (Coordinator abort_after) cell = cell ≤ device_count D

-- A cell that it touches besides, by what was noted of those: that at which the picked delivery is aimed; that of the page
-- which is to be copied.
abbrev pub IsOtherCell : Desc → Wish → List (Stand Cell) → ℕ → Type 0
IsOtherCell D (Device d pick) stands cell =
    (w : World) → AreIn D w stands
    → (n : ℕ) × (region : Region) × (step_in D w d pick ≡ Some (Deliver d n)) × (target_in D d n (dev_at w d) ≡ Some region) × (cell ≡ region_number D region)
IsOtherCell D (Coordinator abort_after) stands cell =
    (w : World) → IsWhole D w → AreIn D w stands
    → (p : ℕ) × (shown : MoveLook) × Shows D (parts_in w) shown × (next_want D shown abort_after ≡ Do (Copy p)) × (cell ≡ page_number D p)

-- the seat met another in its own cells, and knows nothing more
pub record HasMetAtOnce (a : Attempt) (busy : Busy) : Type 0 where
  pub seen : a.new ≡ record a.old { holds = []; meetings = busy ∷ a.old.meetings }
  pub own : IsOwnCell a.desc a.wish busy.cell

-- it met another further on, and has noted what it then held
pub record HasMetFurther (a : Attempt) (busy : Busy) : Type 0 where
  pub answer : ℕ
  pub holds : List (Hold Cell)
  pub seen : a.new ≡ record a.old { holds = []; notes = note answer (map settled_of holds) ∷ a.old.notes; meetings = busy ∷ a.old.meetings }
  pub other : IsOtherCell a.desc a.wish (map settled_of holds) busy.cell

-- Another seat was found, in this call, in a cell that the wish touches.
pub record HasMet (a : Attempt) (cell holder : ℕ) : Type 0 where
  pub met : HasMetAtOnce a (record { cell = cell; holder = holder }) ⊎ HasMetFurther a (record { cell = cell; holder = holder })
  pub seat : holder < a.seats
  pub another : holder ≢ a.by
  pub bytes : a.bytes ≡ []

-- what the answer says
abbrev pub IsOutcome : Attempt → Stepped → Type 0
IsOutcome a (stepped.Did place entry) = HasDrawn a place entry
IsOutcome a (stepped.Nothing at seen) = HasLooked a at seen
IsOutcome a (stepped.Busy cell holder) = HasMet a cell holder

-- the bytes that are given out: these where an entry was made, and else none
abbrev pub bytes_of_answer : Stepped → List ℕ → List ℕ
bytes_of_answer (stepped.Did place entry) bytes = bytes
bytes_of_answer (stepped.Nothing at seen) bytes = []
bytes_of_answer (stepped.Busy cell holder) bytes = []

-- those that an entry reads, which copies no page, where the devices are given
abbrev pub bytes_in_group : Lead → List Dev → Entry → List ℕ
bytes_in_group lead devs entry = bytes_read (record { lead = lead; devs = devs; pages = [] }) entry

-- the call of a seat for a wish on a plant, by its ticket before and after it; no bytes are given out
abbrev pub attempted : {g : Ghosts Cell Cell} → Plant → Wish → Ticket Cell Cell g → Ticket Cell Cell g → Attempt
attempted plant wish t t' =
    record {
      desc = plant.desc;
      by = number_of t;
      base = base_of plant;
      seats = seats_of plant.board;
      wish = wish;
      old = seen_of t;
      new = seen_of t';
      bytes = [];
    }
