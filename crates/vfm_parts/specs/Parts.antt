-- The parts of a machine on its move: one for the coordinator, one for each device, one for each page.
use Rattle.std.specs.Prelude.{ℕ, zero, suc, ◌+◌, Bool, false, List, [], ◌∷◌, Option, None, min, slice_index_or}
use Rattle.vfm_types.specs.declared.state.MigState.{MigState}
use Rattle.vfm_types.specs.declared.state.MigState.TheVariants.{Running}
use Rattle.vfm_types.specs.Machine.{DeviceState, no_device}
use Rattle.vfm_types.specs.Outstanding.{Outstanding}
use Rattle.vfm_base.specs.PageSet.{numbers_where}

-- A device's part: its plain state; its requests on the bus, in the order of their issue; its state and its hold; how
-- many requests it issued and completed and how many arcs it made; whether its dirty log is started, which it is from
-- Begin to Resume; whether it was released by Abort or Resume; the pages marked in its log; the blocks of its BARs that
-- were never read, and those written since they were.
pub record Dev : Type 0 where
  pub plain : DeviceState
  pub requests : List Outstanding
  pub state : MigState
  pub hold : Option MigState
  pub issues : ℕ
  pub completes : ℕ
  pub arcs : ℕ
  pub logging : Bool
  pub released : Bool
  pub marks : List ℕ
  pub unread : List ℕ
  pub dirty : List ℕ

-- The coordinator's part: how far the move has come; how many passes have begun, and whether the last one has; the pages
-- of the newest pass, and those of them that are yet to be copied; what the devices reported since it began, and which
-- of them did; and for each device how many blocks its part of the pass may still read, 0 where that has ended.
pub record Lead : Type 0 where
  pub begun : Bool
  pub joint : Bool
  pub aborted : Bool
  pub resumed : Bool
  pub failed : Bool
  pub passes : ℕ
  pub last : Bool
  pub set : List ℕ
  pub left : List ℕ
  pub gathered : List ℕ
  pub reported : List Bool
  pub parts : List ℕ

-- the world of all parts; a page's part is its bytes
pub record World : Type 0 where
  pub lead : Lead
  pub devs : List Dev
  pub pages : List (List ℕ)

-- the same parts by their numbers, as conditions and effects see them
pub record Parts : Type 0 where
  pub lead : Lead
  pub dev : ℕ → Dev
  pub page : ℕ → List ℕ

-- no device
abbrev pub no_dev : Dev
no_dev =
    record {
      plain = no_device;
      requests = [];
      state = Running;
      hold = None;
      issues = 0;
      completes = 0;
      arcs = 0;
      logging = false;
      released = false;
      marks = [];
      unread = [];
      dirty = [];
    }

-- device d of a world, and page p
abbrev pub dev_at : World → ℕ → Dev
dev_at w d = slice_index_or w.devs d no_dev

abbrev pub page_at : World → ℕ → List ℕ
page_at w p = slice_index_or w.pages p []

-- the parts of a world
abbrev pub parts_in : World → Parts
parts_in w = record { lead = w.lead; dev = dev_at w; page = page_at w }

-- the n items that a function gives for the numbers from p on
abbrev pub listed_from : {X : Type 0} → ℕ → ℕ → (ℕ → X) → List X
listed_from p zero item = []
listed_from p (suc n) item = item p ∷ listed_from (p + 1) n item

-- the items that a function gives for the numbers below n
abbrev pub listed : {X : Type 0} → ℕ → (ℕ → X) → List X
listed n item = listed_from 0 n item

-- the numbers below n that pass a test, in rising order
abbrev pub numbers_below : ℕ → (ℕ → Bool) → List ℕ
numbers_below n test = numbers_where test 0 n

-- a count that stands still at the end of its type of 32 bits
abbrev pub one_more : ℕ → ℕ
one_more n = min (n + 1) 4294967295
