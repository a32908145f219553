-- What each part holds after a list of entries, newest first: the facts of the list.
use Rattle.std.specs.Prelude.{◌≡◌, ℕ, ◌-◌, ◌<◌, ◌&&◌, ◌||◌, not, Bool, false, if◌then◌else◌, List, [], ◌∷◌}
use Rattle.vfm_types.specs.declared.entry.Entry.{Entry}
use Rattle.vfm_types.specs.declared.entry.Entry.TheVariants.{Report, Pass}
use Rattle.vfm_types.specs.declared.desc.Desc.{Desc}
use Rattle.vfm_types.specs.Desc.{device_count, shape_at, block_count}
use Rattle.vfm_types.specs.Machine.{device_of}
use Rattle.vfm_types.specs.Deliveries.{machine_of, page_bytes}
use Rattle.vfm_types.specs.Phases.{is_begun, is_joint, is_aborted, is_resumed, is_failed, pass_count, is_last_begun}
use Rattle.vfm_types.specs.Arcs.{state_of, hold_of, arc_count}
use Rattle.vfm_types.specs.Outstanding.{outstanding_of, issue_count, complete_count}
use Rattle.vfm_types.specs.Marks.{is_marked, has_reported, is_in_set, is_copied}
use Rattle.vfm_types.specs.Blocks.{is_unread, is_dirty, takes_part, was_dry, blocks_read}
use Rattle.vfm_parts.specs.Parts.{Dev, Lead, World, Parts, listed, numbers_below}

-- a set that Resume clears, and that stays empty from then on
abbrev pub until_resumed : List Entry → List ℕ → List ℕ
until_resumed past set = if is_resumed past then [] else set

-- page p was in a report since the newest pass began
abbrev pub is_gathered : Desc → ℕ → List Entry → Bool
is_gathered D p [] = false
is_gathered D p (Report d ∷ past) = is_marked D d p past || is_gathered D p past
is_gathered D p (Pass k ∷ past) = false
is_gathered D p (entry ∷ past) = is_gathered D p past

-- how many blocks the part of device d in the newest pass may still read
abbrev pub blocks_left : Desc → ℕ → List Entry → ℕ
blocks_left D d past = if takes_part d past && not (was_dry d past) then block_count (shape_at D d) - blocks_read d past else 0

-- the part of device d
abbrev pub dev_of : Desc → ℕ → List Entry → Dev
dev_of D d past =
    let blocks = block_count (shape_at D d) in
    record {
      plain = device_of (machine_of D past) d;
      requests = outstanding_of D d past;
      state = state_of d past;
      hold = hold_of d past;
      issues = issue_count d past;
      completes = complete_count d past;
      arcs = arc_count d past;
      logging = is_begun past && not (is_resumed past);
      released = is_aborted past || is_resumed past;
      marks = until_resumed past (numbers_below D.pages (λ p. is_marked D d p past));
      unread = until_resumed past (numbers_below blocks (λ b. is_unread d b past));
      dirty = until_resumed past (numbers_below blocks (λ b. is_dirty D d b past));
    }

-- the coordinator's part
abbrev pub lead_of : Desc → List Entry → Lead
lead_of D past =
    record {
      begun = is_begun past;
      joint = is_joint past;
      aborted = is_aborted past;
      resumed = is_resumed past;
      failed = is_failed past;
      passes = pass_count past;
      last = is_last_begun past;
      set = numbers_below D.pages (λ p. is_in_set D p past);
      left = numbers_below D.pages (λ p. is_in_set D p past && not (is_copied p past));
      gathered = numbers_below D.pages (λ p. is_gathered D p past);
      reported = listed (device_count D) (λ d. has_reported d past);
      parts = listed (device_count D) (λ d. blocks_left D d past);
    }

-- the part of page p: its bytes
abbrev pub page_of : Desc → ℕ → List Entry → List ℕ
page_of D p past = page_bytes (machine_of D past) p

-- the world of all parts
abbrev pub world_of : Desc → List Entry → World
world_of D past =
    record {
      lead = lead_of D past;
      devs = listed (device_count D) (λ d. dev_of D d past);
      pages = listed D.pages (λ p. page_of D p past);
    }

-- parts hold the facts of a list: the coordinator's, and those of each device and page that the description has
pub record Tells (D : Desc) (past : List Entry) (parts : Parts) : Type 0 where
  pub lead : parts.lead ≡ lead_of D past
  pub dev : (d : ℕ) → d < device_count D → parts.dev d ≡ dev_of D d past
  pub page : (p : ℕ) → p < D.pages → parts.page p ≡ page_of D p past
