-- Looks that show the same of a move and of the devices that there are.
use Rattle.std.specs.Prelude.{◌≡◌, ℕ, ◌<◌, length}
use Rattle.vfm_quiet.specs.declared.move_look.MoveLook.{MoveLook}
use Rattle.vfm_quiet.specs.Seen.{seen, sees_ready, sees_reported}

-- One look shows what the other shows. The places of devices that aren't there may differ, and of the set only its
-- size counts.
pub record IsAlike (look other : MoveLook) : Type 0 where
  pub begun : look.begun ≡ other.begun
  pub joint : look.joint ≡ other.joint
  pub aborted : look.aborted ≡ other.aborted
  pub resumed : look.resumed ≡ other.resumed
  pub failed : look.failed ≡ other.failed
  pub passes : look.passes ≡ other.passes
  pub ended : look.ended ≡ other.ended
  pub last : look.last ≡ other.last
  pub set : length look.set ≡ length other.set
  pub next_copy : look.next_copy ≡ other.next_copy
  pub part : look.part ≡ other.part
  pub next_block : look.next_block ≡ other.next_block
  pub count : look.count ≡ other.count
  pub reported : (d : ℕ) → d < other.count → sees_reported look d ≡ sees_reported other d
  pub devices : (d : ℕ) → d < other.count → seen look d ≡ seen other d
  pub ready : (d : ℕ) → d < other.count → sees_ready look d ≡ sees_ready other d
