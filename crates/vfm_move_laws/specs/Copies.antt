-- What of the copies stands, whatever follows.
use Rattle.std.specs.Prelude.{◌≡◌, List}
use Rattle.vfm_types.specs.declared.desc.Desc.{Desc}
use Rattle.vfm_types.specs.declared.entry.Entry.{Entry}
use Rattle.vfm_types.specs.Blocks.{is_no_pass_open}
use Rattle.vfm_types.specs.Deliveries.{joint_machine}
use Rattle.vfm_types.specs.Phases.{is_joint, is_last_begun, pass_count}
use Rattle.vfm_streams.specs.Sent.{sent}

-- After a longer list the copies stand as after a shorter one: what was sent, whether and in which state the machine was found
-- standing, how many passes began, whether the last one did, and whether the newest one has ended.
pub record KeepsCopies (D : Desc) (past later : List Entry) : Type 0 where
  pub sent : sent D later ≡ sent D past
  pub joint : is_joint later ≡ is_joint past
  pub machine : joint_machine D later ≡ joint_machine D past
  pub passes : pass_count later ≡ pass_count past
  pub last : is_last_begun later ≡ is_last_begun past
  pub ended : is_no_pass_open D later ≡ is_no_pass_open D past
