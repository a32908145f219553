-- What a look shows of the parts of a move.
use Rattle.std.specs.Prelude.{◌≡◌, ℕ, ◌<◌}
use Rattle.vfm_types.specs.declared.desc.Desc.{Desc}
use Rattle.vfm_types.specs.Desc.{device_count}
use Rattle.vfm_quiet.specs.declared.move_look.MoveLook.{MoveLook}
use Rattle.vfm_quiet.specs.Seen.{seen, sees_ready, sees_reported}
use Rattle.vfm_parts.specs.Parts.{Parts}
use Rattle.vfm_parts.specs.PartWords.{has_reported_in, is_no_pass_open_in}
use Rattle.vfm_parts_laws.specs.LooksIn.{look_in, is_ready_in, due_copy_in, due_part_in, due_block_in}

-- The look shows of the move what the coordinator's part says, and of each device that there is what its part says.
pub record Shows (D : Desc) (parts : Parts) (look : MoveLook) : Type 0 where
  pub begun : look.begun ≡ parts.lead.begun
  pub joint : look.joint ≡ parts.lead.joint
  pub aborted : look.aborted ≡ parts.lead.aborted
  pub resumed : look.resumed ≡ parts.lead.resumed
  pub failed : look.failed ≡ parts.lead.failed
  pub passes : look.passes ≡ parts.lead.passes
  pub ended : look.ended ≡ is_no_pass_open_in D parts.lead
  pub last : look.last ≡ parts.lead.last
  pub set : look.set ≡ parts.lead.set
  pub next_copy : look.next_copy ≡ due_copy_in parts.lead
  pub part : look.part ≡ due_part_in D parts.lead
  pub next_block : look.next_block ≡ due_block_in D parts
  pub count : look.count ≡ device_count D
  pub reported : (d : ℕ) → d < device_count D → sees_reported look d ≡ has_reported_in parts.lead d
  pub devices : (d : ℕ) → d < device_count D → seen look d ≡ look_in D d (parts.dev d)
  pub ready : (d : ℕ) → d < device_count D → sees_ready look d ≡ is_ready_in D d parts
