-- What a reading of a device's BARs gives, by the state that the device stands in.
use Rattle.std.specs.Prelude.{ℕ, ◌*◌, ◌||◌, Bool, true, false, if◌then◌else◌, Option, Some, None, length}
use Rattle.vfm_base.specs.PageSet.{least_page_from}
use Rattle.vfm_types.specs.declared.state.MigState.{MigState}
use Rattle.vfm_types.specs.declared.state.MigState.TheVariants.{StopCopy, PreCopy, PreCopyP2p}
use Rattle.vfm_space.specs.Blocks.{Blocks}
use Rattle.vfm_precopy.specs.declared.session.Next.{Next}
use Rattle.vfm_precopy.specs.declared.session.Next.TheVariants as answers

-- the device runs, and a first part of its state can be read
abbrev pub is_pre_copying : MigState → Bool
is_pre_copying PreCopy = true
is_pre_copying PreCopyP2p = true
is_pre_copying _ = false

-- its state can be read
abbrev pub is_saving : MigState → Bool
is_saving PreCopy = true
is_saving PreCopyP2p = true
is_saving StopCopy = true
is_saving _ = false

-- the bytes that were never read
abbrev pub initial_bytes : Blocks → ℕ
initial_bytes blocks = 64 * length blocks.unread

-- the bytes of the blocks that were written since they were read
abbrev pub dirty_bytes : Blocks → ℕ
dirty_bytes blocks = 64 * length blocks.dirty

-- where no block is left: more may come in a pre-copy state, none in STOP_COPY
abbrev pub end_in : MigState → Next
end_in state = if is_pre_copying state then answers.TemporaryEnd else answers.End

-- this block, if there is one, else an answer
abbrev pub block_or : Option ℕ → Next → Next
block_or None answer = answer
block_or (Some b) answer = answers.Block b

-- the least block that was never read, else the least that was written since it was read, else the end
abbrev pub next_reading : MigState → Blocks → Next
next_reading state blocks =
    block_or (least_page_from blocks.unread 0) (block_or (least_page_from blocks.dirty 0) (end_in state))
