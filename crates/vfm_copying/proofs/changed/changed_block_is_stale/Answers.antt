-- Down the list, entry by entry.
use Rattle.vfm_copying.proofs.KnownBlocks.{changed_blocks, fresh_blocks}
use Rattle.vfm_copying.proofs.changed.changed_block_is_stale.Goals as goal

pub returns-clause-changed : goal.returns-clause-changed
returns-clause-changed c = changed_blocks

pub returns-clause-fresh : goal.returns-clause-fresh
returns-clause-fresh c = fresh_blocks
