use Rattle.std.proofs.Common.{refl, sym, ◌∙◌}
use Rattle.vfm_space.proofs.OfParts.{block_read}
use Rattle.vfm_device_part.proofs.part.DevPart.read_block.Goals as goal

pub returns-clause-taken : goal.returns-clause-taken
returns-clause-taken c = rw (← c.self.view_is, c.unmark.ensures) refl

pub returns-clause-read : goal.returns-clause-read
returns-clause-read c D d valid inside fits =
    returns-clause-taken c ∙ sym (block_read D d c.args.b c.args.self.now valid inside fits)
