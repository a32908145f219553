-- The pair with that number.
use Rattle.std.proofs.Common.{refl, ◌∙◌}
use Rattle.vfm_record.proofs.Pairs.{pair_of}
use Rattle.vfm_record.proofs.reader.pending_at.Goals as goal

pub returns-clause-pair : goal.returns-clause-pair
returns-clause-pair c count d below =
    pair_of count c.args.i c.args.bytes.now d below ∙ rw (c.u32_at.ensures, c.u32_at-2.ensures) refl
