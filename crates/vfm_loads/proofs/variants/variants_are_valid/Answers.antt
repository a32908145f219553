-- By computation, member by member.
use Rattle.vfm_loads.proofs.VariantsValid.{adder_valid, painter_valid, ringer_valid, sharers_valid, writer_valid}
use Rattle.vfm_loads.proofs.variants.variants_are_valid.Goals as goal

pub returns-clause-adder : goal.returns-clause-adder
returns-clause-adder c = adder_valid

pub returns-clause-writer : goal.returns-clause-writer
returns-clause-writer c = writer_valid

pub returns-clause-sharers : goal.returns-clause-sharers
returns-clause-sharers c = sharers_valid

pub returns-clause-painter : goal.returns-clause-painter
returns-clause-painter c = painter_valid

pub returns-clause-ringer : goal.returns-clause-ringer
returns-clause-ringer c = ringer_valid
