-- Part by part.
use Rattle.vfm_move.proofs.Cases.{moved_parts, doubt_parts}
use Rattle.vfm_move.proofs.laws.parts_tell_the_owner.Goals as goal

pub returns-clause-moved : goal.returns-clause-moved
returns-clause-moved c = moved_parts

pub returns-clause-in_doubt : goal.returns-clause-in_doubt
returns-clause-in_doubt c = doubt_parts
