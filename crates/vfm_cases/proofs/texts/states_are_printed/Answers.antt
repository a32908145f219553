use Rattle.std.proofs.Common.{refl}
use Rattle.std.specs.Fmt.{digits}
use Rattle.hex.specs.Hex.{encode_with}
use Rattle.vfm_cases.proofs.texts.states_are_printed.Goals as goal

pub returns-clause-state : goal.returns-clause-state
unfolding digits encode_with
returns-clause-state c = refl

pub returns-clause-pending : goal.returns-clause-pending
unfolding digits encode_with
returns-clause-pending c = refl

pub returns-clause-numbers : goal.returns-clause-numbers
unfolding digits
returns-clause-numbers c = refl
