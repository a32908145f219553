use Rattle.std.proofs.Common.{refl}
use Rattle.std.specs.Fmt.{digits}
use Rattle.hex.specs.Hex.{encode_with}
use Rattle.vfm_cases.proofs.texts.reports_are_printed.Goals as goal

pub returns-clause-moved : goal.returns-clause-moved
unfolding digits encode_with
returns-clause-moved c = refl

pub returns-clause-failed : goal.returns-clause-failed
unfolding digits encode_with
returns-clause-failed c = refl
