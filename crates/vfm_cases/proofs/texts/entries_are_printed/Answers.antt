use Rattle.std.proofs.Common.{refl}
use Rattle.std.specs.Fmt.{digits}
use Rattle.vfm_cases.proofs.texts.entries_are_printed.Goals as goal

pub returns : goal.returns
unfolding digits
returns c = record { lines = refl }
