use Rattle.std.proofs.Common.{refl}
use Rattle.std.specs.Fmt.{digits}
use Rattle.hex.specs.Hex.{encode_with}
use Rattle.vfm_cases.proofs.bars.bars_are_printed.Goals as goal

pub returns : goal.returns
unfolding digits encode_with
returns c = refl
