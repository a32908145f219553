-- Byte by byte.
use Rattle.std.proofs.Common.{ℕ, zero, suc, ◌<◌, refl, arith}
use Rattle.std.specs.Prelude.{slice_index}
use Rattle.vfm_move.specs.WorkedEnds.{three}
use Rattle.vfm_move.proofs.worked_ends.heard.Goals as goal

fits : (i : ℕ) → slice_index three i < 256
fits zero = omega arith
fits (suc zero) = omega arith
fits (suc (suc zero)) = omega arith
fits (suc (suc (suc i))) = omega arith

pub returns : goal.returns
returns c = record { fits = fits; came = refl; most = omega arith; cut = λ few. refl }
