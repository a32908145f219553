use Rattle.vfm_plain.proofs.Effects.{sound_plain}
use Rattle.vfm_plain.proofs.laws.bells_stay_zero.Goals as goal

pub returns : goal.returns
returns c = λ D requests m d valid e within. (sound_plain D requests m valid e).bells d within
