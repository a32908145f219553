use Rattle.vfm_plain.proofs.Effects.{described_sound, sound-do_request, sound_plain}
use Rattle.vfm_plain.proofs.laws.machines_are_sound.Goals as goal

pub returns : goal.returns
returns c = record { described = described_sound; done = sound-do_request; all_done = sound_plain }
