use Rattle.vfm_plain.proofs.Effects.{sound_made}
use Rattle.vfm_plain.proofs.plain.Plain.of.Goals as goal

pub returns-clause-sound : goal.returns-clause-sound
returns-clause-sound c =
    sound_made c.args.desc.now c.in_ok-pages.pages.items c.in_ok-devices.devices.items c.requires c.in_ok-pages.ensures c.in_ok-devices.ensures
