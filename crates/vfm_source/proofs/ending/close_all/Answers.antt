-- The machine that is kept is that at the joint stop, so the records that close the streams are the source's.
use Rattle.std.proofs.Common.{sym, subst}
use Rattle.vfm_types.specs.declared.desc.Desc.{Desc}
use Rattle.vfm_plain.specs.Shape.{IsSound}
use Rattle.vfm_source.proofs.Closed.{room_is, sound_is}
use Rattle.vfm_source.proofs.ending.close_all.Goals as goal

pub put_closed-requires-clause-sound : goal.put_closed-requires-clause-sound
put_closed-requires-clause-sound g c κs within =
    subst (λ (D : Desc). IsSound D c.args.joint.now) (sym c.desc.ensures.value)
    (sound_is c.args.joint.now c.args.core.now c.desc.ensures.fits.valid c.requires.moving.moving.way c.requires.ended)

pub put_closed-requires-clause-room : goal.put_closed-requires-clause-room
put_closed-requires-clause-room g c κs within =
    room_is g.L.Link.sent c.requires.moving.starts c.args.joint.now c.args.core.now c.args.outlets.now c.desc.ensures.fits.valid c.requires.moving.moving
