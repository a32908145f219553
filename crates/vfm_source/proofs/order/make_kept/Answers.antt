-- What is wanted may be made, and a source with it is under way as before.
use Rattle.vfm_source.specs.Moving.{course_in}
use Rattle.vfm_source.proofs.Moves.{conveys_of, moved, stayed}
use Rattle.vfm_source.proofs.Turns.{wanted_fine, wanted_may, wanted_stays}
use Rattle.vfm_source.proofs.order.make_kept.Goals as goal

pub make_sent-requires-clause-named : goal.make_sent-requires-clause-named
make_sent-requires-clause-named g c κs within =
    (wanted_may c.args.joint.now c.args.core.now c.args.entry.now c.desc.ensures.fits.valid c.requires.moving.moving.way c.requires.wanted).0

pub make_sent-requires-clause-fine : goal.make_sent-requires-clause-fine
make_sent-requires-clause-fine g c κs within =
    wanted_fine c.args.joint.now c.args.core.now c.args.entry.now c.desc.ensures.fits.valid c.requires.moving.moving.way c.requires.wanted

pub make_sent-requires-clause-conveying : goal.make_sent-requires-clause-conveying
make_sent-requires-clause-conveying g c κs within =
    let on = c.requires.moving in
    record {
      course = course_in on.starts c.args.core.now;
      conveys = conveys_of g.L.Link.sent on.starts c.args.core.now c.args.joint.now c.args.outlets.now on.moving;
    }

pub returns-in_err-make_sent-clause-moves : goal.returns-in_err-make_sent-clause-moves
returns-in_err-make_sent-clause-moves g c = λ starts moving.
    stayed g.L.Link.sent starts c.args.core.now c.make_sent.new.core c.args.joint.now c.args.outlets.now c.make_sent.new.outlets
    c.in_err-make_sent.ensures.unmade moving
    (c.in_err-make_sent.ensures.unchanged (course_in starts c.args.core.now)
    (conveys_of g.L.Link.sent starts c.args.core.now c.args.joint.now c.args.outlets.now moving))

pub returns-clause-moves : goal.returns-clause-moves
returns-clause-moves g c = λ starts moving.
    moved c.args.core.now c.make_sent.new.core c.args.entry.now c.args.joint.now c.keep_joint.new.joint c.desc-2.ensures.fits
    c.in_ok-make_sent.ensures.made c.requires.goes_on
    (wanted_stays c.args.core.now c.args.entry.now c.desc.ensures.fits.valid moving.way.run.legal c.requires.wanted)
    c.keep_joint.ensures.kept g.L.Link.sent starts c.args.outlets.now c.make_sent.new.outlets moving
    (c.in_ok-make_sent.ensures.conveys (course_in starts c.args.core.now)
    (conveys_of g.L.Link.sent starts c.args.core.now c.args.joint.now c.args.outlets.now moving))
