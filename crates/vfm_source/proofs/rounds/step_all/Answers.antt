-- The steps of the devices keep the source under way; then comes the coordinator's turn.
use Rattle.std.proofs.Common.{None, ap, sym, subst, ◌∙◌}
use Rattle.vfm_types.specs.Desc.{device_count}
use Rattle.vfm_core.specs.CoreState.{CoreState, FitsDesc}
use Rattle.vfm_drive.proofs.Steps.{all_fit, stepped_desc}
use Rattle.vfm_drive.specs.Runs.{want_on}
use Rattle.vfm_source.specs.Moving.{IsMoving, entry_made, past_in}
use Rattle.vfm_source.specs.Rounds.{FailsEarly}
use Rattle.vfm_source.proofs.Devices.{devices_keep, devices_move}
use Rattle.vfm_source.proofs.Early.{request_early, turn_early_by}
use Rattle.vfm_source.proofs.Turns.{IsTurn, same_desc_by, tells_by}
use Rattle.vfm_source.proofs.rounds.step_all.Goals as goal

pub take_turn-requires-clause-moving : goal.take_turn-requires-clause-moving
take_turn-requires-clause-moving g c κs within =
    let on = c.requires.moving in
    record {
      starts = on.starts;
      moving =
          subst (λ (s : CoreState). IsMoving g.L.Link.sent on.starts c.args.joint.now s c.args.outlets.now) (sym c.step_devices.ensures.made)
          (devices_move g.L.Link.sent on.starts c.args.joint.now c.args.outlets.now c.args.core.now c.desc.ensures.fits on.moving);
    }

pub returns-clause-moves : goal.returns-clause-moves
returns-clause-moves g c = λ starts moving.
    c.take_turn.ensures.moves starts
    (subst (λ (s : CoreState). IsMoving g.L.Link.sent starts c.args.joint.now s c.args.outlets.now) (sym c.step_devices.ensures.made)
    (devices_move g.L.Link.sent starts c.args.joint.now c.args.outlets.now c.args.core.now c.desc.ensures.fits moving))

pub returns-clause-desc : goal.returns-clause-desc
returns-clause-desc g c =
    same_desc_by c.take_turn.result c.step_devices.new.core c.take_turn.new.core
    (entry_made (want_on c.step_devices.new.core.desc None (past_in c.step_devices.new.core) c.args.abort_after)) c.take_turn.ensures.made c.take_turn.ensures.unmade
    ∙ ap (λ (s : CoreState). s.desc) c.step_devices.ensures.made ∙ stepped_desc (device_count c.args.core.now.desc) c.args.core.now

pub returns-clause-tells : goal.returns-clause-tells
returns-clause-tells g c =
    let on = c.requires.moving in
    let mid = c.step_devices.new.core in
    let turn : IsTurn c.args.joint.now c.args.core.now mid =
    record {
      first = c.desc.ensures.fits;
      fit = subst (λ (s : CoreState). FitsDesc s.desc s.world) (sym c.step_devices.ensures.made) (all_fit c.args.core.now c.desc.ensures.fits);
      way =
          (subst (λ (s : CoreState). IsMoving g.L.Link.sent on.starts c.args.joint.now s c.args.outlets.now) (sym c.step_devices.ensures.made)
          (devices_move g.L.Link.sent on.starts c.args.joint.now c.args.outlets.now c.args.core.now c.desc.ensures.fits on.moving)).way;
      was = on.moving.way;
      stepped = c.step_devices.ensures.made;
      on = c.step_devices.ensures.goes_on None (past_in c.args.core.now) on.moving.way.run;
    } in
    tells_by c.args.joint.now c.args.core.now mid c.args.abort_after turn c.take_turn.result c.take_turn.new.core c.take_turn.ensures.order c.take_turn.ensures.made

pub returns-clause-early : goal.returns-clause-early
returns-clause-early g c early =
    let on = c.requires.moving in
    let mid = c.step_devices.new.core in
    let n = c.args.abort_after in
    let way =
    (subst (λ (s : CoreState). IsMoving g.L.Link.sent on.starts c.args.joint.now s c.args.outlets.now) (sym c.step_devices.ensures.made)
    (devices_move g.L.Link.sent on.starts c.args.joint.now c.args.outlets.now c.args.core.now c.desc.ensures.fits on.moving)).way in
    turn_early_by c.take_turn.result mid c.take_turn.new.core n c.take_turn.ensures.made c.take_turn.ensures.unmade way.going
    (subst (λ (s : CoreState). FailsEarly n (past_in s)) (sym c.step_devices.ensures.made)
    (devices_keep (FailsEarly n) (request_early n) c.args.core.now c.desc.ensures.fits early))
