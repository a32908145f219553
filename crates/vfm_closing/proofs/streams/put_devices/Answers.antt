-- Each turn closes the stream of one device more.
use Rattle.std.proofs.Common.{◌≡◌, ◌∙◌, subst, ℕ, suc, ◌+◌, ◌<◌, ◌≤◌, arith}
use Rattle.vfm_types.specs.Desc.{device_count}
use Rattle.vfm_streams.specs.Sent.{with_devices_closed}
use Rattle.vfm_outlets.specs.Carrying.{Carries}
use Rattle.vfm_closing.specs.Closing.{CarriesPart}
use Rattle.vfm_closing.proofs.Parts.{grows_upto, on_err, part_part}
use Rattle.vfm_closing.proofs.Sizes.{devices_length}
use Rattle.vfm_closing.proofs.streams.put_devices.Goals as goal

pub put_device_closed-requires-clause-room : goal.put_device_closed-requires-clause-room
put_device_closed-requires-clause-room g c κs within =
    let D = c.args.desc.now in
    let room = c.requires.room in
    let inside : c.loop-d.d < device_count D = omega (arith, c.loop-d-test.true, c.len-d-end.ensures) in
    record {
      desc = room.desc;
      starts = room.starts;
      all = with_devices_closed D c.args.joint.now c.loop-d.d room.all;
      carries = c.loop-d.invariant.put room.desc room.starts room.all room.carries;
      few =
          omega (
            arith,
            devices_length D c.args.joint.now c.requires.valid c.requires.sound c.loop-d.d room.all (omega (arith, inside)),
            inside,
            c.requires.valid.in_range.count_high,
            room.few,
          );
    }

pub returns-in_err-put_device_closed-clause-part : goal.returns-in_err-put_device_closed-clause-part
returns-in_err-put_device_closed-clause-part g c = λ E starts all carried.
    let D = c.args.desc.now in
    let m = c.args.joint.now in
    let inside : suc c.loop-d.d ≤ device_count D = omega (arith, c.loop-d-test.true, c.len-d-end.ensures) in
    on_err c.from_residual.result
    (CarriesPart g.L.Link.sent E starts (with_devices_closed D m (device_count D) all) c.put_device_closed.new.outlets)
    (part_part g.L.Link.sent E starts (with_devices_closed D m (suc c.loop-d.d) all) (with_devices_closed D m (device_count D) all)
    c.put_device_closed.new.outlets (grows_upto D m (suc c.loop-d.d) (device_count D) all inside)
    (c.in_err-put_device_closed.ensures.part E starts (with_devices_closed D m c.loop-d.d all) (c.loop-d.invariant.put E starts all carried)))

pub loop-d-preserved : goal.loop-d-preserved
loop-d-preserved g c = record {
  put = λ E starts all carried.
      let D = c.args.desc.now in
      let m = c.args.joint.now in
      let next : suc c.loop-d.d ≡ c.loop-d.d + 1 = omega arith in
      subst (λ (n : ℕ). Carries g.L.Link.sent E starts (with_devices_closed D m n all) c.put_device_closed.new.outlets) next
      (c.in_ok-put_device_closed.ensures.put E starts (with_devices_closed D m c.loop-d.d all) (c.loop-d.invariant.put E starts all carried));
  links = c.put_device_closed.ensures.links ∙ c.loop-d.invariant.links;
  failed = c.put_device_closed.ensures.failed ∙ c.loop-d.invariant.failed;
}
