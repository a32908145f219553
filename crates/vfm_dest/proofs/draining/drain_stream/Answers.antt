use Rattle.std.proofs.Common.{refl, ◌∙◌}
use Rattle.vfm_dest.proofs.Weights.{left-falls}
use Rattle.vfm_dest.proofs.Emptying.{moves-none, moves-more}
use Rattle.vfm_dest.proofs.draining.drain_stream.Goals as goal

pub loop-parcel-init : goal.loop-parcel-init
loop-parcel-init c = record {
  made = c.requires.made;
  count = refl;
  streams = refl;
  channels = refl;
  moved = moves-none c.args.desc.now c.args.stream c.args.rest.now c.args.intake.now;
}

pub loop-parcel-smaller : goal.loop-parcel-smaller
loop-parcel-smaller c =
    left-falls c.loop-parcel.rest c.pop.new.self c.args.stream (c.in-Some.field-0-0, c.in-Some.parcel) c.in-Some.ensures.some c.pop.ensures.channels

pub loop-parcel-preserved : goal.loop-parcel-preserved
loop-parcel-preserved c =
    let inv = c.loop-parcel.invariant in
    record {
      made = c.take.ensures.made;
      count = c.take.ensures.streams ∙ inv.count;
      streams = c.pop.ensures.streams ∙ inv.streams;
      channels = c.pop.ensures.channels ∙ inv.channels;
      moved =
          moves-more c.args.desc.now c.args.stream c.args.rest.now c.loop-parcel.rest c.pop.new.self c.args.intake.now c.loop-parcel.intake
          inv.moved inv.channels c.take.new.self (c.in-Some.field-0-0, c.in-Some.parcel) c.in-Some.ensures.some c.in_ok-take.ensures.taken;
    }
