use Rattle.std.proofs.Common.{refl, ◌∙◌}
use Rattle.vfm_dest.proofs.Emptying.{drained-none, drained-more}
use Rattle.vfm_dest.proofs.draining.drain.Goals as goal

pub loop-stream-init : goal.loop-stream-init
loop-stream-init c = record {
  made = c.requires.made;
  streams = refl;
  channels = refl;
  drained = drained-none c.args.desc.now c.args.rest.now c.args.intake.now;
}

pub loop-stream-preserved : goal.loop-stream-preserved
loop-stream-preserved c =
    let inv = c.loop-stream.invariant in
    record {
      made = c.drain_stream.ensures.made;
      streams = c.drain_stream.ensures.streams ∙ inv.streams;
      channels = c.drain_stream.ensures.channels ∙ inv.channels;
      drained =
          drained-more c.args.desc.now c.loop-stream.stream c.args.rest.now c.loop-stream.rest c.drain_stream.new.rest c.args.intake.now
          c.loop-stream.intake c.drain_stream.new.intake inv.drained c.in_ok-drain_stream.ensures.moved c.in_ok-drain_stream.ensures.all inv.channels;
    }
