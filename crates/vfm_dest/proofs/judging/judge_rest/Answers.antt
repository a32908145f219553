use Rattle.std.proofs.Common.{rules, ◌≡◌, map, false}
use Rattle.std.specs.Prelude.{is_err}
use Rattle.vfm_packet.specs.Channel.{channel_limit}
use Rattle.vfm_packet.specs.Reading.{reading}
use Rattle.vfm_streams.specs.Verdict.{verdict, verdict_on}
use Rattle.vfm_dest.specs.Drained.{HasDrained}
use Rattle.vfm_dest.proofs.Weighing.{has-taken, ok-of, answers-parts, answers-loads, answers-refuses, stages-ok}
use Rattle.vfm_dest.proofs.judging.judge_rest.Goals as goal

pub stage_parts-requires : goal.stage_parts-requires
stage_parts-requires c =
    let D = c.args.desc.now in
    let read = c.requires.read in
    let told = c.requires.told in
    let sound : is_err c.drain.result ≡ false = search rules in
    let drained : HasDrained D c.settle-rest.result c.args.intake c.drain.new.intake = ok-of c.drain.result sound c.drain.ensures.drained in
    answers-parts D (verdict_on D channel_limit (map (reading read.expect) read.are.came)) c.in-Ok.parts
    (c.in-Ok.ensures.verdict (map (reading read.expect) read.are.came)
    (has-taken D read.expect read.before read.links c.args.fans.items c.args.funnels.items c.args.ends.now c.settle-rest.result c.args.intake c.drain.new.intake read.expects read.many
    c.requires.ends read.are told c.requires.mesh c.requires.funnels c.settle-rest.ensures.channels
    c.settle-rest.ensures.left c.requires.loaded drained))

pub returns-in-Ok : goal.returns-in-Ok
returns-in-Ok c e before links expects many are =
    let D = c.args.desc.now in
    let told = c.requires.told in
    let sound : is_err c.drain.result ≡ false = search rules in
    let drained : HasDrained D c.settle-rest.result c.args.intake c.drain.new.intake = ok-of c.drain.result sound c.drain.ensures.drained in
    let answers =
    c.in-Ok.ensures.verdict (map (reading e) are.came)
    (has-taken D e before links c.args.fans.items c.args.funnels.items c.args.ends.now c.settle-rest.result c.args.intake c.drain.new.intake expects many
    c.requires.ends are told c.requires.mesh c.requires.funnels c.settle-rest.ensures.channels
    c.settle-rest.ensures.left c.requires.loaded drained) in
    stages-ok D c.args.ends.now (verdict D e are.came) c.in-Ok.parts.items c.stage_parts.result told
    (answers-parts D (verdict D e are.came) c.in-Ok.parts answers) c.stage_parts.ensures.ok c.stage_parts.ensures.fault
    (answers-loads D (verdict D e are.came) c.in-Ok.parts answers)

pub returns : goal.returns
returns c e before links expects many are =
    let D = c.args.desc.now in
    let told = c.requires.told in
    let sound : is_err c.drain.result ≡ false = search rules in
    let drained : HasDrained D c.settle-rest.result c.args.intake c.drain.new.intake = ok-of c.drain.result sound c.drain.ensures.drained in (
      told,
      answers-refuses D (verdict D e are.came) c.in-Err.refusal
          (c.in-Err.ensures.verdict (map (reading e) are.came)
          (has-taken D e before links c.args.fans.items c.args.funnels.items c.args.ends.now c.settle-rest.result c.args.intake c.drain.new.intake expects many
          c.requires.ends are told c.requires.mesh c.requires.funnels c.settle-rest.ensures.channels
          c.settle-rest.ensures.left c.requires.loaded drained)),
    )
