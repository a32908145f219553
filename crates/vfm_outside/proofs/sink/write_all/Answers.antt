use Rattle.std.proofs.Common.{arith, rules}
use Rattle.vfm_outside.proofs.ToldLemmas.{write-more}
use Rattle.vfm_outside.proofs.sink.write_all.Goals as goal

pub loop-at-preserved : goal.loop-at-preserved
loop-at-preserved g c = record {
  in_range = search (rules, arith);
  counted = search rules;
  held = write-more (g.S.Sink.holds c.args.out.now) (g.S.Sink.holds c.loop-at.out) (g.S.Sink.holds c.write.new.self)
      c.args.bytes.now c.loop-at.at c.in_ok-at.field-0 c.loop-at.invariant.held c.in_ok-at.ensures.taken.2;
}
