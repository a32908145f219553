use Rattle.std.proofs.Common.{◌≡◌, ◌∙◌, ap, subst, ℕ, ◌<◌, List, ◌++◌, length, take, drop, inl, inr, arith, rules}
use Rattle.std.proofs.lemmas.List.{take-append-le}
use Rattle.vfm_outside.specs.Told.{with_appended, with_appended-nil}
use Rattle.vfm_packet.specs.declared.answer.Expect.{Expect}
use Rattle.vfm_packet.specs.Reading.{reading}
use Rattle.vfm_recv.specs.Handed.{HandsOn}
use Rattle.vfm_recv.specs.Intakes.{Standing}
use Rattle.vfm_recv.specs.Pumped.{Says, HandsOnFirst}
use Rattle.vfm_recv.proofs.Endings.{limit_is}
use Rattle.vfm_recv.proofs.Received.{came-more}
use Rattle.vfm_recv.proofs.Outs.{counts-still, stops-so, counts-fault, stops-fault, ended-so}
use Rattle.vfm_recv.proofs.reader.Reader.read_out.Goals as goal

pub returns-in-Ok-eq0-clause-read : goal.returns-in-Ok-eq0-clause-read
returns-in-Ok-eq0-clause-read g c =
    let inv = c.loop-chunk.invariant in
    let link = c.loop-chunk.self.link in
    let e_is : c.loop-chunk.intake.expect ≡ c.args.self.now.expect = inv.expects ∙ inv.expect in
    let none : c.in-Ok-eq0.field-0 ≡ 0 = search (rules, arith) in
    let some : 0 < length (take c.min-room.result c.loop-chunk.chunk) = search (rules, arith) in
    record {
      came = inv.read.came;
      received =
          c.in-Ok-eq0.ensures.given.1
          ∙ ap (λ (n : ℕ). with_appended (g.L.Link.received link) (take n c.recv.new.buf)) none
          ∙ with_appended-nil (g.L.Link.received link)
          ∙ inv.read.received;
      most = omega (arith, inv.read.fact.count, c.loop-chunk.intake.limited, limit_is);
      says =
          subst (λ (e : Expect). Says c.answer.result (reading e inv.read.came).refusal (HandsOn c.args.fan.now c.loop-chunk.fan (reading e inv.read.came).packets)
          (HandsOnFirst c.args.fan.now c.loop-chunk.fan (reading e inv.read.came).packets)) e_is
          (c.answer.ensures.says inv.read.came c.args.fan.now c.loop-chunk.fan inv.read.fact);
      counts = counts-still c.answer.result _ _ c.answer.ensures.no_fault (c.in-Ok-eq0.ensures.count.ok ∙ inv.failed_in);
      stops = stops-so c.answer.result _ _ (inl (c.in-Ok-eq0.ensures.ended ∙ ended-so (g.L.Link.ended link) c.in-Ok-eq0.field-0 (length (take c.min-room.result c.loop-chunk.chunk)) none some));
    }

pub loop-chunk-preserved : goal.loop-chunk-preserved
loop-chunk-preserved g c =
    let inv = c.loop-chunk.invariant in
    record {
      read =
          came-more (g.L.Link.received c.args.self.now.link) (g.L.Link.received c.loop-chunk.self.link) (g.L.Link.received c.recv.new.self) (take c.in-Ok.n c.recv.new.buf)
          (λ came. Standing c.loop-chunk.intake came c.args.fan.now c.loop-chunk.fan) (λ came. Standing c.take_in.new.self came c.args.fan.now c.take_in.new.fan)
          inv.read c.in-Ok.ensures.given.1 (λ came s.
          subst (λ (l : List ℕ). Standing c.take_in.new.self (came ++ l) c.args.fan.now c.take_in.new.fan)
          (take-append-le c.in-Ok.n c.recv.new.buf (drop c.min-room.result c.loop-chunk.chunk) c.in-Ok.ensures.given.0)
          (c.take_in.ensures.stands came c.args.fan.now s));
      waiting = c.take_in.ensures.waiting;
      expects = c.take_in.ensures.expect ∙ inv.expects;
      expect = inv.expect;
      channel = inv.channel;
      streams = c.take_in.ensures.streams ∙ inv.streams;
      rings = c.take_in.ensures.rings ∙ inv.rings;
      failed_in = c.in-Ok.ensures.count.ok ∙ inv.failed_in;
      failed_out = c.recv.ensures.other_count ∙ inv.failed_out;
      sent = c.recv.ensures.sent ∙ inv.sent;
      finished = c.recv.ensures.finished ∙ inv.finished;
    }

pub returns-in-Err-clause-read : goal.returns-in-Err-clause-read
returns-in-Err-clause-read g c =
    let inv = c.loop-chunk.invariant in
    let e_is : c.loop-chunk.intake.expect ≡ c.args.self.now.expect = inv.expects ∙ inv.expect in
    record {
      came = inv.read.came;
      received = c.in-Err.ensures.given ∙ inv.read.received;
      most = omega (arith, inv.read.fact.count, c.loop-chunk.intake.limited, limit_is);
      says =
          subst (λ (e : Expect). Says c.fault.result (reading e inv.read.came).refusal (HandsOn c.args.fan.now c.loop-chunk.fan (reading e inv.read.came).packets)
          (HandsOnFirst c.args.fan.now c.loop-chunk.fan (reading e inv.read.came).packets)) e_is
          (c.fault.ensures.says inv.read.came c.args.fan.now c.loop-chunk.fan inv.read.fact);
      counts =
          counts-fault c.fault.result _ _ c.fault.ensures.fault (omega (arith, c.in-Err.ensures.count.never_falls, inv.failed_in))
          (omega (arith, c.in-Err.ensures.count.failed, inv.failed_in));
      stops = stops-fault c.fault.result _ _ c.fault.ensures.fault (omega (arith, c.in-Err.ensures.count.failed, inv.failed_in));
    }

pub returns-clause-read : goal.returns-clause-read
returns-clause-read g c =
    let inv = c.loop-chunk.invariant in
    let e_is : c.loop-chunk.intake.expect ≡ c.args.self.now.expect = inv.expects ∙ inv.expect in
    record {
      came = inv.read.came;
      received = inv.read.received;
      most = omega (arith, inv.read.fact.count, c.loop-chunk.intake.limited, limit_is);
      says =
          subst (λ (e : Expect). Says c.answer-2.result (reading e inv.read.came).refusal (HandsOn c.args.fan.now c.loop-chunk.fan (reading e inv.read.came).packets)
          (HandsOnFirst c.args.fan.now c.loop-chunk.fan (reading e inv.read.came).packets)) e_is
          (c.answer-2.ensures.says inv.read.came c.args.fan.now c.loop-chunk.fan inv.read.fact);
      counts = counts-still c.answer-2.result _ _ c.answer-2.ensures.no_fault inv.failed_in;
      stops = stops-so c.answer-2.result _ _ (inr (omega (arith, c.loop-chunk-test.false, c.came.ensures, inv.read.fact.count, limit_is)));
    }
