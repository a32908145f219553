use Rattle.std.proofs.Common.{◌∙◌, ap, subst, ℕ, ◌-◌, List, ◌++◌, length, take, drop, rules, arith, append_assoc}
use Rattle.vfm_outside.proofs.ToldLemmas.{take-then-take}
use Rattle.std.proofs.lemmas.List.{take_rest}
use Rattle.vfm_recv.specs.Intakes.{Standing}
use Rattle.vfm_recv.proofs.intake.Intake.take_in.Goals as goal

pub loop-at-preserved : goal.loop-at-preserved
loop-at-preserved c =
    let at = c.loop-at.at in
    let n = c.step-at.result in
    let bytes = c.args.bytes.now in
    record {
      in_range = search (rules, arith);
      stands = λ came before s.
          subst (λ (l : List ℕ). Standing c.step-at.new.self l before c.step-at.new.fan)
          (append_assoc came (take at bytes) (take n (take (length bytes - at) (drop at bytes)))
          ∙ ap (λ (l : List ℕ). came ++ l) (ap (λ (l : List ℕ). take at bytes ++ take n l) (take_rest bytes at) ∙ take-then-take bytes at n))
          (c.step-at.ensures.stands (came ++ take at bytes) before (c.loop-at.invariant.stands came before s));
      waiting = c.step-at.ensures.waiting;
      streams = c.step-at.ensures.streams ∙ c.loop-at.invariant.streams;
      rings = c.step-at.ensures.rings ∙ c.loop-at.invariant.rings;
      expect = c.step-at.ensures.expect ∙ c.loop-at.invariant.expect;
      came = c.step-at.ensures.came ∙ omega (arith, c.loop-at.invariant.came);
    }
