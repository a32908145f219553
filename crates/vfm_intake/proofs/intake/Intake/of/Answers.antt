use Rattle.std.proofs.Common.{◌≡◌, sym, subst, ℕ, List, [], ◌∷◌, ◌++◌, length, rules, arith}
use Rattle.vfm_intake.specs.declared.stream.StreamIntake.{StreamIntake}
use Rattle.vfm_intake.specs.Streams.{IsStreamOf, StandsAfter}
use Rattle.vfm_intake.specs.Intakes.{AreStreamsOf, StandAfter}
use Rattle.vfm_intake.proofs.Elements.{each-more}
use Rattle.vfm_intake.proofs.intake.Intake.of.Goals as goal

pub loop-stream-preserved : goal.loop-stream-preserved
loop-stream-preserved c =
    let inv = c.loop-stream.invariant in
    let D = c.args.desc.now in
    let streams = c.loop-stream.streams.items in
    let one = c.in_ok-of.field-0 in
    let pushed : c.push.new.self.items ≡ streams ++ one ∷ [] = search rules in
    record {
      number = search (rules, arith);
      each = subst (AreStreamsOf D) (sym pushed)
          (each-more (λ s x. IsStreamOf x D s) streams one inv.each (subst (IsStreamOf one D) (sym inv.number) c.in_ok-of.ensures.made));
      nothing = subst (StandAfter D (λ s. [])) (sym pushed)
          (each-more (λ s x. StandsAfter x D s []) streams one inv.nothing
          (subst (λ (n : ℕ). StandsAfter one D n []) (sym inv.number) c.in_ok-of.ensures.nothing));
    }
