use Rattle.std.proofs.Common.{◌≡◌, ◌∙◌, refl, sym, ap, subst, ℕ, ◌+◌, ◌<◌, List, [], ◌∷◌, ◌++◌, length, Some, None, rules, arith, append_assoc}
use Rattle.std.specs.Option.{option_map}
use Rattle.std.proofs.lemmas.List.{length-append}
use Rattle.vfm_plain.specs.declared.part.Part.{Part}
use Rattle.vfm_packet.specs.Packet.{Packet}
use Rattle.vfm_streams.specs.Judged.{said, stream_fault}
use Rattle.vfm_streams.specs.Verdict.{stream_refusal}
use Rattle.vfm_load.specs.Parts.{IsPartOf, loaded_part}
use Rattle.vfm_intake.specs.declared.stream.StreamIntake.{StreamIntake}
use Rattle.vfm_intake.specs.Finished.{all_loaded}
use Rattle.vfm_intake.proofs.Elements.{each-below}
use Rattle.vfm_intake.proofs.Finishing.{none-refused, refused-at, inside, stands-here, stream-here, unrefused-here, loaded-more}
use Rattle.vfm_intake.specs.Streams.{IsStreamOf, StandsAfter}
use Rattle.vfm_intake.proofs.verdict.parts_of.Goals as goal

pub returns-in-Err-clause-refusal : goal.returns-in-Err-clause-refusal
returns-in-Err-clause-refusal c D came stand =
    let inv = c.loop-intake.invariant in
    let yielded = c.loop-intake.yielded in
    let split : c.args.streams.items ≡ yielded ++ c.in-Some.intake ∷ c.next.new.self.rest.items = search rules in
    refused-at D came 0 (length c.args.streams.items) (length yielded) c.in-Err.refusal (omega arith)
    (omega (arith, inside c.args.streams.items yielded c.in-Some.intake c.next.new.self.rest.items split))
    (λ k low high. inv.faultless D came stand k high)
    (subst (λ (n : ℕ). option_map (stream_refusal n) (stream_fault D n (came n)) ≡ Some c.in-Err.refusal) inv.number
    (c.in-Err.ensures.refusal D (came c.loop-intake.stream)
    (subst (λ (n : ℕ). StandsAfter c.in-Some.intake D n (came n)) (sym inv.number)
    (stands-here c.args.streams.items yielded c.in-Some.intake c.next.new.self.rest.items split D came stand))))

pub loop-intake-preserved : goal.loop-intake-preserved
loop-intake-preserved c =
    let inv = c.loop-intake.invariant in
    let yielded = c.loop-intake.yielded in
    let x = c.in-Some.intake in
    let rest = c.next.new.self.rest.items in
    let split : c.args.streams.items ≡ yielded ++ x ∷ rest = search rules in
    let pushed : c.push.new.self.items ≡ c.loop-intake.parts.items ++ c.in-Ok.part ∷ [] = search (rules, arith) in
    let one : length (yielded ++ x ∷ []) ≡ length yielded + 1 = length-append yielded (x ∷ []) in
    record {
      all = append_assoc yielded (x ∷ []) rest ∙ sym split;
      number = omega (arith, one, inv.number);
      count = search (rules, arith);
      room = search (rules, arith);
      faultless = λ D came stand.
          each-below (λ k. stream_fault D k (came k) ≡ None) yielded x (inv.faultless D came stand)
          (subst (λ (n : ℕ). stream_fault D n (came n) ≡ None) inv.number
          (unrefused-here D c.loop-intake.stream (came c.loop-intake.stream)
          (c.in-Ok.ensures.refusal D (came c.loop-intake.stream)
          (subst (λ (n : ℕ). StandsAfter x D n (came n)) (sym inv.number)
          (stands-here c.args.streams.items yielded x rest split D came stand)))));
      loaded = λ D came stand.
          pushed
          ∙ loaded-more D came (length yielded) (length (yielded ++ x ∷ [])) c.loop-intake.parts.items c.in-Ok.part (inv.loaded D came stand)
          (subst (λ (n : ℕ). c.in-Ok.part ≡ loaded_part D n (said n (came n))) inv.number
          (c.in-Ok.ensures.part D (came c.loop-intake.stream)
          (subst (λ (n : ℕ). StandsAfter x D n (came n)) (sym inv.number)
          (stands-here c.args.streams.items yielded x rest split D came stand)))) one;
      fit = λ D came made stand.
          each-below (λ k. IsPartOf D k (loaded_part D k (said k (came k)))) yielded x (inv.fit D came made stand)
          (subst (λ (n : ℕ). IsPartOf D n (loaded_part D n (said n (came n)))) inv.number
          (subst (IsPartOf D c.loop-intake.stream)
          (c.in-Ok.ensures.part D (came c.loop-intake.stream)
          (subst (λ (n : ℕ). StandsAfter x D n (came n)) (sym inv.number)
          (stands-here c.args.streams.items yielded x rest split D came stand)))
          (c.in-Ok.ensures.fits D
          (subst (IsStreamOf x D) (sym inv.number) (stream-here c.args.streams.items yielded x rest split D made)))));
    }

pub returns-clause-refusal : goal.returns-clause-refusal
returns-clause-refusal c D came stand =
    let left = c.loop-intake.intake-iterator.rest.items in
    let none : length left ≡ 0 = search (rules, arith) in
    let count : length c.loop-intake.yielded ≡ length c.args.streams.items =
    omega (arith, none, length-append c.loop-intake.yielded left, ap (λ (xs : List StreamIntake). length xs) c.loop-intake.invariant.all) in
    none-refused D came 0 (length c.args.streams.items)
    (λ k low high. c.loop-intake.invariant.faultless D came stand k (omega (arith, high, count)))

pub returns-clause-parts : goal.returns-clause-parts
returns-clause-parts c D came made stand =
    let inv = c.loop-intake.invariant in
    let left = c.loop-intake.intake-iterator.rest.items in
    let none : length left ≡ 0 = search (rules, arith) in
    let count : length c.loop-intake.yielded ≡ length c.args.streams.items =
    omega (arith, none, length-append c.loop-intake.yielded left, ap (λ (xs : List StreamIntake). length xs) c.loop-intake.invariant.all) in
    record {
      parts_are = inv.loaded D came stand ∙ ap (all_loaded D came) count;
      unrefused = none-refused D came 0 (length c.args.streams.items) (λ k low high. inv.faultless D came stand k (omega (arith, high, count)));
      each = λ k low. inv.fit D came made stand k (omega (arith, low, count));
    }
