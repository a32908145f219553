-- One fewer waits where a waiting one is taken off.
use Rattle.std.proofs.Common.{ℕ, ◌<◌, if◌then◌else◌, length, List, ap, subst, arith, rules}
use Rattle.vfm_types.specs.Outstanding.{Outstanding}
use Rattle.vfm_device.proofs.OnBus.{undelivered_removed}
use Rattle.vfm_device.proofs.bus.Bus.complete.Goals as goal

pub overflow_sub-self : goal.overflow_sub-self
overflow_sub-self c =
    let items = c.self.inside.flights.items in
    let within : c.in-Some.k < length items = subst (λ (xs : List Outstanding). c.in-Some.k < length xs) c.deref.ensures.value c.in-Some.ensures.found.within in
    let same = ap {B = ℕ} (λ (r : Outstanding). if r.is_delivered then 0 else 1) c.remove-flight.ensures.value in
    let less = undelivered_removed items c.in-Some.k c.remove-flight.result within in
    omega (arith, same, less, c.self.invariant.counted, c.waiting.ensures.value)

pub invariant_of-self : goal.invariant_of-self
invariant_of-self c =
    let items = c.self.inside.flights.items in
    let within : c.in-Some.k < length items = subst (λ (xs : List Outstanding). c.in-Some.k < length xs) c.deref.ensures.value c.in-Some.ensures.found.within in
    let same = ap {B = ℕ} (λ (r : Outstanding). if r.is_delivered then 0 else 1) c.remove-flight.ensures.value in
    let less = undelivered_removed items c.in-Some.k c.remove-flight.result within in
    record {
      roomy = search rules;
      counted = rw c.remove-flight.ensures.items (omega (arith, same, less, c.self.invariant.counted, c.waiting.ensures.value));
    }
