-- One fewer waits where a waiting one is delivered.
use Rattle.std.proofs.Common.{ℕ, ◌<◌, true, if◌then◌else◌, length, List, ap, refl, subst, arith}
use Rattle.vfm_types.specs.Outstanding.{Outstanding}
use Rattle.vfm_device.proofs.OnBus.{undelivered_marked}
use Rattle.vfm_device.proofs.bus.Bus.deliver.Goals as goal

pub overflow_sub-self : goal.overflow_sub-self
overflow_sub-self c =
    let items = c.self.inside.flights.items in
    let within : c.in-Some.k < length items = subst (λ (xs : List Outstanding). c.in-Some.k < length xs) c.deref.ensures.value c.in-Some.ensures.found.within in
    let same = ap {B = ℕ} (λ (r : Outstanding). if r.is_delivered then 0 else 1) c.index-flight.ensures in
    let marked : Outstanding = record { number = c.flight.inside.number; job = c.flight.inside.job; is_delivered = true } in
    let less = undelivered_marked items c.in-Some.k c.index-flight.result.now marked refl within in
    omega (arith, same, less, c.self.invariant.counted, c.waiting.ensures.value)

pub invariant_of-self : goal.invariant_of-self
invariant_of-self c =
    let items = c.self.inside.flights.items in
    let within : c.in-Some.k < length items = subst (λ (xs : List Outstanding). c.in-Some.k < length xs) c.deref.ensures.value c.in-Some.ensures.found.within in
    let same = ap {B = ℕ} (λ (r : Outstanding). if r.is_delivered then 0 else 1) c.index-flight.ensures in
    let marked : Outstanding = record { number = c.flight.inside.number; job = c.flight.inside.job; is_delivered = true } in
    let less = undelivered_marked items c.in-Some.k c.index-flight.result.now marked refl within in
    record {
      roomy = c.self.invariant.roomy;
      counted = omega (arith, same, less, c.self.invariant.counted, c.waiting.ensures.value);
    }
