-- One more waits.
use Rattle.std.proofs.Common.{length, ap, arith}
use Rattle.vfm_types.specs.Outstanding.{Outstanding}
use Rattle.vfm_device.proofs.OnBus.{undelivered_most}
use Rattle.vfm_device.proofs.bus.Bus.push.Goals as goal

pub overflow_add-self : goal.overflow_add-self
overflow_add-self c =
    let few = c.requires in
    let same = ap (length {A = Outstanding}) c.self.view_is in
    let most = undelivered_most c.self.inside.flights.items in
    omega (arith, few, same, most, c.self.invariant.counted)
