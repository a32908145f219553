-- What the devices did fits a sum of 64 bits.
use Rattle.std.proofs.Common.{◌<◌, length, arith}
use Rattle.std.proofs.lemmas.List.Sums.{sum_by_more_le}
use Rattle.vfm_types.specs.Machine.{DeviceState, no_device}
use Rattle.vfm_bench.proofs.Turns.{most_done}
use Rattle.vfm_bench.proofs.run.count_done.Goals as goal

pub overflow_add-sum : goal.overflow_add-sum
overflow_add-sum c =
    let within : c.loop-d.d < length c.args.plain.now.devices = omega (arith, c.requires.sound.shape.devices) in
    omega (arith, c.loop-d.invariant, c.counts-accepted.ensures.done, sum_by_more_le (λ (dev : DeviceState). dev.done) c.args.plain.now.devices c.loop-d.d no_device within, most_done c.args.desc.now c.args.plain.now c.requires.valid c.requires.sound)
