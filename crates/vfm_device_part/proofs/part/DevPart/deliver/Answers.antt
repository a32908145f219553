use Rattle.vfm_device_part.proofs.Deliveries.{waits_listed}
use Rattle.vfm_device_part.proofs.part.DevPart.deliver.Goals as goal

pub count_delivered-requires : goal.count_delivered-requires
count_delivered-requires c =
    rw c.take_in.ensures (waits_listed c.args.desc.now c.args.d c.args.n c.args.self.now c.requires.fits c.requires.waits)
