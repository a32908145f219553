use Rattle.vfm_device_part.proofs.Engines.{engine_kept}
use Rattle.vfm_device_part.proofs.part.DevPart.issue_fault.Goals as goal

pub issue_fault-requires-clause-kept : goal.issue_fault-requires-clause-kept
issue_fault-requires-clause-kept c =
    let own = c.self.inside in
    engine_kept c.args.desc.now c.args.d own.engine own.bar own.log own.released c.args.self.now c.self.view_is c.requires.device c.requires.fits
