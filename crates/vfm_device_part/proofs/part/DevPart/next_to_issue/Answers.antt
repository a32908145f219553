use Rattle.vfm_device_part.proofs.Engines.{engine_kept}
use Rattle.vfm_device_part.proofs.part.DevPart.next_to_issue.Goals as goal

pub next_to_issue-requires-clause-kept : goal.next_to_issue-requires-clause-kept
next_to_issue-requires-clause-kept c =
    let own = c.self.inside in
    engine_kept c.args.desc.now c.args.d own.engine own.bar own.log own.released c.args.self.now c.self.view_is c.requires.device c.requires.fits
