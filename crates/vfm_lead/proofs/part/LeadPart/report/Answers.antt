-- The pages join the gathered ones, and the device has reported.
use Rattle.vfm_lead.specs.contracts.part.LeadPart.{the_view}
use Rattle.vfm_lead.proofs.LeadSets.{reported}
use Rattle.vfm_lead.proofs.part.LeadPart.report.Goals as goal

pub returns : goal.returns
returns c =
    rw (c.join.ensures.value, c.mark.ensures, ← c.self.view_is)
    (reported c.args.desc.now c.args.d c.args.pages.now (the_view c.self.inside) c.requires.valid (rw c.self.view_is c.requires.fits) c.requires.pages)
