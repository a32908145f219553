use Rattle.std.proofs.Common.{subst}
use Rattle.std.specs.Prelude.{Option, ℕ}
use Rattle.vfm_dirty.specs.LogOfParts.{IsPageOf}
use Rattle.vfm_device_part.proofs.Completed.{completed_is}
use Rattle.vfm_device_part.proofs.part.DevPart.take_off_bus.Goals as goal

pub returns : goal.returns
returns c =
    rw (c.count_completed.ensures, c.mark.ensures, c.page_written-page.ensures.value)
    (completed_is c.args.desc.now c.args.d c.args.n c.args.self.now c.requires.valid c.requires.fits
    (subst (λ (page : Option ℕ). IsPageOf c.args.desc.now page) c.page_written-page.ensures.value c.page_written-page.ensures.inside))
