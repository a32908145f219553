-- A printed state has the sizes of the machine.
use Rattle.std.proofs.Common.{sym, ◌∙◌}
use Rattle.vfm_report.specs.Printed.{IsPrintedState}
use Rattle.vfm_audit.proofs.Printed.{each_count, of_some}
use Rattle.vfm_audit.proofs.same.shows.Goals as goal

pub is_state-requires-clause-pages : goal.is_state-requires-clause-pages
is_state-requires-clause-pages c =
    each_count _ _ _ _ (of_some (λ m. IsPrintedState c.args.core.now.desc m.now) c.args.printed c.in-Some.printed c.in-Some.is c.requires.printed).pages
    ∙ sym c.in_ok-machine.ensures.pages

pub is_state-requires-clause-devices : goal.is_state-requires-clause-devices
is_state-requires-clause-devices c =
    each_count _ _ _ _ (of_some (λ m. IsPrintedState c.args.core.now.desc m.now) c.args.printed c.in-Some.printed c.in-Some.is c.requires.printed).devices
    ∙ sym c.in_ok-machine.ensures.devices
