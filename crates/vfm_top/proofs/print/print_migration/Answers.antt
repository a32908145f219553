-- The report of what was made.
use Rattle.std.proofs.Common.{◌∙◌, Option, Some, ap, subst, sym}
use Rattle.std.specs.Prelude.{option_map}
use Rattle.vfm_plain.specs.Report.{Made}
use Rattle.vfm_source.specs.Source.{MoverState}
use Rattle.vfm_outside.specs.Tells.{sink_tells}
use Rattle.vfm_migrate.specs.Migrations.{made_by}
use Rattle.vfm_top.specs.Answers.{Ends}
use Rattle.vfm_top.specs.Text.{report}
use Rattle.vfm_top.proofs.print.print_migration.Goals as goal

pub returns-in-Some : goal.returns-in-Some
returns-in-Some g c =
    let migration = c.args.migration in
    let made = ap (λ (made : Made). Some made) c.parts_of-parts.ensures.made in
    let source = ap (λ (source : Option MoverState).
    option_map (λ source. made_by migration.status source migration.loaded migration.taken_over) source) c.in-Some.is in
    subst (λ (made : Option Made). Ends c.print_report.result migration.status (report migration.status made)
    (sink_tells (g.S.Sink.holds c.args.out.now) (g.S.Sink.faults c.args.out.now))
    (sink_tells (g.S.Sink.holds c.print_report.new.out) (g.S.Sink.faults c.print_report.new.out)))
    (made ∙ sym source) c.print_report.ensures
