-- The summary of what was made.
use Rattle.std.proofs.Common.{◌≡◌, ◌∙◌, ◌++◌, List, ℕ, Option, Some, ap, refl, subst, sym}
use Rattle.std.specs.Prelude.{option_map}
use Rattle.vfm_types.specs.Machine.{Machine}
use Rattle.vfm_source.specs.Source.{MoverState}
use Rattle.vfm_outside.specs.Tells.{sink_tells}
use Rattle.vfm_plain.specs.Report.{if_there}
use Rattle.vfm_move.specs.Table.{owner_at}
use Rattle.vfm_migrate.specs.Migrations.{made_by}
use Rattle.vfm_status.specs.StatusText.{status_line}
use Rattle.vfm_top.specs.Answers.{Ends}
use Rattle.vfm_top.specs.Text.{load_report, summary}
use Rattle.vfm_top.proofs.Parts.{summed_same}
use Rattle.vfm_top.proofs.summary.print_moved.Goals as goal

pub returns-in-Some : goal.returns-in-Some
returns-in-Some g c =
    let migration = c.args.migration in
    let status = migration.status in
    let source = c.in-Some.source in
    let shown =
    ap (λ (o : Option Machine). status_line status ++ if_there (summary c.args.number source.core.desc) o)
    (summed_same (owner_at status) status refl source migration.loaded migration.taken_over) in
    let made = ap (λ (source : Option MoverState).
    load_report c.args.number status (option_map (λ source. made_by status source migration.loaded migration.taken_over) source)) c.in-Some.is in
    subst (λ (text : List ℕ). Ends c.print_end.result status text
    (sink_tells (g.S.Sink.holds c.args.out.now) (g.S.Sink.faults c.args.out.now))
    (sink_tells (g.S.Sink.holds c.print_end.new.out) (g.S.Sink.faults c.print_end.new.out)))
    (shown ∙ sym made) c.print_end.ensures
