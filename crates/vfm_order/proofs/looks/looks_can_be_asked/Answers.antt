-- By the ranges of a description, and since there are few passes.
use Rattle.std.proofs.Common.{◌≤◌, ◌+◌, refl, arith}
use Rattle.vfm_types.specs.Phases.{pass_count}
use Rattle.vfm_laws.proofs.Counts.{passes_in_all}
use Rattle.vfm_order.proofs.Seeing.{few_devices}
use Rattle.vfm_order.proofs.looks.looks_can_be_asked.Goals as goal

pub returns-clause-count : goal.returns-clause-count
returns-clause-count c = λ D past. refl

pub returns-clause-few : goal.returns-clause-few
returns-clause-few c = λ D past valid. few_devices D valid

pub returns-clause-passes : goal.returns-clause-passes
returns-clause-passes c = λ D past valid legal.
    let passes : pass_count past ≤ D.rounds + 1 = passes_in_all D past legal in
    let rounds : D.rounds ≤ 8 = valid.in_range.rounds in
    omega arith
