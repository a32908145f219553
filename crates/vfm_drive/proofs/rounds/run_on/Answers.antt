-- One round more.
use Rattle.std.proofs.Common.{◌++◌}
use Rattle.vfm_drive.proofs.Runs.{has_run, none_made, then_on}
use Rattle.vfm_drive.proofs.Still.{no_round, one_round}
use Rattle.vfm_drive.proofs.rounds.run_on.Goals as goal

pub rounds-init : goal.rounds-init
rounds-init c =
    record {
      run = c.requires;
      on = none_made c.args.core.now;
      rounds = no_round c.args.core.now c.args.abort_after;
    }

pub rounds-preserved : goal.rounds-preserved
rounds-preserved c =
    let was = c.rounds.invariant.run in
    let next = c.round.ensures.goes_on was.origin was.mine was.run in
    record {
      run = record { origin = was.origin; mine = next.more ++ was.mine; run = next.run };
      on = λ origin mine run.
          let first = c.rounds.invariant.on origin mine run in
          then_on c.args.core.now c.rounds.core c.round.new.core origin mine first (c.round.ensures.goes_on origin (first.more ++ mine) first.run);
      rounds = one_round c.args.core.now c.rounds.core c.round.new.core c.args.abort_after c.rounds.invariant.rounds c.round.ensures.round;
    }

pub returns-clause-goes_on : goal.returns-clause-goes_on
returns-clause-goes_on c = λ origin mine run.
    let first = c.rounds.invariant.on origin mine run in
    then_on c.args.core.now c.rounds.core c.round.new.core origin mine first (c.round.ensures.goes_on origin (first.more ++ mine) first.run)

pub returns-clause-run : goal.returns-clause-run
returns-clause-run c =
    has_run c.args.core.now c.round.new.core c.requires.origin c.requires.mine
    (returns-clause-goes_on c c.requires.origin c.requires.mine c.requires.run)

pub returns-clause-rounds : goal.returns-clause-rounds
returns-clause-rounds c =
    one_round c.args.core.now c.rounds.core c.round.new.core c.args.abort_after c.rounds.invariant.rounds c.round.ensures.round
