-- One round more.
use Rattle.std.proofs.Common.{◌++◌}
use Rattle.vfm_drive.proofs.Runs.{has_run, none_made, then_on}
use Rattle.vfm_drive.proofs.Still.{no_round, one_round}
use Rattle.vfm_dest.proofs.Going.{stays, then-homeward}
use Rattle.vfm_dest.proofs.homeward.run_home.Goals as goal

pub rounds-init : goal.rounds-init
rounds-init c =
    record {
      homeward = stays c.args.core.now c.requires;
      on = none_made c.args.core.now;
      rounds = λ run. no_round c.args.core.now 0;
    }

pub rounds-preserved : goal.rounds-preserved
rounds-preserved c =
    let inv = c.rounds.invariant in
    record {
      homeward = then-homeward c.args.core.now c.rounds.core c.round.new.core inv.homeward c.round.ensures.homeward;
      on = λ origin mine run.
          let first = inv.on origin mine run in
          then_on c.args.core.now c.rounds.core c.round.new.core origin mine first (c.round.ensures.goes_on origin (first.more ++ mine) first.run);
      rounds = λ run.
          one_round c.args.core.now c.rounds.core c.round.new.core 0 (inv.rounds run)
          (c.round.ensures.round (has_run c.args.core.now c.rounds.core run.origin run.mine (inv.on run.origin run.mine run.run)));
    }

pub returns-clause-goes_on : goal.returns-clause-goes_on
returns-clause-goes_on c = λ origin mine run.
    let first = c.rounds.invariant.on origin mine run in
    then_on c.args.core.now c.rounds.core c.round.new.core origin mine first (c.round.ensures.goes_on origin (first.more ++ mine) first.run)

pub returns-clause-rounds : goal.returns-clause-rounds
returns-clause-rounds c = λ run.
    one_round c.args.core.now c.rounds.core c.round.new.core 0 (c.rounds.invariant.rounds run)
    (c.round.ensures.round (has_run c.args.core.now c.rounds.core run.origin run.mine (c.rounds.invariant.on run.origin run.mine run.run)))
