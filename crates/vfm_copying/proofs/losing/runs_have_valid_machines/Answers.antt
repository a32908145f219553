-- Member by member.
use Rattle.vfm_copying.proofs.RunsValid.{lone_valid, pair_valid}
use Rattle.vfm_copying.proofs.losing.runs_have_valid_machines.Goals as goal

pub returns-clause-lone : goal.returns-clause-lone
returns-clause-lone c = lone_valid

pub returns-clause-pair : goal.returns-clause-pair
returns-clause-pair c = pair_valid
