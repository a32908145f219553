-- Member by member.
use Rattle.vfm_laws.proofs.RunsValid.{lone_valid, peers_valid}
use Rattle.vfm_laws.proofs.unclean.machines_are_valid.Goals as goal

pub returns-clause-lone : goal.returns-clause-lone
returns-clause-lone c = lone_valid

pub returns-clause-peers : goal.returns-clause-peers
returns-clause-peers c = peers_valid
