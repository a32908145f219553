-- Of a request that waits.
use Rattle.vfm_laws.proofs.Cleanness.{issuer_awake, target_awake}
use Rattle.vfm_laws.proofs.clean.delivery_is_clean.Goals as goal

pub returns-clause-issuer : goal.returns-clause-issuer
returns-clause-issuer c = issuer_awake

pub returns-clause-target : goal.returns-clause-target
returns-clause-target c = target_awake
