-- Undelivered requests are the first, without a fence among them, or one alone.
use Rattle.vfm_laws.proofs.Enabled.{undelivered_enabled}
use Rattle.vfm_laws.proofs.queue.undelivered_are_enabled.Goals as goal

pub returns : goal.returns
returns c = undelivered_enabled
