-- The machine is that of all entries that the core made.
use Rattle.vfm_audit.proofs.Making.{machine_made}
use Rattle.vfm_audit.proofs.steps.machine_of.Goals as goal

pub returns : goal.returns
returns c = machine_made c.args.core.now c.copy_into.new.into c.requires c.desc.ensures.fits c.copy_into.ensures
