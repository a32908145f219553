-- A fault of the form is never that memory ran out.
use Rattle.vfm_types.proofs.FormFault.{no_memory-form_fault}
use Rattle.vfm_types.proofs.desc.Desc.new.Goals as goal

pub returns-in-Some-clause-no_memory : goal.returns-in-Some-clause-no_memory
returns-in-Some-clause-no_memory c = no_memory-form_fault c.args.desc c.in-Some.fault c.in-Some.ensures
