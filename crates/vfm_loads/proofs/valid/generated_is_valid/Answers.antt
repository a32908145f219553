-- Device by device and job by job.
use Rattle.vfm_loads.proofs.LoadValid.{generated_valid}
use Rattle.vfm_loads.proofs.valid.generated_is_valid.Goals as goal

pub returns : goal.returns
returns c = generated_valid
