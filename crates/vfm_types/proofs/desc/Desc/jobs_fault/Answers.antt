-- One job more in the walk over a device's jobs.
use Rattle.std.proofs.Common.{sym, ap, ◌∙◌, arith}
use Rattle.vfm_types.specs.declared.desc.DevShape.{DevShape}
use Rattle.vfm_types.specs.Desc.{no_shape}
use Rattle.vfm_types.specs.DescFault.{jobs_fault}
use Rattle.vfm_types.proofs.FormFault.{jobs_fault_step, job_in_range}
use Rattle.vfm_types.proofs.desc.Desc.jobs_fault.Goals as goal

pub job_fault-requires-clause-job : goal.job_fault-requires-clause-job
job_fault-requires-clause-job c =
    job_in_range c.args.self.now c.args.d c.at.result.now c.loop-j.j c.at-in-loop-j.result.now c.requires.in_range c.requires.device (c.at.ensures.value no_shape) (omega arith) (c.at-in-loop-j.ensures.value c.at-in-loop-j.result.now)

pub returns-in-Some : goal.returns-in-Some
returns-in-Some c =
    sym (jobs_fault_step c.args.self.now c.args.d c.at.result.now.jobs c.loop-j.j c.at-in-loop-j.result.now _ (omega arith) (c.at-in-loop-j.ensures.value c.at-in-loop-j.result.now) (sym c.in-Some.ensures))
    ∙ c.loop-j.invariant
    ∙ ap (λ (s : DevShape). jobs_fault c.args.self.now c.args.d 0 s.jobs) (c.at.ensures.value no_shape)

pub loop-j-preserved : goal.loop-j-preserved
loop-j-preserved c =
    sym (jobs_fault_step c.args.self.now c.args.d c.at.result.now.jobs c.loop-j.j c.at-in-loop-j.result.now _ (omega arith) (c.at-in-loop-j.ensures.value c.at-in-loop-j.result.now) (sym c.in_default.ensures))
    ∙ c.loop-j.invariant
