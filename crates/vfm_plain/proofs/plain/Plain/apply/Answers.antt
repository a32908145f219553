use Rattle.std.proofs.Common.{◌<◌, length}
use Rattle.vfm_types.specs.Desc.{shape_at}
use Rattle.vfm_plain.proofs.Sound.{sound_job, job_in_range}
use Rattle.vfm_plain.proofs.Effects.{sound_applied}
use Rattle.vfm_plain.proofs.Steps.{shape-took, shape-made}
use Rattle.vfm_plain.proofs.plain.Plain.apply.Goals as goal

pub make-requires-clause-sound : goal.make-requires-clause-sound
make-requires-clause-sound c =
    let there : c.take-number.result < length (shape_at c.args.desc.now c.args.d).jobs =
    rw c.take-number.ensures.job ((c.requires.shape.device c.args.d c.requires.device).jobs c.in-Some.k (0, 0) c.in-Some.ensures.within) in
    rw c.job_at.ensures (sound_job c.args.desc.now c.args.d c.take-number.result c.requires.valid c.requires.device there)

pub make-requires-clause-in_range : goal.make-requires-clause-in_range
make-requires-clause-in_range c =
    let there : c.take-number.result < length (shape_at c.args.desc.now c.args.d).jobs =
    rw c.take-number.ensures.job ((c.requires.shape.device c.args.d c.requires.device).jobs c.in-Some.k (0, 0) c.in-Some.ensures.within) in
    rw c.job_at.ensures (job_in_range c.args.desc.now c.args.d c.take-number.result c.requires.valid c.requires.device there)

pub make-requires-clause-shape : goal.make-requires-clause-shape
make-requires-clause-shape c =
    shape-took c.args.desc.now c.args.self.now c.take-number.new.self c.args.d c.args.n c.in-Some.k c.in-Some.ensures.rest c.take-number.ensures.taken c.requires.shape

pub returns-clause-shape : goal.returns-clause-shape
returns-clause-shape c =
    shape-made c.args.desc.now c.take-number.new.self c.make.new.self c.args.d c.job_at.result.now c.requires.valid c.requires.device (make-requires-clause-sound c.before) (make-requires-clause-in_range c.before) c.make.ensures (make-requires-clause-shape c.before)

pub returns-clause-sound : goal.returns-clause-sound
returns-clause-sound c =
    sound_applied c.args.desc.now c.args.self.now c.take-number.new.self c.make.new.self c.args.d c.args.n c.in-Some.k c.take-number.result c.job_at.result.now c.requires.valid c.in-Some.ensures.free c.in-Some.ensures.rest c.take-number.ensures.taken c.take-number.ensures.job c.in-Some.ensures.job c.job_at.ensures c.make.ensures
