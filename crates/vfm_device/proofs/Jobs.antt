-- What a valid description says of a job of a device.
use Rattle.std.proofs.Common.{ℕ, ◌<◌, length}
use Rattle.vfm_types.specs.declared.desc.Desc.{Desc}
use Rattle.vfm_types.specs.Desc.{device_count, job_at, shape_at}
use Rattle.vfm_types.specs.Job.{length_of, place_of}
use Rattle.vfm_types.specs.Valid.{IsValid}
use Rattle.vfm_plain.specs.Shape.{Lies}
use Rattle.vfm_plain.proofs.Sound.{job_in_range, lies_of_job, some_bytes, sound_job}

pub job_lies : (D : Desc) (d j : ℕ) → IsValid D → d < device_count D → j < length (shape_at D d).jobs → Lies D (place_of D (job_at D d j)) (length_of (job_at D d j))
job_lies D d j valid inside known =
    lies_of_job D d (job_at D d j) valid (sound_job D d j valid inside known) (some_bytes (job_at D d j) (job_in_range D d j valid inside known)).0
