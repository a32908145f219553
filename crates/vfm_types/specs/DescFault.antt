-- What can be wrong with a description whose members are all there and in their ranges. The first fault counts: names
-- that stand twice, then the jobs by device and number, then devices that can't move together.
use Rattle.std.specs.Prelude.{ℕ, ◌+◌, ◌&&◌, Bool, not, nat_lt, nat_eq, if◌then◌else◌, List, [], ◌∷◌, Option, Some, None, is_none}
use Rattle.std.specs.List.{list_any}
use Rattle.std.specs.Option.{option_or}
use Rattle.std.specs.Cmp.Lexicographic.{pointwise}
use Rattle.vfm_types.specs.declared.job.Job.{Job}
use Rattle.vfm_types.specs.declared.desc.DevShape.{DevShape}
use Rattle.vfm_types.specs.declared.desc.Desc.{Desc}
use Rattle.vfm_types.specs.declared.fault.DescFault.{DescFault}
use Rattle.vfm_types.specs.declared.fault.DescFault.TheVariants.{NameTwice, Crosses, OwnBar, BellKind, NeedsP2p}
use Rattle.vfm_types.specs.State.{has_p2p}
use Rattle.vfm_types.specs.Desc.{device_count}
use Rattle.vfm_types.specs.Region.{region_of}
use Rattle.vfm_types.specs.Job.{address_of, length_of, is_writer, place_of, is_bar, is_bar_of, is_doorbell}

-- the first of these devices, numbered from d on, whose name stands before it or among the names given
abbrev pub name_twice : List (List ℕ) → ℕ → List DevShape → Option DescFault
name_twice names d [] = None
name_twice names d (shape ∷ shapes) =
    if list_any (pointwise nat_eq shape.name) names then Some (NameTwice d)
    else name_twice (shape.name ∷ names) (d + 1) shapes

-- the job touches the first 8 bytes of a BAR 0 otherwise than by ringing the doorbell that stands there
abbrev pub is_bell_misused : Desc → Job → Bool
is_bell_misused D job =
    is_writer job && is_bar (place_of D job).region && nat_lt (place_of D job).offset 8 && not (is_doorbell D job)

-- what is wrong with job j of device d
abbrev pub job_fault : Desc → ℕ → ℕ → Job → Option DescFault
job_fault D d j job =
    if is_none (region_of D (address_of job) (length_of job)) then Some (Crosses d j)
    else (if is_bar_of d (place_of D job).region then Some (OwnBar d j)
    else (if is_bell_misused D job then Some (BellKind d j) else None))

-- the first fault of these jobs of device d, numbered from j on
abbrev pub jobs_fault : Desc → ℕ → ℕ → List Job → Option DescFault
jobs_fault D d j [] = None
jobs_fault D d j (job ∷ jobs) = option_or (job_fault D d j job) (jobs_fault D d (j + 1) jobs)

-- the first fault of the jobs of these devices, numbered from d on
abbrev pub devices_fault : Desc → ℕ → List DevShape → Option DescFault
devices_fault D d [] = None
devices_fault D d (shape ∷ shapes) = option_or (jobs_fault D d 0 shape.jobs) (devices_fault D (d + 1) shapes)

-- the first of these devices, numbered from d on, that lacks the peer-to-peer states
abbrev pub lacks_p2p : ℕ → List DevShape → Option DescFault
lacks_p2p d [] = None
lacks_p2p d (shape ∷ shapes) = if has_p2p shape.flags then lacks_p2p (d + 1) shapes else Some (NeedsP2p d)

-- the first fault of a description in whole, if it has one
unfoldable pub form_fault : Desc → Option DescFault
form_fault D =
    option_or (name_twice [] 0 D.devices) (option_or (devices_fault D 0 D.devices)
    (if nat_lt 1 (device_count D) then lacks_p2p 0 D.devices else None))
