-- What a description says of its devices and sizes. Each word is total: a number that no device has stands for
-- a device without a name, a BAR, a window or jobs.
use Rattle.std.specs.Prelude.{ℕ, ◌/◌, false, [], length, sum, take, slice_index_or}
use Rattle.std.specs.List.{sum_by}
use Rattle.vfm_types.specs.declared.job.Job.{Job}
use Rattle.vfm_types.specs.declared.job.Job.TheVariants.{Read}
use Rattle.vfm_types.specs.declared.desc.DevShape.{DevShape}
use Rattle.vfm_types.specs.declared.desc.Desc.{Desc}

-- no device
abbrev pub no_shape : DevShape
no_shape =
    record { name = []; flags = 1; bars = []; window = 0; tells = false; budget = 0; fails = 0; jobs = []; queue = [] }

-- no job: reads nothing
abbrev pub no_job : Job
no_job = Read 0 0

-- how many devices there are
abbrev pub device_count : Desc → ℕ
device_count D = length D.devices

-- device d
abbrev pub shape_at : Desc → ℕ → DevShape
shape_at D d = slice_index_or D.devices d no_shape

-- the bytes of all BARs of the device, which lie one after the other
abbrev pub bar_bytes : DevShape → ℕ
bar_bytes shape = sum shape.bars

-- the bytes of BAR b of the device; one that isn't there has none
abbrev pub bar_size : DevShape → ℕ → ℕ
bar_size shape b = slice_index_or shape.bars b 0

-- the bytes of the device's BARs before BAR b
abbrev pub bars_before : DevShape → ℕ → ℕ
bars_before shape b = sum (take b shape.bars)

-- the 64-byte blocks of the device's BARs, counted over all of them
abbrev pub block_count : DevShape → ℕ
block_count shape = bar_bytes shape / 64

-- job j of device d
abbrev pub job_at : Desc → ℕ → ℕ → Job
job_at D d j = slice_index_or (shape_at D d).jobs j no_job

-- the requests that all devices together may accept
abbrev pub all_budgets : Desc → ℕ
all_budgets D = sum_by (λ shape. shape.budget) D.devices
