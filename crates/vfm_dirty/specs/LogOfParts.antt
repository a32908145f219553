-- The dirty log of a device's part, and the page that a job writes.
use Rattle.std.specs.Prelude.{ℕ, ◌<◌, Option, None, Some, if◌then◌else◌}
use Rattle.vfm_types.specs.declared.job.Job.{Job}
use Rattle.vfm_types.specs.declared.job.Region.{Region}
use Rattle.vfm_types.specs.declared.job.Region.TheVariants.{Page, Bar}
use Rattle.vfm_types.specs.declared.desc.Desc.{Desc}
use Rattle.vfm_types.specs.Job.{is_writer, place_of}
use Rattle.vfm_parts.specs.Parts.{Dev}
use Rattle.vfm_dirty.specs.LogState.{Log, with_mark}

-- the log of a device's part
abbrev pub log_of : Dev → Log
log_of dev = record { started = dev.logging; marked = dev.marks }

-- a device's part with this log
abbrev pub with_log : Log → Dev → Dev
with_log log dev = record dev { logging = log.started; marks = log.marked }

-- the page that the region is, if it is one
abbrev pub page_in : Region → Option ℕ
page_in (Page p) = Some p
page_in (Bar d) = None

-- the page that a job writes, if it writes one
abbrev pub written_page : Desc → Job → Option ℕ
written_page D job = if is_writer job then page_in (place_of D job).region else None

-- a log with this page marked, if there is one
abbrev pub with_page_marked : Option ℕ → Log → Log
with_page_marked None log = log
with_page_marked (Some p) log = with_mark p log

-- the page, if there is one, is one of memory
abbrev pub IsPageOf : Desc → Option ℕ → Type 0
IsPageOf D None = Unit {0}
IsPageOf D (Some p) = p < D.pages
