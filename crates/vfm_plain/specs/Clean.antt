-- Clean runs: no request is delivered by a stopped device or into the BARs of one. No condition of a Deliver says so:
-- it is a law about legal runs.
use Rattle.std.specs.Prelude.{◌&&◌, not, Bool, true, List, [], ◌∷◌, IsTrue}
use Rattle.vfm_types.specs.declared.entry.Entry.{Entry}
use Rattle.vfm_types.specs.declared.entry.Entry.TheVariants.{Deliver}
use Rattle.vfm_types.specs.declared.job.Region.{Region}
use Rattle.vfm_types.specs.declared.job.Region.TheVariants.{Page, Bar}
use Rattle.vfm_types.specs.declared.desc.Desc.{Desc}
use Rattle.vfm_types.specs.Job.{place_of}
use Rattle.vfm_types.specs.Requests.{job_of}
use Rattle.vfm_types.specs.Deliveries.{machine_of}
use Rattle.vfm_types.specs.Arcs.{state_of, is_stopped}

-- the region isn't the BARs of a stopped device
abbrev pub is_awake : Region → List Entry → Bool
is_awake (Page p) past = true
is_awake (Bar d) past = not (is_stopped (state_of d past))

-- a delivery that no stopped device makes and none receives; other entries are clean as they are
abbrev pub is_clean_step : Desc → List Entry → Entry → Bool
is_clean_step D past (Deliver d n) =
    not (is_stopped (state_of d past)) && is_awake (place_of D (job_of D (machine_of D past) d n)).region past
is_clean_step D past entry = true

-- The list, newest first, is clean.
abbrev pub IsClean : Desc → List Entry → Type 0
IsClean D [] = Unit {0}
IsClean D (entry ∷ past) = IsTrue (is_clean_step D past entry) × IsClean D past
