-- Complete on the parts: the device's own.
use Rattle.std.specs.Prelude.{ℕ, ◌+◌, ◌||◌, Bool, true, if◌then◌else◌, List, [], ◌∷◌}
use Rattle.vfm_types.specs.declared.entry.Rule.TheVariants.{Turn}
use Rattle.vfm_types.specs.declared.desc.Desc.{Desc}
use Rattle.vfm_base.specs.PageSet.{contains_page}
use Rattle.vfm_types.specs.Desc.{job_at}
use Rattle.vfm_types.specs.Outstanding.{complete_if, is_arrived, outstanding_job_or_zero}
use Rattle.vfm_types.specs.Marks.{writes_page}
use Rattle.vfm_plain.specs.Condition.{Condition}
use Rattle.vfm_parts.specs.Parts.{Dev, numbers_below}

-- request n of the device is outstanding and has reached its target
abbrev pub has_been_delivered_in : ℕ → Dev → Bool
has_been_delivered_in n dev = is_arrived n dev.requests

-- the conditions, in the order in which they are tested
abbrev pub complete_conditions_in : ℕ → Dev → List Condition
complete_conditions_in n dev =
    (has_been_delivered_in n dev, Turn) ∷ []

-- the pages marked in the log of device d after its request n completed: the page that it wrote too, while the log is
-- started
abbrev pub marks_after_complete : Desc → ℕ → ℕ → Dev → List ℕ
marks_after_complete D d n dev =
    if dev.logging then numbers_below D.pages
    (λ p. writes_page D p (job_at D d (outstanding_job_or_zero n dev.requests)) || contains_page dev.marks p)
    else dev.marks

-- device d with its request n no longer outstanding
abbrev pub completed_dev : Desc → ℕ → ℕ → Dev → Dev
completed_dev D d n dev =
    record dev {
      requests = complete_if true n dev.requests;
      completes = dev.completes + 1;
      marks = marks_after_complete D d n dev;
    }
