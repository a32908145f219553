-- Report on the parts: the coordinator's, and the device's.
use Rattle.std.specs.Prelude.{ℕ, ◌&&◌, ◌||◌, not, Bool, true, nat_lt, if◌then◌else◌, List, [], ◌∷◌, slice_set}
use Rattle.vfm_types.specs.declared.entry.Rule.TheVariants.{Order, Pages}
use Rattle.vfm_types.specs.declared.desc.Desc.{Desc}
use Rattle.vfm_base.specs.PageSet.{contains_page}
use Rattle.vfm_plain.specs.Condition.{Condition}
use Rattle.vfm_parts.specs.Parts.{Dev, Lead, numbers_below}
use Rattle.vfm_parts.specs.PartWords.{is_on_in, is_no_pass_open_in, has_reported_in, is_decided_in}

-- device d may report: a pass has begun, the newest has ended, d hasn't reported since it began, and another is to come
abbrev pub may_report_log_in : Desc → ℕ → Lead → Bool
may_report_log_in D d lead =
    nat_lt 0 lead.passes && is_no_pass_open_in D lead && not (has_reported_in lead d)
    && (if lead.joint then not lead.last else not (is_decided_in D lead))

-- the conditions, in the order in which they are tested
abbrev pub report_conditions_in : Desc → ℕ → Lead → List Condition
report_conditions_in D d lead =
    (is_on_in lead, Order) ∷ (may_report_log_in D d lead, Pages) ∷ []

-- the coordinator after device d reported these pages
abbrev pub reported_lead : Desc → ℕ → List ℕ → Lead → Lead
reported_lead D d marks lead =
    record lead {
      gathered = numbers_below D.pages (λ p. contains_page marks p || contains_page lead.gathered p);
      reported = slice_set lead.reported d true;
    }

-- the device with its log cleared
abbrev pub reported_dev : Dev → Dev
reported_dev dev = record dev { marks = [] }
