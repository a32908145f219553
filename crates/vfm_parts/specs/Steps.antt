-- Every kind of entry on the parts that it touches: whether it is allowed, and what it makes of them.
use Rattle.std.specs.Prelude.{ℕ, ◌==◌, if◌then◌else◌, List, Option}
use Rattle.vfm_types.specs.declared.entry.Entry.{Entry}
use Rattle.vfm_types.specs.declared.entry.Entry.TheVariants.{Issue, Deliver, Complete, Hold, Arc, Fail, Report, Pass, Copy, Block, Dry, Begin, Joint, Abort, Resume}
use Rattle.vfm_types.specs.declared.entry.Rule.{Rule}
use Rattle.vfm_types.specs.declared.desc.Desc.{Desc}
use Rattle.vfm_types.specs.Desc.{device_count}
use Rattle.vfm_base.specs.Tests.{first_failed}
use Rattle.vfm_plain.specs.Condition.{Condition}
use Rattle.vfm_parts.specs.Parts.{Dev, Lead, World, Parts, parts_in, listed}
use Rattle.vfm_parts.specs.IssueStep.{issue_conditions_in, issued_dev}
use Rattle.vfm_parts.specs.DeliverStep.{deliver_conditions_in, devs_after_deliver, pages_after_deliver}
use Rattle.vfm_parts.specs.CompleteStep.{complete_conditions_in, completed_dev}
use Rattle.vfm_parts.specs.BeginStep.{begin_conditions_in, begun_lead, begun_dev}
use Rattle.vfm_parts.specs.HoldStep.{hold_conditions_in, held_dev}
use Rattle.vfm_parts.specs.ArcStep.{arc_conditions_in, moved_dev}
use Rattle.vfm_parts.specs.FailStep.{fail_conditions_in, failed_lead, failed_dev}
use Rattle.vfm_parts.specs.ReportStep.{report_conditions_in, reported_lead, reported_dev}
use Rattle.vfm_parts.specs.PassStep.{pass_conditions_in, passed_lead}
use Rattle.vfm_parts.specs.CopyStep.{copy_conditions_in, copied_lead}
use Rattle.vfm_parts.specs.BlockStep.{block_conditions_in, read_lead, read_dev}
use Rattle.vfm_parts.specs.DryStep.{dry_conditions_in, dry_lead}
use Rattle.vfm_parts.specs.JointStep.{joint_conditions_in, joint_lead}
use Rattle.vfm_parts.specs.AbortStep.{abort_conditions_in, aborted_lead, aborted_dev}
use Rattle.vfm_parts.specs.ResumeStep.{resume_conditions_in, resumed_lead, resumed_dev}

-- the conditions of an entry, read over the coordinator's part and the devices'
abbrev pub conditions_on : Desc → Lead → (ℕ → Dev) → Entry → List Condition
conditions_on D lead devs (Issue d n) = issue_conditions_in D d n (devs d)
conditions_on D lead devs (Deliver d n) = deliver_conditions_in n (devs d)
conditions_on D lead devs (Complete d n) = complete_conditions_in n (devs d)
conditions_on D lead devs (Hold d to) = hold_conditions_in D d to lead devs
conditions_on D lead devs (Arc d to) = arc_conditions_in D d to lead devs
conditions_on D lead devs (Fail d to) = fail_conditions_in D d to lead devs
conditions_on D lead devs (Report d) = report_conditions_in D d lead
conditions_on D lead devs (Pass k) = pass_conditions_in D k lead devs
conditions_on D lead devs (Copy p) = copy_conditions_in p lead
conditions_on D lead devs (Block d b) = block_conditions_in D d b lead (devs d)
conditions_on D lead devs (Dry d) = dry_conditions_in D d lead (devs d)
conditions_on D lead devs Begin = begin_conditions_in D lead devs
conditions_on D lead devs Joint = joint_conditions_in D lead devs
conditions_on D lead devs Abort = abort_conditions_in lead
conditions_on D lead devs Resume = resume_conditions_in D lead

-- the first rule that an entry breaks
abbrev pub fault_in : Desc → Parts → Entry → Option Rule
fault_in D parts entry = first_failed (conditions_on D parts.lead parts.dev entry)

-- what an entry makes of the coordinator's part
abbrev pub lead_after : Desc → Parts → Entry → Lead
lead_after D parts (Fail d to) = failed_lead parts.lead
lead_after D parts (Report d) = reported_lead D d (parts.dev d).marks parts.lead
lead_after D parts (Pass k) = passed_lead D k parts.dev parts.lead
lead_after D parts (Copy p) = copied_lead D p parts.lead
lead_after D parts (Block d b) = read_lead d parts.lead
lead_after D parts (Dry d) = dry_lead d parts.lead
lead_after D parts Begin = begun_lead parts.lead
lead_after D parts Joint = joint_lead parts.lead
lead_after D parts Abort = aborted_lead parts.lead
lead_after D parts Resume = resumed_lead parts.lead
lead_after D parts entry = parts.lead

-- device d changed, and every other one as it was
abbrev pub with_dev : ℕ → Dev → (ℕ → Dev) → ℕ → Dev
with_dev d dev devs k = if d == k then dev else devs k

-- what it makes of each device's part
abbrev pub dev_after : Desc → Parts → Entry → ℕ → Dev
dev_after D parts (Issue d n) k = with_dev d (issued_dev n (parts.dev d)) parts.dev k
dev_after D parts (Deliver d n) k = devs_after_deliver D parts d n k
dev_after D parts (Complete d n) k = with_dev d (completed_dev D d n (parts.dev d)) parts.dev k
dev_after D parts (Hold d to) k = with_dev d (held_dev to (parts.dev d)) parts.dev k
dev_after D parts (Arc d to) k = with_dev d (moved_dev to (parts.dev d)) parts.dev k
dev_after D parts (Fail d to) k = with_dev d (failed_dev (parts.dev d)) parts.dev k
dev_after D parts (Report d) k = with_dev d (reported_dev (parts.dev d)) parts.dev k
dev_after D parts (Block d b) k = with_dev d (read_dev D d b (parts.dev d)) parts.dev k
dev_after D parts Begin k = begun_dev (parts.dev k)
dev_after D parts Abort k = aborted_dev (parts.dev k)
dev_after D parts Resume k = resumed_dev (parts.dev k)
dev_after D parts entry k = parts.dev k

-- what it makes of each page
abbrev pub page_after : Desc → Parts → Entry → ℕ → List ℕ
page_after D parts (Deliver d n) p = pages_after_deliver D parts d n p
page_after D parts entry p = parts.page p

-- what it makes of all parts
abbrev pub parts_after : Desc → Parts → Entry → Parts
parts_after D parts entry =
    record { lead = lead_after D parts entry; dev = dev_after D parts entry; page = page_after D parts entry }

-- the first rule that an entry breaks in a world
abbrev pub fault_on : Desc → World → Entry → Option Rule
fault_on D w entry = fault_in D (parts_in w) entry

-- the world after it
abbrev pub after_on : Desc → World → Entry → World
after_on D w entry =
    let parts = parts_in w in
    record {
      lead = lead_after D parts entry;
      devs = listed (device_count D) (dev_after D parts entry);
      pages = listed D.pages (page_after D parts entry);
    }
