-- The rules of the journal: for each kind of entry the conditions under which it may be made, in the order in which
-- they are tested, each under the rule that it stands for. The conditions of a kind stand in the file of its name.
use Rattle.std.specs.Prelude.{List, Option}
use Rattle.vfm_types.specs.declared.entry.Entry.{Entry}
use Rattle.vfm_types.specs.declared.entry.Entry.TheVariants.{Issue, Deliver, Complete, Hold, Arc, Fail, Report, Pass, Copy, Block, Dry, Begin, Joint, Abort, Resume}
use Rattle.vfm_types.specs.declared.entry.Rule.{Rule}
use Rattle.vfm_types.specs.declared.desc.Desc.{Desc}
use Rattle.vfm_base.specs.Tests.{first_failed}
use Rattle.vfm_plain.specs.Condition.{Condition}
use Rattle.vfm_plain.specs.IssueRules.{issue_conditions}
use Rattle.vfm_plain.specs.DeliverRules.{deliver_conditions}
use Rattle.vfm_plain.specs.CompleteRules.{complete_conditions}
use Rattle.vfm_plain.specs.HoldRules.{hold_conditions}
use Rattle.vfm_plain.specs.ArcRules.{arc_conditions}
use Rattle.vfm_plain.specs.FailRules.{fail_conditions}
use Rattle.vfm_plain.specs.ReportRules.{report_conditions}
use Rattle.vfm_plain.specs.PassRules.{pass_conditions}
use Rattle.vfm_plain.specs.CopyRules.{copy_conditions}
use Rattle.vfm_plain.specs.BlockRules.{block_conditions}
use Rattle.vfm_plain.specs.DryRules.{dry_conditions}
use Rattle.vfm_plain.specs.BeginRules.{begin_conditions}
use Rattle.vfm_plain.specs.JointRules.{joint_conditions}
use Rattle.vfm_plain.specs.AbortRules.{abort_conditions}
use Rattle.vfm_plain.specs.ResumeRules.{resume_conditions}

-- the conditions of an entry, read over what stands before it
abbrev pub conditions_of : Desc → List Entry → Entry → List Condition
conditions_of D past (Issue d n) = issue_conditions D d n past
conditions_of D past (Deliver d n) = deliver_conditions D d n past
conditions_of D past (Complete d n) = complete_conditions D d n past
conditions_of D past (Hold d to) = hold_conditions D d to past
conditions_of D past (Arc d to) = arc_conditions D d to past
conditions_of D past (Fail d to) = fail_conditions D d to past
conditions_of D past (Report d) = report_conditions D d past
conditions_of D past (Pass k) = pass_conditions D k past
conditions_of D past (Copy p) = copy_conditions D p past
conditions_of D past (Block d b) = block_conditions D d b past
conditions_of D past (Dry d) = dry_conditions D d past
conditions_of D past Begin = begin_conditions D past
conditions_of D past Joint = joint_conditions D past
conditions_of D past Abort = abort_conditions D past
conditions_of D past Resume = resume_conditions D past

-- the first rule that an entry breaks where this stood before it
abbrev pub fault_of : Desc → List Entry → Entry → Option Rule
fault_of D past entry = first_failed (conditions_of D past entry)
