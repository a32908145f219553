-- The entry that breaks a rule is the first one.
use Rattle.std.proofs.Common.{length, reverse, ap, ◌∙◌}
use Rattle.vfm_audit.proofs.Making.{fault_behind}
use Rattle.vfm_audit.proofs.steps.make_one.Goals as goal

pub returns-in-Err-clause-fault : goal.returns-in-Err-clause-fault
returns-in-Err-clause-fault c = λ more.
    fault_behind c.args.core.now c.args.entry c.in-Err.field-0.0 c.len-place.result more c.requires.parts
    (c.in-Err.ensures.rule (reverse c.args.core.now.entries) c.requires.parts)
    (c.len-place.ensures ∙ ap length c.journal.ensures)
