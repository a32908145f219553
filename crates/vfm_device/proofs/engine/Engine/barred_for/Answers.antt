-- The three rules, one after another.
use Rattle.std.proofs.Common.{sym, ◌∙◌}
use Rattle.vfm_device.proofs.Turns.{barred_job, barred_start, not_barred}
use Rattle.vfm_device.proofs.engine.Engine.barred_for.Goals as goal

pub returns-then-not-is_allowed : goal.returns-then-not-is_allowed
returns-then-not-is_allowed c =
    sym (barred_job c.args.desc.now c.args.d c.args.begun c.args.self.now c.args.request c.requires.next
    (sym c.has_turn.ensures ∙ c.if-not-has_turn.false)
    (sym (c.is_allowed.ensures c.args.begun) ∙ c.if-not-is_allowed.true))

pub returns-then-not-may_start : goal.returns-then-not-may_start
returns-then-not-may_start c =
    sym (barred_start c.args.desc.now c.args.d c.args.begun c.args.self.now c.args.request c.requires.next
    (sym c.has_turn.ensures ∙ c.if-not-has_turn.false)
    (sym (c.is_allowed.ensures c.args.begun) ∙ c.if-not-is_allowed.false)
    (sym c.may_start.ensures ∙ c.if-not-may_start.true))

pub returns : goal.returns
returns c =
    sym (not_barred c.args.desc.now c.args.d c.args.begun c.args.self.now c.args.request c.requires.next
    (sym c.has_turn.ensures ∙ c.if-not-has_turn.false)
    (sym (c.is_allowed.ensures c.args.begun) ∙ c.if-not-is_allowed.false)
    (sym c.may_start.ensures ∙ c.if-not-may_start.false))
