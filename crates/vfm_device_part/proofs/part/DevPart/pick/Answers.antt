-- Of the three lists one after another.
use Rattle.std.proofs.Common.{◌+◌, ◌%◌, refl, sym, ◌∙◌, arith}
use Rattle.vfm_device_part.specs.Pick.{completions, deliveries, issue_if_allowed}
use Rattle.vfm_device_part.proofs.Picks.{picked_early, picked_front, picked_third}
use Rattle.vfm_device_part.proofs.part.DevPart.pick.Goals as goal

pub returns-then-pick-delivered : goal.returns-then-pick-delivered
returns-then-pick-delivered c =
    let one = c.on_bus-delivered.ensures.completions in
    let two = c.on_bus-delivered.ensures.deliveries in
    let low = c.if-pick-delivered.true in
    c.step_on_bus.ensures ∙ sym (picked_early (completions c.args.d c.args.self.now.requests) (deliveries c.args.d c.args.self.now.requests)
    (issue_if_allowed c.args.desc.now c.args.d c.args.self.now) c.args.pick (omega (arith, one, two, low)))

pub returns-then-k-delivered : goal.returns-then-k-delivered
returns-then-k-delivered c =
    let one = c.on_bus-delivered.ensures.completions in
    let two = c.on_bus-delivered.ensures.deliveries in
    let three = c.issue_step-issue.ensures.count in
    let low = c.if-k-delivered.true in
    let n = c.on_bus-delivered.result.0 + c.on_bus-delivered.result.1 + c.issue_step-issue.result.1 in
    c.step_on_bus-then-k-delivered.ensures
    ∙ sym (picked_front (completions c.args.d c.args.self.now.requests) (deliveries c.args.d c.args.self.now.requests)
    (issue_if_allowed c.args.desc.now c.args.d c.args.self.now) c.args.pick (c.args.pick % n) n (omega (arith, one, two, three)) refl (omega (arith, one, two, low)))

pub returns : goal.returns
returns c =
    let one = c.on_bus-delivered.ensures.completions in
    let two = c.on_bus-delivered.ensures.deliveries in
    let three = c.issue_step-issue.ensures.count in
    let few = c.issue_step-issue.ensures.few in
    let some = c.if-count-eq0.false in
    let past = c.if-k-delivered.false in
    let n = c.on_bus-delivered.result.0 + c.on_bus-delivered.result.1 + c.issue_step-issue.result.1 in
    rw c.issue_step-issue.ensures.step (sym (picked_third (completions c.args.d c.args.self.now.requests) (deliveries c.args.d c.args.self.now.requests)
    (issue_if_allowed c.args.desc.now c.args.d c.args.self.now) c.args.pick (c.args.pick % n) n (omega (arith, one, two, three)) refl
    (omega (arith, one, two, past)) (omega (arith, some)) (omega (arith, three, few))))
