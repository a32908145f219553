-- In front or behind.
use Rattle.std.proofs.Common.{◌≡◌, ◌-◌, length, ap, sym, ◌∙◌, arith}
use Rattle.vfm_device_part.specs.Pick.{completions, deliveries, entry_at}
use Rattle.vfm_device_part.proofs.Picks.{at_back, at_front}
use Rattle.vfm_device_part.proofs.part.DevPart.step_on_bus.Goals as goal

pub returns-then-k-delivered : goal.returns-then-k-delivered
returns-then-k-delivered c =
    let xs = completions c.args.d c.args.self.now.requests in
    let ys = deliveries c.args.d c.args.self.now.requests in
    let count = c.requires in
    let low = c.if-k-delivered.true in
    c.completion_at.ensures ∙ sym (at_front xs ys c.args.k (omega (arith, count, low)))

pub returns : goal.returns
returns c =
    let xs = completions c.args.d c.args.self.now.requests in
    let ys = deliveries c.args.d c.args.self.now.requests in
    let count = c.requires in
    let past = c.if-k-delivered.false in
    let same : c.args.k - c.args.delivered ≡ c.args.k - length xs = omega (arith, count) in
    c.delivery_at.ensures ∙ ap (entry_at ys) same ∙ sym (at_back xs ys c.args.k (omega (arith, count, past)))
