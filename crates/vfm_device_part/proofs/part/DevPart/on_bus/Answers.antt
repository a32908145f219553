use Rattle.std.proofs.Common.{ap, sym, ◌∙◌, arith}
use Rattle.vfm_types.specs.Outstanding.{delivered_count, undelivered_count}
use Rattle.vfm_parts.specs.Parts.{Dev}
use Rattle.vfm_device.proofs.Turns.{counts_add}
use Rattle.vfm_device_part.proofs.Picks.{completion_count, delivery_count}
use Rattle.vfm_device_part.proofs.part.DevPart.on_bus.Goals as goal

pub returns-clause-completions : goal.returns-clause-completions
returns-clause-completions c =
    c.on_bus.ensures.delivered ∙ ap (λ (dev : Dev). delivered_count dev.requests) c.self.view_is ∙ sym (completion_count c.args.d c.args.self.now.requests)

pub returns-clause-deliveries : goal.returns-clause-deliveries
returns-clause-deliveries c =
    c.on_bus.ensures.undelivered ∙ ap (λ (dev : Dev). undelivered_count dev.requests) c.self.view_is ∙ sym (delivery_count c.args.d c.args.self.now.requests)

pub returns-clause-few : goal.returns-clause-few
returns-clause-few c =
    let one = c.on_bus.ensures.delivered ∙ ap (λ (dev : Dev). delivered_count dev.requests) c.self.view_is in
    let two = c.on_bus.ensures.undelivered ∙ ap (λ (dev : Dev). undelivered_count dev.requests) c.self.view_is in
    let all = counts_add c.args.self.now.requests in
    let window = c.requires.fits.queue.window in
    let most = (c.requires.valid.in_range.devices c.args.d c.requires.device).window_high in
    omega (arith, one, two, all, window, most)
