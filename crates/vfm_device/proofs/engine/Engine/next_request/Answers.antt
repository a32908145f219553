use Rattle.std.proofs.Common.{ap, []}
use Rattle.vfm_device.specs.EngineState.{EngineState, plain_with}
use Rattle.vfm_device.proofs.NextRequest.{next_item}
use Rattle.vfm_device.proofs.Turns.{if_next}
use Rattle.vfm_device.proofs.engine.Engine.next_request.Goals as goal

-- src/engine.rt:112:5
pub returns-clause-value : goal.returns-clause-value
returns-clause-value c =
    let pending = ap (λ (e : EngineState). e.pending) c.self.view_is in
    let requests = ap (λ (e : EngineState). e.requests) c.self.view_is in
    rw (c.item_at.ensures, c.pending.ensures, c.undelivered-waiting.ensures, pending, requests)
    (next_item c.args.desc.now c.args.d (plain_with [] c.args.self.now) c.args.self.now.requests c.requires.queue)

pub returns-clause-next : goal.returns-clause-next
returns-clause-next c = if_next c.args.desc.now c.args.d c.args.self.now c.item_at.result c.requires (returns-clause-value c)
