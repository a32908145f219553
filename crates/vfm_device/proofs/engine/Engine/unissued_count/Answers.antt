use Rattle.std.proofs.Common.{◌≡◌, ◌+◌, length, ap, arith, []}
use Rattle.vfm_device.specs.EngineState.{EngineState, plain_with, unissued_in}
use Rattle.vfm_device.proofs.NextRequest.{unissued_length}
use Rattle.vfm_device.proofs.engine.Engine.unissued_count.Goals as goal

-- src/engine.rt
pub overflow_sub-result : goal.overflow_sub-result
overflow_sub-result c =
    let pending = ap (λ (e : EngineState). e.pending) c.self.view_is in
    let requests = ap (λ (e : EngineState). e.requests) c.self.view_is in
    let sum : c.count.result ≡ c.undelivered.result + length (unissued_in c.args.self.now) =
    rw (c.count.ensures, c.undelivered.ensures, pending, requests)
    (unissued_length c.args.desc.now c.args.d (plain_with [] c.args.self.now) c.args.self.now.requests c.requires.queue) in
    omega (arith, sum)

pub returns : goal.returns
returns c =
    let pending = ap (λ (e : EngineState). e.pending) c.self.view_is in
    let requests = ap (λ (e : EngineState). e.requests) c.self.view_is in
    let sum : c.count.result ≡ c.undelivered.result + length (unissued_in c.args.self.now) =
    rw (c.count.ensures, c.undelivered.ensures, pending, requests)
    (unissued_length c.args.desc.now c.args.d (plain_with [] c.args.self.now) c.args.self.now.requests c.requires.queue) in
    omega (arith, sum)
