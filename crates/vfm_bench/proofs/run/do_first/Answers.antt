-- A first request that is refused isn't there.
use Rattle.std.proofs.Common.{ap, ◌∙◌}
use Rattle.vfm_types.specs.Machine.{Machine, device_of}
use Rattle.vfm_bench.proofs.Turns.{none_pending}
use Rattle.vfm_bench.proofs.run.do_first.Goals as goal

pub returns-in-Err-clause-idle : goal.returns-in-Err-clause-idle
returns-in-Err-clause-idle c =
    λ zero. ap (λ (m : Machine). (device_of m c.args.d).pending) c.in-Err.ensures.refused ∙ none_pending c.args.desc.now c.args.plain.now c.args.d c.pending-pending.result.now c.requires.valid c.requires.device c.pending-pending.ensures c.in-Err.ensures.enabled
