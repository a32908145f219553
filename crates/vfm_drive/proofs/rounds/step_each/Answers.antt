-- One device after the other.
use Rattle.std.proofs.Common.{◌≡◌, ℕ, ◌<◌, Option, ap, sym, subst, ◌∙◌, arith}
use Rattle.vfm_types.specs.declared.desc.Desc.{Desc}
use Rattle.vfm_types.specs.declared.entry.Entry.{Entry}
use Rattle.vfm_types.specs.Desc.{device_count}
use Rattle.vfm_core.specs.CoreState.{CoreState}
use Rattle.vfm_drive.specs.Rounds.{devices_stepped, first_step, with_made}
use Rattle.vfm_drive.proofs.Steps.{one_more, stepped_desc}
use Rattle.vfm_drive.proofs.rounds.step_each.Goals as goal

pub step_device-requires : goal.step_device-requires
step_device-requires c =
    let count : c.len-count.result ≡ device_count c.args.core.now.desc = c.len-count.ensures ∙ ap device_count c.desc.ensures.value in
    let low = c.loop-d-test.true in
    let same : c.loop-d.core.desc ≡ c.args.core.now.desc = ap (λ (s : CoreState). s.desc) c.loop-d.invariant ∙ stepped_desc c.loop-d.d c.args.core.now in
    subst (λ (D : Desc). c.loop-d.d < device_count D) (sym same) (omega (arith, count, low))

pub loop-d-preserved : goal.loop-d-preserved
loop-d-preserved c =
    c.step_device.ensures.made ∙ ap (λ (o : Option Entry). with_made o c.loop-d.core) c.step_device.ensures.step
    ∙ ap (λ (s : CoreState). with_made (first_step c.loop-d.d s) s) c.loop-d.invariant
    ∙ ap (λ (k : ℕ). devices_stepped k c.args.core.now) (one_more c.loop-d.d)
