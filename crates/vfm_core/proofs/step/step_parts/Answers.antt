-- Each kind of entry by the step on the parts that it touches.
use Rattle.std.proofs.Common.{List, ap, ap₂, ◌∙◌}
use Rattle.vfm_parts.specs.Parts.{Dev, Lead}
use Rattle.vfm_core.specs.CoreState.{world_with}
use Rattle.vfm_core.proofs.Outcomes.{at_ok, at_err, then_ok}
use Rattle.vfm_core.proofs.LeadWorlds.{lead_judged, lead_steps, own_steps, copy_steps, is_lead}
use Rattle.vfm_core.proofs.step.step_parts.Goals as goal

pub returns-in-Issue-clause-done : goal.returns-in-Issue-clause-done
returns-in-Issue-clause-done c =
    then_ok c.own_step.result
    (λ made. ap (λ (devs : List Dev). world_with c.args.lead.now devs c.args.pages.now) made
    ∙ rw c.in-Issue.is (own_steps c.args.desc.now c.args.lead.now c.args.devices.now c.args.pages.now c.in-Issue.d _ c.requires.fits.devs c.requires.fits.pages))
    c.own_step.ensures.done

pub returns-in-Deliver-clause-done : goal.returns-in-Deliver-clause-done
returns-in-Deliver-clause-done c =
    rw c.in-Deliver.is
    (at_ok c.deliver.result (λ devs pages. ap₂ (world_with c.args.lead.now) devs pages) (c.deliver.ensures.devices c.args.lead.now) (c.deliver.ensures.pages c.args.lead.now))

pub returns-in-Complete-clause-done : goal.returns-in-Complete-clause-done
returns-in-Complete-clause-done c =
    then_ok c.own_step-in-Complete.result
    (λ made. ap (λ (devs : List Dev). world_with c.args.lead.now devs c.args.pages.now) made
    ∙ rw c.in-Complete.is (own_steps c.args.desc.now c.args.lead.now c.args.devices.now c.args.pages.now c.in-Complete.d _ c.requires.fits.devs c.requires.fits.pages))
    c.own_step-in-Complete.ensures.done

pub returns-in-Copy-clause-guard : goal.returns-in-Copy-clause-guard
returns-in-Copy-clause-guard c = rw c.in-Copy.is (rw c.in-Copy.is at (c.step_copy.ensures.guard c.args.devices.now))

pub returns-in-Copy-clause-done : goal.returns-in-Copy-clause-done
returns-in-Copy-clause-done c =
    rw c.in-Copy.is
    (then_ok c.step_copy.result
    (λ made. ap (λ (lead : Lead). world_with lead c.args.devices.now c.args.pages.now) made
    ∙ copy_steps c.args.desc.now c.args.lead.now c.args.devices.now c.args.pages.now c.in-Copy.p c.requires.fits.devs c.requires.fits.pages)
    (rw c.in-Copy.is at (c.step_copy.ensures.lead c.args.devices.now)))

pub returns-in_default : goal.returns-in_default
returns-in_default c =
    let kind = is_lead c.args.e.now c.in_default.not-Issue c.in_default.not-Deliver c.in_default.not-Complete c.in_default.not-Copy in
    record {
      guard = rw (lead_judged c.args.desc.now c.args.lead.now c.args.devices.now c.args.pages.now c.args.e.now kind) c.step_lead.ensures.guard;
      done = at_ok c.step_lead.result
          (λ lead devs. ap₂ (λ (l : Lead) (ds : List Dev). world_with l ds c.args.pages.now) lead devs
          ∙ lead_steps c.args.desc.now c.args.lead.now c.args.devices.now c.args.pages.now c.args.e.now kind c.requires.fits.pages)
          c.step_lead.ensures.lead c.step_lead.ensures.devices;
      same = at_err c.step_lead.result (λ lead devs. ap₂ (λ (l : Lead) (ds : List Dev). world_with l ds c.args.pages.now) lead devs)
          c.step_lead.ensures.lead_same c.step_lead.ensures.devices_same;
    }
