-- One device after the other.
use Rattle.std.proofs.Common.{◌<◌, false, length, ◌∙◌, arith}
use Rattle.std.proofs.lemmas.List.{length-set}
use Rattle.vfm_parts_laws.specs.LooksIn.{is_ready_in}
use Rattle.vfm_lead.specs.LeadSteps.{parts_of}
use Rattle.vfm_lead.proofs.ByDevice.{place_set}
use Rattle.vfm_lead.proofs.look.ready.Goals as goal

pub loop-d-preserved : goal.loop-d-preserved
loop-d-preserved c =
    let places = c.loop-d.invariant.places in
    let inside : c.loop-d.d < length c.loop-d.ready = omega arith in
    rw c.from.ensures record {
      places = length-set c.loop-d.ready c.loop-d.d c.is_ready.result ∙ places;
      shown =
          (place_set c.loop-d.ready false (λ k. is_ready_in c.args.desc.now k (parts_of c.args.lead.now c.args.devices.now)) c.loop-d.d c.is_ready.result
          c.loop-d.invariant.shown inside c.is_ready.ensures);
    }
