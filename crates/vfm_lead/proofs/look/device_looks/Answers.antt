-- One device after the other.
use Rattle.std.proofs.Common.{◌<◌, length, ap, ◌∙◌, arith}
use Rattle.std.proofs.lemmas.List.{length-set}
use Rattle.vfm_parts_laws.specs.LooksIn.{look_in}
use Rattle.vfm_quiet.specs.Seen.{no_look}
use Rattle.vfm_lead.specs.LeadSteps.{dev_of_list}
use Rattle.vfm_lead.proofs.ByDevice.{place_set}
use Rattle.vfm_lead.proofs.look.device_looks.Goals as goal

pub loop-d-preserved : goal.loop-d-preserved
loop-d-preserved c =
    let places = c.loop-d.invariant.places in
    let inside : c.loop-d.d < length c.loop-d.looks = omega arith in
    rw c.from.ensures record {
      places = length-set c.loop-d.looks c.loop-d.d c.look.result ∙ places;
      shown =
          (place_set c.loop-d.looks no_look (λ k. look_in c.args.desc.now k (dev_of_list c.args.devices.now k)) c.loop-d.d c.look.result
          c.loop-d.invariant.shown inside (c.look.ensures ∙ ap (look_in c.args.desc.now c.loop-d.d) c.device.ensures));
    }
