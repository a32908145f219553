-- One more device.
use Rattle.std.proofs.Common.{◌≡◌, ℕ, ◌+◌, ◌<◌, ◌≤◌, List, [], ◌∷◌, ◌++◌, length, refl, ap, sym, subst, ◌∙◌, arith}
use Rattle.vfm_types.specs.declared.desc.Desc.{Desc}
use Rattle.vfm_types.specs.Desc.{device_count}
use Rattle.vfm_parts.specs.Parts.{Dev}
use Rattle.vfm_parts.specs.Fits.{DevFits}
use Rattle.vfm_turn.specs.Seen.{Hold, Seen, hold, entered, is_held}
use Rattle.vfm_turn.specs.Words.{holds_of, seen_of}
use Rattle.vfm_cells.specs.Cells.{Cell}
use Rattle.vfm_lead.specs.LeadSteps.{dev_of_list}
use Rattle.vfm_plant.specs.Group.{group_hands, group_holds}
use Rattle.vfm_plant.specs.Hands.{IsHolding, with_holds}
use Rattle.vfm_plant.proofs.Holds.{rest_has}
use Rattle.vfm_plant.proofs.GroupHands.{each_end, group_holding, group_past, holds_end}
use Rattle.vfm_plant.proofs.plant.Plant.enter_group.Goals as goal

pub enter-requires-in-loop-d-clause-free : goal.enter-requires-in-loop-d-clause-free
enter-requires-in-loop-d-clause-free c =
    let lead = c.into_lead-lead.result in
    let devs = c.loop-d.devices.items in
    let count = c.loop-d.invariant.count in
    let ok = c.loop-d.devices.ok.0 in
    let high : length devs < c.loop-d.d + 1 = omega arith in
    ap (λ (s : Seen Cell). is_held (c.loop-d.d + 1) s.holds) c.loop-d.invariant.seen
    ∙ (rest_has (c.loop-d.d + 1) (group_hands lead devs) ∙ group_past lead devs (c.loop-d.d + 1) high)

pub leave_all-requires-clause-held : goal.leave_all-requires-clause-held
leave_all-requires-clause-held c =
    let D = c.args.self.now.desc in
    let devs = c.loop-d.devices.items in
    let i = c.loop-d.invariant in
    let count = i.count in
    let ok = c.loop-d.devices.ok.0 in
    let test = c.loop-d-test.true in
    let end = c.len-d-end.ensures in
    let same : length devs ≡ c.loop-d.d = omega arith in
    let few : length devs ≤ device_count D = omega arith in
    subst (λ (E : Desc). IsHolding E (holds_of c.enter-in-loop-d.new.t) c.gather.new.hands.items) (sym c.requires.plant.same)
    (group_holding D c.into_lead-lead.result devs (holds_of c.enter-in-loop-d.new.t) c.gather.new.hands.items
    (ap (λ (s : Seen Cell). s.holds) (c.in-Err.ensures.busy ∙ ap (λ (s : Seen Cell). s) refl) ∙ ap (λ (s : Seen Cell). s.holds) i.seen)
    c.gather.ensures.hands i.lead few (λ k h. let low : k < c.loop-d.d = omega arith in i.each k low))

pub loop-d-preserved : goal.loop-d-preserved
loop-d-preserved c =
    let D = c.args.self.now.desc in
    let i = c.loop-d.invariant in
    let lead = c.into_lead-lead.result in
    let devs = c.loop-d.devices.items in
    let dev = c.into_device.result in
    let cell = c.loop-d.d + 1 in
    let s = seen_of c.args.t.now in
    let count = i.count in
    let ok = c.loop-d.devices.ok.0 in
    let same : length devs ≡ c.loop-d.d = omega arith in
    let here : cell ≡ length devs + 1 = omega arith in
    record {
      ticket = c.in-Ok.ensures.ticket.0;
      number = c.in-Ok.ensures.ticket.1 ∙ i.number;
      seen =
          c.in-Ok.ensures.ok
          ∙ (ap (entered cell c.in-Ok.part) i.seen
          ∙ (ap (λ (p : Cell). with_holds (group_holds lead devs ++ hold cell p p ∷ []) s) c.into_device.ensures.device
          ∙ (ap (λ (hs : List (Hold Cell)). with_holds hs s) (sym (holds_end lead devs dev cell here))
          ∙ ap (λ (ds : List Dev). with_holds (group_holds lead ds) s) (sym c.push_reserved.ensures.items))));
      count = (let len = c.push_reserved.ensures.len in omega arith);
      lead = i.lead;
      each = subst (λ (ds : List Dev). (k : ℕ) → k < c.loop-d.d + 1 → DevFits D k (dev_of_list ds k)) (sym c.push_reserved.ensures.items)
          (each_end D devs dev c.loop-d.d same i.each c.into_device.ensures.fits);
      room = c.push_reserved.ensures.capacity ∙ i.room;
    }
