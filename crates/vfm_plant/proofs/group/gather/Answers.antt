-- One more device.
use Rattle.std.proofs.Common.{◌≡◌, ◌+◌, List, [], ◌∷◌, ◌++◌, reverse, length, ap, ap₂, sym, ◌∙◌, append_assoc, arith}
use Rattle.std.proofs.lemmas.List.{reverse-append, reverse-reverse}
use Rattle.vfm_parts.specs.Parts.{Dev}
use Rattle.vfm_cells.specs.Cells.{Cell, lead_cell, device_cell}
use Rattle.vfm_plant.specs.declared.hand.Hand.{Hand}
use Rattle.vfm_plant.specs.Group.{dev_hands, hand_of}
use Rattle.vfm_plant.proofs.group.gather.Goals as goal

pub loop-device-init : goal.loop-device-init
loop-device-init c =
    let first : c.push_reserved.new.self.items ≡ hand_of 0 (lead_cell c.args.lead) ∷ [] =
    c.push_reserved.ensures.items ∙ (ap (λ (hs : List Hand). hs ++ hand_of 0 c.of_lead.result ∷ []) c.requires.hands.0 ∙ ap (λ (p : Cell). hand_of 0 p ∷ []) c.of_lead.ensures) in
    record {
      all =
          ap₂ (λ (hs : List Hand) (ds : List Dev). hs ++ dev_hands 1 (reverse ds)) first c.reverse.ensures.items
          ∙ ap (λ (ds : List Dev). hand_of 0 (lead_cell c.args.lead) ∷ dev_hands 1 ds) (reverse-reverse c.args.devices.now.items);
      count = (let len = c.reverse.ensures.len in omega arith);
      held = (let len = c.push_reserved.ensures.len in let none = ap (λ (hs : List Hand). length hs) c.requires.hands.0 in let ok = c.args.hands.now.ok.0 in omega arith);
      capacity = c.push_reserved.ensures.capacity;
      room = c.reverse.ensures.capacity;
    }

pub loop-device-preserved : goal.loop-device-preserved
loop-device-preserved c =
    let i = c.loop-device.invariant in
    let rest = c.pop.new.self.items in
    let dev = c.in-Some.device in
    let cell = c.loop-device.cell in
    let hands = c.loop-device.hands.items in
    record {
      all =
          ap (λ (hs : List Hand). hs ++ dev_hands (cell + 1) (reverse rest))
          (c.push_reserved-in-Some.ensures.items ∙ ap (λ (p : Cell). hands ++ hand_of cell p ∷ []) c.of_device.ensures)
          ∙ (append_assoc hands (hand_of cell (device_cell dev) ∷ []) (dev_hands (cell + 1) (reverse rest))
          ∙ (ap (λ (ds : List Dev). hands ++ dev_hands cell ds) (sym (reverse-append rest (dev ∷ [])) ∙ ap reverse (sym c.in-Some.ensures.items)) ∙ i.all));
      count = (let len = c.in-Some.ensures.len in let before = i.count in omega arith);
      held = (let len = c.push_reserved-in-Some.ensures.len in let before = i.held in omega arith);
      capacity = c.push_reserved-in-Some.ensures.capacity ∙ i.capacity;
      room = c.in-Some.ensures.capacity ∙ i.room;
    }
