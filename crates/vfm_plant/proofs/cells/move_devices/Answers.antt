-- One more is moved.
use Rattle.std.proofs.Common.{List, [], ◌∷◌, ◌++◌, map, reverse, refl, ap, sym, ◌∙◌, append_assoc, arith}
use Rattle.std.proofs.lemmas.List.{reverse-append, reverse-reverse}
use Rattle.vfm_parts.specs.Parts.{Dev}
use Rattle.vfm_cells.specs.Cells.{Cell, device_cell}
use Rattle.vfm_plant.proofs.cells.move_devices.Goals as goal

pub loop-device-init : goal.loop-device-init
loop-device-init c =
    record {
      all = ap (λ (xs : List (Dev)). c.args.cells.now.items ++ map device_cell xs) (ap reverse c.reverse.ensures.items ∙ reverse-reverse c.args.devices.now.items);
      fits = (let len = c.reverse.ensures.len in let room = c.requires in omega arith);
      capacity = refl;
      room = c.reverse.ensures.capacity;
    }

pub loop-device-preserved : goal.loop-device-preserved
loop-device-preserved c =
    let i = c.loop-device.invariant in
    let rest = c.pop.new.self.items in
    let cells = c.loop-device.cells.items in
    record {
      all =
          ap (λ (xs : List Cell). xs ++ map device_cell (reverse rest)) (c.push_reserved.ensures.items ∙ ap (λ (x : Cell). cells ++ x ∷ []) c.of_device.ensures)
          ∙ (append_assoc cells (device_cell c.in-Some.device ∷ []) (map device_cell (reverse rest))
          ∙ (ap (λ (xs : List (Dev)). cells ++ map device_cell xs) (sym (reverse-append rest (c.in-Some.device ∷ [])) ∙ ap reverse (sym c.in-Some.ensures.items)) ∙ i.all));
      fits = (let len = c.in-Some.ensures.len in let more = c.push_reserved.ensures.len in let cap = c.push_reserved.ensures.capacity in let before = i.fits in omega arith);
      capacity = c.push_reserved.ensures.capacity ∙ i.capacity;
      room = c.in-Some.ensures.capacity ∙ i.room;
    }
