-- Each cell is held.
use Rattle.std.proofs.Common.{[], List, map, append-nil, sym, subst, ◌∙◌, arith}
use Rattle.vfm_types.specs.declared.desc.Desc.{Desc}
use Rattle.vfm_turn.specs.Seen.{Hold, settled_of}
use Rattle.vfm_turn.specs.Words.{holds_of}
use Rattle.vfm_cells.specs.Cells.{Cell}
use Rattle.vfm_plant.specs.declared.stepped.Wish.TheVariants as wish
use Rattle.vfm_plant.specs.declared.stepped.Look.TheVariants as looks
use Rattle.vfm_plant.specs.Group.{group_holds}
use Rattle.vfm_plant.specs.Hands.{IsHolding}
use Rattle.vfm_plant.specs.Outcome.{IsSeen}
use Rattle.vfm_plant.proofs.Coordinators.{seen_rests}
use Rattle.vfm_plant.proofs.GroupHands.{group_holding}
use Rattle.vfm_plant.proofs.plant.Plant.rests.Goals as goal

pub see_rests-requires-clause-held : goal.see_rests-requires-clause-held
see_rests-requires-clause-held c =
    let D = c.args.self.now.desc in
    let chair = c.args.chair in
    let count = c.requires.sound.devs_fit.count in
    subst (λ (E : Desc). IsHolding E (holds_of c.args.t.now) c.gather.new.hands.items) (sym c.requires.plant.same)
    (group_holding D chair.part c.args.devices.now.items (holds_of c.args.t.now) c.gather.new.hands.items c.requires.held c.gather.ensures.hands
    c.requires.sound.lead_fits (omega arith) (λ i h. c.requires.sound.devs_fit.each i (omega arith)))

pub see_rests-requires-clause-seen : goal.see_rests-requires-clause-seen
see_rests-requires-clause-seen c =
    let D = c.args.self.now.desc in
    let chair = c.args.chair in
    let devs = c.args.devices.now.items in
    subst (λ (hs : List (Hold Cell)). IsSeen D (wish.Coordinator chair.abort_after) (map settled_of hs) (looks.Coordinator chair.look))
    (append-nil (group_holds chair.part devs) ∙ sym c.requires.held)
    (seen_rests D chair.part devs [] chair.look chair.abort_after c.requires.sound.devs_fit.count c.requires.shows c.requires.none)
