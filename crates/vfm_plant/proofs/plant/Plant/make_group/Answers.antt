-- The step is one of the group.
use Rattle.std.proofs.Common.{ℕ, ◌+◌, [], List, refl, ap, sym, subst, ◌∙◌, arith}
use Rattle.vfm_types.specs.declared.entry.Entry.{Entry}
use Rattle.vfm_parts.specs.Parts.{Dev, Lead, listed}
use Rattle.vfm_turn.specs.Order.{are_once}
use Rattle.vfm_turn.specs.Words.{holds_of}
use Rattle.vfm_core.proofs.LeadWorlds.{lead_judged}
use Rattle.vfm_cell_steps.specs.Made.{group}
use Rattle.vfm_plant.specs.declared.hand.Hand.{Hand}
use Rattle.vfm_plant.specs.declared.stepped.Wish.TheVariants as wish
use Rattle.vfm_plant.specs.Hands.{AreFitting, cells_held}
use Rattle.vfm_plant.specs.Outcome.{HasDrawn, IsOutcome, WantsNothing, attempted, bytes_in_group}
use Rattle.vfm_plant.proofs.Coordinators.{group_turn, group_reads, lead_drawn, shows_in, wants_barred}
use Rattle.vfm_plant.proofs.GroupHands.{group_fits, group_once}
use Rattle.vfm_plant.proofs.plant.Plant.make_group.Goals as goal

pub turn_group-stamp-requires-clause-once : goal.turn_group-stamp-requires-clause-once
turn_group-stamp-requires-clause-once c =
    ap (λ (hs : List Hand). are_once (cells_held hs)) c.gather.ensures.hands ∙ group_once c.step_all.new.lead c.step_all.new.devices.items

pub turn_group-stamp-requires-clause-fits : goal.turn_group-stamp-requires-clause-fits
turn_group-stamp-requires-clause-fits c =
    let D = c.args.self.now.desc in
    let sound = c.in-Ok.ensures.sound in
    let count = sound.devs_fit.count in
    subst (AreFitting D) (sym c.gather.ensures.hands)
    (group_fits D c.step_all.new.lead c.step_all.new.devices.items sound.lead_fits (omega arith) (λ i h. sound.devs_fit.each i (omega arith)))

pub turn_group-stamp-requires-clause-turn : goal.turn_group-stamp-requires-clause-turn
turn_group-stamp-requires-clause-turn c =
    let D = c.args.self.now.desc in
    let e = c.args.e.now in
    let chair = c.args.chair in
    let devs = c.args.devices.now.items in (
      group D chair.part devs [],
      group D c.step_all.new.lead c.step_all.new.devices.items [],
      group_turn D e (holds_of c.args.t.now) c.gather.new.hands.items chair.part c.step_all.new.lead devs c.step_all.new.devices.items []
          c.requires.sound.devs_fit.count c.in-Ok.ensures.sound.devs_fit.count c.requires.kind c.requires.named c.requires.held c.gather.ensures.hands
          (rw c.again.ensures at (c.in-Ok.ensures.step [])),
    )

pub rests-requires-clause-none : goal.rests-requires-clause-none
rests-requires-clause-none c =
    let D = c.args.self.now.desc in
    let e = c.args.e.now in
    let chair = c.args.chair in
    let devs = c.args.devices.now.items in
    let same = c.in-Err.ensures.same in
    subst (λ (lead : Lead). WantsNothing D (group D lead c.step_all.new.devices.items []) chair.look chair.abort_after) (sym same.0)
    (subst (λ (ds : List Dev). WantsNothing D (group D chair.part ds []) chair.look chair.abort_after) (sym same.1)
    (wants_barred D (group D chair.part devs []) chair.look chair.abort_after e c.in-Err.field-0.0 c.requires.wanted
    (lead_judged D chair.part devs (listed D.pages (λ p. [])) e c.requires.kind ∙ (rw c.again.ensures at c.in-Err.ensures.guard))))

pub returns-in-Ok-clause-outcome : goal.returns-in-Ok-clause-outcome
returns-in-Ok-clause-outcome c =
    let D = c.args.self.now.desc in
    let e = c.args.e.now in
    let chair = c.args.chair in
    let devs = c.args.devices.now.items in
    let lead' = c.step_all.new.lead in
    let devs' = c.step_all.new.devices.items in
    let stamp = c.turn_group-stamp.result in
    let w = group D chair.part devs [] in
    let v = group D lead' devs' [] in
    let step = rw c.again.ensures at (c.in-Ok.ensures.step []) in
    let turn = group_turn D e (holds_of c.args.t.now) c.gather.new.hands.items chair.part lead' devs devs' []
    c.requires.sound.devs_fit.count c.in-Ok.ensures.sound.devs_fit.count c.requires.kind c.requires.named c.requires.held c.gather.ensures.hands step in
    let a = record (attempted c.args.self.now (wish.Coordinator chair.abort_after) c.args.t.now c.turn_group-stamp.new.t) { bytes = bytes_in_group chair.part devs e } in
    subst (λ (x : Entry). HasDrawn a (c.base.result + stamp) x) (sym c.again-in-Ok.ensures)
    (lead_drawn a chair.abort_after (c.base.result + stamp) stamp e w v chair.look refl step (c.turn_group-stamp.ensures.turned w v turn)
    (ap (λ (k : ℕ). k + stamp) c.base.ensures.value) (shows_in D chair.part devs (listed D.pages (λ p. [])) chair.look c.requires.shows) c.requires.wanted c.requires.made
    (group_reads D chair.part devs (listed D.pages (λ p. [])) e v c.requires.kind c.requires.named))

pub returns-in-Err-clause-outcome : goal.returns-in-Err-clause-outcome
returns-in-Err-clause-outcome c =
    let chair = c.args.chair in
    let a = attempted c.args.self.now (wish.Coordinator chair.abort_after) c.args.t.now c.rests.new.t in
    subst (λ (bytes : List ℕ). IsOutcome (record a { bytes = bytes }) c.rests.result)
    (sym (c.rests.ensures.nothing (bytes_in_group chair.part c.args.devices.now.items c.args.e.now))) c.rests.ensures.outcome
