-- The page's cell is another than those that are held.
use Rattle.std.proofs.Common.{◌≡◌, ◌+◌, ◌<◌, inr, length, ap, sym, subst, ◌∙◌, arith}
use Rattle.vfm_types.specs.declared.desc.Desc.{Desc}
use Rattle.vfm_turn.specs.Seen.{Seen, is_held, noted}
use Rattle.vfm_turn.specs.Words.{holds_of}
use Rattle.vfm_cells.specs.Cells.{Cell, page_number}
use Rattle.vfm_plant.specs.Group.{group_hands}
use Rattle.vfm_plant.specs.Hands.{IsHolding, at_rest}
use Rattle.vfm_plant.proofs.Holds.{rest_has}
use Rattle.vfm_plant.proofs.GroupHands.{group_holding, group_past}
use Rattle.vfm_plant.proofs.Coordinators.{other_copy}
use Rattle.vfm_plant.proofs.plant.Plant.try_copy.Goals as goal

pub enter-requires-clause-free : goal.enter-requires-clause-free
enter-requires-clause-free c =
    let chair = c.args.chair in
    let devs = c.args.devices.now.items in
    let cell = c.args.p + c.len.result + 1 in
    let len = c.len.ensures in
    let count = c.requires.sound.devs_fit.count in
    let high : length devs < cell = omega arith in
    ap (is_held cell) c.requires.held ∙ (rest_has cell (group_hands chair.part devs) ∙ group_past chair.part devs cell high)

pub leave_all-requires-clause-held : goal.leave_all-requires-clause-held
leave_all-requires-clause-held c =
    let D = c.args.self.now.desc in
    let chair = c.args.chair in
    let count = c.requires.sound.devs_fit.count in
    subst (λ (E : Desc). IsHolding E (holds_of c.now.new.t) c.gather.new.hands.items) (sym c.requires.plant.same)
    (group_holding D chair.part c.args.devices.now.items (holds_of c.now.new.t) c.gather.new.hands.items
    (ap (λ (s : Seen Cell). s.holds) c.now.ensures.seen ∙ (ap (λ (s : Seen Cell). s.holds) c.in-Err.ensures.busy ∙ c.requires.held)) c.gather.ensures.hands
    c.requires.sound.lead_fits (omega arith) (λ i h. c.requires.sound.devs_fit.each i (omega arith)))

pub returns-in-Err-clause-outcome : goal.returns-in-Err-clause-outcome
returns-in-Err-clause-outcome c =
    let D = c.args.self.now.desc in
    let chair = c.args.chair in
    let len = c.len.ensures in
    let told = c.in-Err.ensures.cell in
    let cell : c.in-Err.busy.cell ≡ page_number D c.args.p = omega arith in
    record {
      met = inr (record {
        answer = c.now.result;
        holds = holds_of c.args.t.now;
        seen = c.leave_all.ensures.left ∙ ap at_rest (c.now.ensures.seen ∙ ap (noted c.now.result) c.in-Err.ensures.busy);
        other = other_copy D chair.part c.args.devices.now.items chair.look chair.abort_after c.args.p c.in-Err.busy.cell (holds_of c.args.t.now)
            c.requires.sound.devs_fit.count c.requires.shows c.requires.wanted cell c.requires.held;
      });
      seat = c.in-Err.ensures.holder;
      another = c.in-Err.ensures.other;
      bytes = c.requires.into.0;
    }
