-- The page's cell is held besides.
use Rattle.std.proofs.Common.{◌≡◌, ℕ, ◌+◌, [], ◌∷◌, ◌++◌, List, map, length, refl, ap, sym, subst, ◌∙◌, arith}
use Rattle.vfm_types.specs.declared.desc.Desc.{Desc}
use Rattle.vfm_types.specs.declared.entry.Entry.{Entry}
use Rattle.vfm_types.specs.declared.entry.Entry.TheVariants.{Copy}
use Rattle.vfm_types.specs.Desc.{device_count}
use Rattle.vfm_parts.specs.Parts.{Lead, listed}
use Rattle.vfm_turn.specs.Seen.{Hold, hold, settled_of}
use Rattle.vfm_turn.specs.Words.{holds_of}
use Rattle.vfm_cells.specs.Cells.{Cell, page_cell}
use Rattle.vfm_cells.specs.CellFits.{CellFits}
use Rattle.vfm_lead.specs.LeadSteps.{AreSound}
use Rattle.vfm_cell_steps.specs.Made.{IsStepTo, group}
use Rattle.vfm_plant.specs.declared.hand.Hand.{Hand}
use Rattle.vfm_plant.specs.declared.stepped.Wish.TheVariants as wish
use Rattle.vfm_plant.specs.declared.stepped.Look.TheVariants as looks
use Rattle.vfm_plant.specs.Group.{hand_of, group_hands}
use Rattle.vfm_plant.specs.Hands.{IsHolding, rest_of}
use Rattle.vfm_plant.specs.Outcome.{HasDrawn, IsSeen, attempted}
use Rattle.vfm_plant.proofs.Holds.{map_end}
use Rattle.vfm_plant.proofs.Coordinators.{copy_holding, copy_judged, copy_reads, copy_turn, lead_drawn, length_group, seen_rests, shows_in, wants_barred}
use Rattle.vfm_plant.proofs.plant.Plant.make_copy.Goals as goal

page_fit : (D : Desc) (p cell : ℕ) (bytes : List ℕ) → cell ≡ p + (device_count D + 1) → length bytes ≡ D.page → CellFits D cell (page_cell bytes)
page_fit D p cell bytes is size = (omega arith, size)

pub push_reserved-requires : goal.push_reserved-requires
push_reserved-requires c =
    let len = ap (λ (hs : List Hand). length hs) c.gather.ensures.hands ∙ length_group c.step_copied-made.new.lead c.args.devices.now.items in
    let ok = c.gather.new.hands.ok.0 in
    let cap = c.gather.ensures.capacity in
    let room = c.requires.hands.1 in
    let count = c.requires.sound.devs_fit.count in
    omega arith

pub turn_group-stamp-requires-clause-once : goal.turn_group-stamp-requires-clause-once
turn_group-stamp-requires-clause-once c =
    let s = c.args.sheet in
    let devs = c.args.devices.now.items in
    let lead' = c.step_copied-made.new.lead in
    let are : c.push_reserved.new.self.items ≡ group_hands lead' devs ++ hand_of s.cell (page_cell s.page) ∷ [] =
    c.push_reserved.ensures.items ∙ (ap (λ (hs : List Hand). hs ++ hand_of s.cell c.of_page.result ∷ []) c.gather.ensures.hands
    ∙ ap (λ (p : Cell). group_hands lead' devs ++ hand_of s.cell p ∷ []) c.of_page.ensures) in
    let sound : AreSound c.args.self.now.desc lead' devs = rw c.as_slice.ensures.value at c.in-Ok.ensures.sound in
    (copy_holding c.args.self.now.desc lead' devs (page_cell s.page) s.p s.cell c.push_reserved.new.self.items sound c.requires.cell
    (page_fit c.args.self.now.desc s.p s.cell s.page c.requires.cell c.requires.fits) are).0

pub turn_group-stamp-requires-clause-fits : goal.turn_group-stamp-requires-clause-fits
turn_group-stamp-requires-clause-fits c =
    let s = c.args.sheet in
    let devs = c.args.devices.now.items in
    let lead' = c.step_copied-made.new.lead in
    let are : c.push_reserved.new.self.items ≡ group_hands lead' devs ++ hand_of s.cell (page_cell s.page) ∷ [] =
    c.push_reserved.ensures.items ∙ (ap (λ (hs : List Hand). hs ++ hand_of s.cell c.of_page.result ∷ []) c.gather.ensures.hands
    ∙ ap (λ (p : Cell). group_hands lead' devs ++ hand_of s.cell p ∷ []) c.of_page.ensures) in
    let sound : AreSound c.args.self.now.desc lead' devs = rw c.as_slice.ensures.value at c.in-Ok.ensures.sound in
    (copy_holding c.args.self.now.desc lead' devs (page_cell s.page) s.p s.cell c.push_reserved.new.self.items sound c.requires.cell
    (page_fit c.args.self.now.desc s.p s.cell s.page c.requires.cell c.requires.fits) are).1

pub turn_group-stamp-requires-clause-turn : goal.turn_group-stamp-requires-clause-turn
turn_group-stamp-requires-clause-turn c =
    let D = c.args.self.now.desc in
    let s = c.args.sheet in
    let chair = c.args.chair in
    let devs = c.args.devices.now.items in
    let lead' = c.step_copied-made.new.lead in
    let are : c.push_reserved.new.self.items ≡ group_hands lead' devs ++ hand_of s.cell (page_cell s.page) ∷ [] =
    c.push_reserved.ensures.items ∙ (ap (λ (hs : List Hand). hs ++ hand_of s.cell c.of_page.result ∷ []) c.gather.ensures.hands
    ∙ ap (λ (p : Cell). group_hands lead' devs ++ hand_of s.cell p ∷ []) c.of_page.ensures) in
    let step : IsStepTo D (Copy s.p) (group D chair.part devs s.page) (group D lead' devs s.page) =
    rw (c.again.ensures, c.as_slice.ensures.value) at (c.in-Ok.ensures.step s.page) in (
      group D chair.part devs s.page,
      group D lead' devs s.page,
      copy_turn D (holds_of c.args.t.now) c.push_reserved.new.self.items chair.part lead' devs s.page s.p s.cell c.requires.sound.devs_fit.count
          c.requires.page c.requires.cell c.requires.held are step,
    )

pub see_rests-requires-clause-held : goal.see_rests-requires-clause-held
see_rests-requires-clause-held c =
    let D = c.args.self.now.desc in
    let s = c.args.sheet in
    let chair = c.args.chair in
    let devs = c.args.devices.now.items in
    let lead' = c.step_copied-made.new.lead in
    let are : c.push_reserved.new.self.items ≡ group_hands chair.part devs ++ hand_of s.cell (page_cell s.page) ∷ [] =
    c.push_reserved.ensures.items ∙ (ap (λ (hs : List Hand). hs ++ hand_of s.cell c.of_page.result ∷ []) c.gather.ensures.hands
    ∙ (ap (λ (p : Cell). group_hands lead' devs ++ hand_of s.cell p ∷ []) c.of_page.ensures
    ∙ ap (λ (l : Lead). group_hands l devs ++ hand_of s.cell (page_cell s.page) ∷ []) c.in-Err.ensures.same)) in
    let both = copy_holding D chair.part devs (page_cell s.page) s.p s.cell c.push_reserved.new.self.items c.requires.sound c.requires.cell
    (page_fit D s.p s.cell s.page c.requires.cell c.requires.fits) are in
    subst (λ (E : Desc). IsHolding E (holds_of c.args.t.now) c.push_reserved.new.self.items) (sym c.requires.plant.same)
    record {
      holds_are = c.requires.held ∙ (sym (map_end rest_of (group_hands chair.part devs) (hand_of s.cell (page_cell s.page))) ∙ ap (map rest_of) (sym are));
      once = both.0;
      fits = both.1;
    }

pub see_rests-requires-clause-seen : goal.see_rests-requires-clause-seen
see_rests-requires-clause-seen c =
    let D = c.args.self.now.desc in
    let s = c.args.sheet in
    let chair = c.args.chair in
    let devs = c.args.devices.now.items in
    subst (λ (hs : List (Hold Cell)). IsSeen D (wish.Coordinator chair.abort_after) (map settled_of hs) (looks.Coordinator chair.look)) (sym c.requires.held)
    (seen_rests D chair.part devs (hold s.cell (page_cell s.page) (page_cell s.page) ∷ []) chair.look chair.abort_after c.requires.sound.devs_fit.count c.requires.shows
    (wants_barred D (group D chair.part devs []) chair.look chair.abort_after (Copy s.p) c.in-Err.field-0.0 c.requires.wanted
    (copy_judged D chair.part devs s.p c.in-Err.field-0.0 (rw c.again.ensures at c.in-Err.ensures.guard))))

pub returns-in-Ok-clause-outcome : goal.returns-in-Ok-clause-outcome
returns-in-Ok-clause-outcome c =
    let D = c.args.self.now.desc in
    let s = c.args.sheet in
    let chair = c.args.chair in
    let devs = c.args.devices.now.items in
    let lead' = c.step_copied-made.new.lead in
    let stamp = c.turn_group-stamp.result in
    let are : c.push_reserved.new.self.items ≡ group_hands lead' devs ++ hand_of s.cell (page_cell s.page) ∷ [] =
    c.push_reserved.ensures.items ∙ (ap (λ (hs : List Hand). hs ++ hand_of s.cell c.of_page.result ∷ []) c.gather.ensures.hands
    ∙ ap (λ (p : Cell). group_hands lead' devs ++ hand_of s.cell p ∷ []) c.of_page.ensures) in
    let w = group D chair.part devs s.page in
    let v = group D lead' devs s.page in
    let step : IsStepTo D (Copy s.p) w v = rw (c.again.ensures, c.as_slice.ensures.value) at (c.in-Ok.ensures.step s.page) in
    let turn = copy_turn D (holds_of c.args.t.now) c.push_reserved.new.self.items chair.part lead' devs s.page s.p s.cell c.requires.sound.devs_fit.count
    c.requires.page c.requires.cell c.requires.held are step in
    let a = record (attempted c.args.self.now (wish.Coordinator chair.abort_after) c.args.t.now c.turn_group-stamp.new.t) { bytes = s.page } in
    subst (λ (x : Entry). HasDrawn a (c.base.result + stamp) x) (sym c.again-in-Ok.ensures)
    (lead_drawn a chair.abort_after (c.base.result + stamp) stamp (Copy s.p) w v chair.look refl step (c.turn_group-stamp.ensures.turned w v turn)
    (ap (λ (k : ℕ). k + stamp) c.base.ensures.value) (shows_in D chair.part devs (listed D.pages (λ q. s.page)) chair.look c.requires.shows) c.requires.wanted refl
    (λ u found. copy_reads D chair.part devs s.page s.p v u c.requires.page found))
