use Rattle.std.proofs.Common.{◌≡◌, ℕ, ◌<◌, true, List, map, length, Some, sym, ap, ◌∙◌, subst}
use Rattle.std.proofs.lemmas.List.{length-map}
use Rattle.std.specs.Slots.{slots_items}
use Rattle.vfm_turn.specs.declared.seen.Past.{Past}
use Rattle.vfm_turn.specs.Order.{has, values_in}
use Rattle.vfm_turn.specs.Words.{past_told}
use Rattle.vfm_turn.specs.History.{past_number}
use Rattle.vfm_turn.proofs.Closes.{numbers_told, comes_home, home_of, value_is, history, told}
use Rattle.vfm_turn.proofs.board.Board.close.Goals as goal

pub gather-seat-requires-clause-first : goal.gather-seat-requires-clause-first
gather-seat-requires-clause-first g c = c.requires.all 0 c.args.self.seats.0

pub hand_back-requires-clause-full : goal.hand_back-requires-clause-full
hand_back-requires-clause-full g c = let s = c.gather-seat.ensures in let e = c.close_with.ensures.values in let ts = c.args.tickets.items in let v = c.gather-seat.result.0.me.0 in
    let all : (k : ℕ) → k < c.args.self.table.shared.key.seats → has k (map past_number (told v)) ≡ true = λ k h. ap (λ (ps : List (Past g.row.T-State.Denot)). has k (map past_number ps)) s.told ∙ (ap (has k) (numbers_told ts) ∙ c.requires.all k h) in
    let h = comes_home g.T.Kept.state g.T.Kept.fits c.args.self.table.shared.key _ _ _ v e.2 s.live.0 s.live.1 all in (e.1, home_of (slots_items c.close_with.result.slots) h.1)

pub returns-clause-count : goal.returns-clause-count
returns-clause-count g c = let s = c.gather-seat.ensures in let e = c.close_with.ensures.values in let ts = c.args.tickets.items in let v = c.gather-seat.result.0.me.0 in
    let all : (k : ℕ) → k < c.args.self.table.shared.key.seats → has k (map past_number (told v)) ≡ true = λ k h. ap (λ (ps : List (Past g.row.T-State.Denot)). has k (map past_number ps)) s.told ∙ (ap (has k) (numbers_told ts) ∙ c.requires.all k h) in
    let h = comes_home g.T.Kept.state g.T.Kept.fits c.args.self.table.shared.key _ _ _ v e.2 s.live.0 s.live.1 all in
    let home = home_of (slots_items c.close_with.result.slots) h.1 in let values = values_in (slots_items c.close_with.result.slots) in
    ap length c.hand_back.ensures ∙ (sym (length-map values (λ (y : g.row.T.Denot). Some y)) ∙ (sym (ap length home) ∙ (h.0 ∙ c.args.self.cells)))

pub returns-clause-fits : goal.returns-clause-fits
returns-clause-fits g c = let s = c.gather-seat.ensures in let e = c.close_with.ensures.values in let ts = c.args.tickets.items in let v = c.gather-seat.result.0.me.0 in
    let all : (k : ℕ) → k < c.args.self.table.shared.key.seats → has k (map past_number (told v)) ≡ true = λ k h. ap (λ (ps : List (Past g.row.T-State.Denot)). has k (map past_number ps)) s.told ∙ (ap (has k) (numbers_told ts) ∙ c.requires.all k h) in
    let h = comes_home g.T.Kept.state g.T.Kept.fits c.args.self.table.shared.key _ _ _ v e.2 s.live.0 s.live.1 all in
    let home = home_of (slots_items c.close_with.result.slots) h.1 in
    λ k x at. (value_is g.T.Kept.state g.T.Kept.fits c.args.self.table.shared.key _ _ c.hand_back.result.items _ v e.2 s.live.0 s.live.1 all (home ∙ ap (map (λ (y : g.row.T.Denot). Some y)) (sym c.hand_back.ensures)) k x at).1

pub returns-clause-history : goal.returns-clause-history
returns-clause-history g c = let s = c.gather-seat.ensures in let e = c.close_with.ensures.values in let ts = c.args.tickets.items in let v = c.gather-seat.result.0.me.0 in
    let all' : (k : ℕ) → k < c.args.self.table.shared.key.seats → has k (map past_number (map past_told ts)) ≡ true = λ k h. ap (has k) (numbers_told ts) ∙ c.requires.all k h in
    let all : (k : ℕ) → k < c.args.self.table.shared.key.seats → has k (map past_number (told v)) ≡ true = λ k h. ap (λ (ps : List (Past g.row.T-State.Denot)). has k (map past_number ps)) s.told ∙ all' k h in
    let h = comes_home g.T.Kept.state g.T.Kept.fits c.args.self.table.shared.key _ _ _ v e.2 s.live.0 s.live.1 all in
    let home = home_of (slots_items c.close_with.result.slots) h.1 in
    let some_cells : 0 < length c.args.self.table.shared.key.cells.value.items = subst (λ (k : ℕ). 0 < k) (sym c.args.self.cells) c.args.self.few.0 in
    history g.T.Kept.state g.T.Kept.fits c.args.self.table.shared.key _ _ c.hand_back.result.items _ v (map past_told ts) e.2 s.live.0 s.live.1 s.told all' (home ∙ ap (map (λ (y : g.row.T.Denot). Some y)) (sym c.hand_back.ensures)) some_cells
