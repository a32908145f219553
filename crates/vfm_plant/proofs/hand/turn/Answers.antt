-- All hands are shown, the entry is drawn, and all are left.
use Rattle.std.proofs.Common.{◌≡◌, ℕ, List, length, ap, ◌∙◌, arith}
use Rattle.vfm_turn.specs.declared.seen.Touch.{Touch}
use Rattle.vfm_turn.specs.Seen.{Hold, Seen, are_held, settle, touches_in}
use Rattle.vfm_turn.specs.Words.{holds_of, number_of, seen_of, records_of}
use Rattle.vfm_cells.specs.Cells.{Cell}
use Rattle.vfm_plant.specs.Hands.{at_rest, cells_held, held, touches_by, turned}
use Rattle.vfm_plant.proofs.Holds.{all_held, touches_held, settled_held, rest_held}
use Rattle.vfm_plant.proofs.hand.turn.Goals as goal

pub draw-stamp-requires-clause-held : goal.draw-stamp-requires-clause-held
draw-stamp-requires-clause-held c =
    let m = c.requires.making in
    ap (λ (s : Seen Cell). are_held c.args.cells.now s.holds) (c.show_all.ensures.shown m.0 m.1 m.2.holds_are m.2.parts)
    ∙ all_held c.args.cells.now m.0 m.1 (cells_held c.args.hands.now.items) c.requires.among

pub draw-stamp-requires-clause-few : goal.draw-stamp-requires-clause-few
draw-stamp-requires-clause-few c =
    let m = c.requires.making in
    let same : length (records_of c.show_all.new.t) ≡ length (records_of c.args.t.now) =
    ap (λ (s : Seen Cell). length s.records) (c.show_all.ensures.shown m.0 m.1 m.2.holds_are m.2.parts) in
    let few = c.requires.few in
    omega arith

pub leave_all-requires-clause-held : goal.leave_all-requires-clause-held
leave_all-requires-clause-held c =
    let m = c.requires.making in
    let hands = c.args.hands.now.items in
    let cells = c.args.cells.now in
    let shown = ap (λ (s : Seen Cell). s.holds) (c.show_all.ensures.shown m.0 m.1 m.2.holds_are m.2.parts) in
    record {
      holds_are =
          ap (λ (s : Seen Cell). s.holds) c.draw-stamp.ensures.seen
          ∙ (ap (λ (hs : List (Hold Cell)). settle (touches_in cells hs) hs) shown
          ∙ (ap (λ (ts : List (Touch Cell)). settle ts (held m.0 m.1 (cells_held hands))) (touches_held cells m.0 m.1 (cells_held hands) c.requires.among)
          ∙ (settled_held cells m.0 m.1 (cells_held hands) m.2.kept ∙ rest_held m.1 hands m.2.parts)));
      once = c.requires.once;
      fits = c.requires.fits;
    }

pub returns-clause-turned : goal.returns-clause-turned
returns-clause-turned c = λ before after m.
    let hands = c.args.hands.now.items in
    let cells = c.args.cells.now in
    let e = c.args.e.now in
    let stamp = c.draw-stamp.result in
    let t1 = c.show_all.new.t in
    let shown = c.show_all.ensures.shown before after m.holds_are m.parts in
    c.leave_all.ensures.left
    ∙ (ap at_rest c.draw-stamp.ensures.seen
    ∙ (ap (λ (k : ℕ). turned k stamp e (touches_in cells (holds_of t1)) (seen_of t1)) c.show_all.ensures.ticket.1
    ∙ (ap (λ (ts : List (Touch Cell)). turned (number_of c.args.t.now) stamp e ts (seen_of t1))
    (ap (λ (s : Seen Cell). touches_in cells s.holds) shown ∙ touches_held cells before after (cells_held hands) c.requires.among)
    ∙ ap (turned (number_of c.args.t.now) stamp e (touches_by before after cells)) shown)))
