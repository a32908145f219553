-- One more hand is shown.
use Rattle.std.proofs.Common.{◌≡◌, ℕ, suc, ◌+◌, ◌<◌, List, length, take, get_or, ap, ◌∙◌, arith}
use Rattle.vfm_turn.specs.Seen.{Hold, Seen, is_held, shown}
use Rattle.vfm_turn.specs.Words.{seen_of}
use Rattle.vfm_turn.proofs.Closes.{take_all}
use Rattle.vfm_cells.specs.Cells.{Cell}
use Rattle.vfm_plant.specs.declared.hand.Hand.{Hand}
use Rattle.vfm_plant.specs.Hands.{cells_held, held, with_holds}
use Rattle.vfm_plant.proofs.Holds.{puts, shown_more, all_shown, held_has, has_hand, take_hand}
use Rattle.vfm_plant.proofs.hand.show_all.Goals as goal

pub show-requires-clause-held : goal.show-requires-clause-held
show-requires-clause-held c =
    let hands = c.args.hands.now.items in
    let i = c.loop-hand.hand-index in
    let w = c.requires.held in
    let is : c.hand-item.result ≡ get_or hands i c.hand-item.result = c.hand-item.is ∙ ap (λ (xs : List Hand). get_or xs i c.hand-item.result) c.deref-hand-items.ensures.value in
    let same : length c.deref-hand-items.result.now ≡ length hands = ap (λ (xs : List Hand). length xs) c.deref-hand-items.ensures.value in
    let test = c.loop-hand-test.true in
    let inside : i < length hands = omega arith in
    ap (λ (s : Seen Cell). is_held c.hand-item.result.cell s.holds) (c.loop-hand.invariant.2 w.0 w.1)
    ∙ (held_has c.hand-item.result.cell w.0 (puts (take i hands) w.0) (cells_held hands) ∙ has_hand hands i c.hand-item.result inside is)

pub loop-hand-preserved : goal.loop-hand-preserved
loop-hand-preserved c =
    let hands = c.args.hands.now.items in
    let i = c.loop-hand.hand-index in
    let h = c.hand-item.result in
    let is : h ≡ get_or hands i h = c.hand-item.is ∙ ap (λ (xs : List Hand). get_or xs i h) c.deref-hand-items.ensures.value in
    let same : length c.deref-hand-items.result.now ≡ length hands = ap (λ (xs : List Hand). length xs) c.deref-hand-items.ensures.value in
    let test = c.loop-hand-test.true in
    let inside : i < length hands = omega arith in
    let next : suc i ≡ i + 1 = omega arith in (
      c.show.ensures.ticket.0,
      c.show.ensures.ticket.1 ∙ c.loop-hand.invariant.1,
      λ before e.
          c.show.ensures.seen
          ∙ (ap (shown h.cell h.part) (c.loop-hand.invariant.2 before e)
          ∙ ap (λ (hs : List (Hold Cell)). with_holds hs (seen_of c.args.t.now))
          (shown_more before (cells_held hands) (take i hands) h
          ∙ ap (λ (xs : List Hand). held before (puts xs before) (cells_held hands)) (take_hand hands i h inside is ∙ ap (λ (k : ℕ). take k hands) next))),
    )

pub returns-clause-shown : goal.returns-clause-shown
returns-clause-shown c = λ before after e parts.
    let hands = c.args.hands.now.items in
    let same : length c.deref-hand-items.result.now ≡ length hands = ap (λ (xs : List Hand). length xs) c.deref-hand-items.ensures.value in
    let test = c.loop-hand-test.false in
    let most = c.loop-hand.auto.hand-index-end in
    let all : c.loop-hand.hand-index ≡ length hands = omega arith in
    c.loop-hand.invariant.2 before e
    ∙ ap (λ (hs : List (Hold Cell)). with_holds hs (seen_of c.args.t.now))
    (ap (λ (xs : List Hand). held before (puts xs before) (cells_held hands)) (take_all hands c.loop-hand.hand-index all) ∙ all_shown before after hands parts)
