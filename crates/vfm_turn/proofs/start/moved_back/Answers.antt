use Rattle.std.proofs.Common.{◌≡◌, ◌+◌, ◌++◌, ◌∷◌, [], List, Option, Some, reverse, vec_len, sym, ap, ◌∙◌, subst, append_assoc, arith}
use Rattle.std.proofs.lemmas.List.{reverse-append}
use Rattle.vfm_turn.specs.Order.{AreAllHome, values_in}
use Rattle.vfm_turn.proofs.Closes.{home_parts}
use Rattle.vfm_turn.proofs.start.moved_back.Goals as goal

pub unreachable-requires : goal.unreachable-requires
unreachable-requires g c = let h = home_parts c.pop.new.self.items c.in-Some.slot (subst (λ (ys : List (Option g.row.T.Denot)). AreAllHome ys) c.in-Some.ensures.items c.loop-slot.invariant.home) in c.in_default-slot.not-Some h.0 h.1

pub loop-slot-preserved : goal.loop-slot-preserved
loop-slot-preserved g c = let i = c.loop-slot.invariant in let rest = c.pop.new.self.items in let e = c.in-Some.ensures.items in
    let h = home_parts rest c.in-Some.slot (subst (λ (ys : List (Option g.row.T.Denot)). AreAllHome ys) e i.home) in
    let same : c.in-Some-slot.value ≡ h.0 = (let a : Some c.in-Some-slot.value ≡ Some h.0 = sym c.in-Some-slot.is ∙ h.1 in cc) in record {
      all = ap (λ ys. values_in rest ++ reverse ys) c.push_reserved.ensures.items ∙ (ap (λ ys. values_in rest ++ ys) (reverse-append c.loop-slot.cells.items (c.in-Some-slot.value ∷ []))
          ∙ (sym (append_assoc (values_in rest) (c.in-Some-slot.value ∷ []) (reverse c.loop-slot.cells.items)) ∙ (ap (λ ys. ys ++ reverse c.loop-slot.cells.items) (ap (λ x. values_in rest ++ x ∷ []) same ∙ (sym h.3 ∙ ap values_in (sym e))) ∙ i.all)));
      home = h.2;
      room = (let a = i.room in let b : vec_len c.pop.new.self + 1 ≡ vec_len c.loop-slot.slots = c.in-Some.ensures.len in let d = c.push_reserved.ensures.len in let k = c.push_reserved.ensures.capacity in omega arith);
    }
