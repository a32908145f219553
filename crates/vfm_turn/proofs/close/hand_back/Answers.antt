use Rattle.std.proofs.Common.{◌≡◌, ◌<◌, ◌++◌, ℕ, false, [], ◌∷◌, take, set, length, Some, sym, ap, ◌∙◌, subst, arith, get_or, get_or-set_other, get_or-set_same}
use mathlib.Core.Logic.{dite}
use native.Mathlib.Decide.{ℕ_discrete}
use Rattle.std.specs.Slots.{slots_items, slots_len, slots_filled, slots_counts}
use Rattle.vfm_turn.specs.Order.{values_in}
use Rattle.vfm_turn.proofs.Closes.{value_at, take_more}
use Rattle.vfm_turn.proofs.close.hand_back.Goals as goal

pub unreachable-requires : goal.unreachable-requires
unreachable-requires g c = let v = values_in (slots_items c.args.closed.slots) in let i = c.loop-i.invariant in
    let w = value_at (slots_items c.loop-i.closed.slots) v c.loop-i.i c.take.result (i.items ∙ c.requires.full.1) c.take.ensures.value in c.in_default.not-Some w.0 w.1

pub loop-i-preserved : goal.loop-i-preserved
loop-i-preserved g c = let v = values_in (slots_items c.args.closed.slots) in let inv = c.loop-i.invariant in let k = c.loop-i.i in let others = c.take.ensures.others in
    let w = value_at (slots_items c.loop-i.closed.slots) v k c.take.result (inv.items ∙ c.requires.full.1) c.take.ensures.value in
    let same : c.in-Some.value ≡ w.0 = (let a : Some c.in-Some.value ≡ Some w.0 = sym c.in-Some.is ∙ w.1 in cc) in
    let old = slots_filled c.loop-i.closed.slots in
    let inside : k < length old = (let a = (slots_counts c.loop-i.closed.slots).1 in let b = inv.count in let d = c.loop-i-test.true in omega arith) in record {
      items = others.0 ∙ inv.items;
      count = others.2 ∙ inv.count;
      filled = λ j low high. (let high' : j < slots_len c.loop-i.closed.slots = subst (λ (m : ℕ). j < m) others.2 high in
          ap (λ fs. get_or fs j false) others.1 ∙ (get_or-set_other old k j false false (λ e. omega arith) ∙ inv.filled j (omega arith) high'));
      taken = λ j low. ap (λ fs. get_or fs j false) others.1 ∙ dite (ℕ_discrete j k) (λ e. subst (λ (m : ℕ). get_or (set old k false) m false ≡ false) (sym e) (get_or-set_same old k false false inside))
          (λ n. get_or-set_other old k j false false n ∙ inv.taken j (omega arith));
      room = c.push_reserved.ensures.items ∙ (ap (λ ys. ys ++ c.in-Some.value ∷ []) inv.room ∙ (ap (λ x. take k v ++ x ∷ []) same ∙ take_more v k w.0 w.2));
      reach = (let a = inv.reach in let b = c.push_reserved.ensures.capacity in let d = others.2 in omega arith);
    }
