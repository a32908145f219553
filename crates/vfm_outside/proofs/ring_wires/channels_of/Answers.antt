use Rattle.std.proofs.Common.{sym, subst, ℕ, ◌+◌, ◌*◌, List, [], ◌∷◌, ◌++◌}
use Rattle.vfm_outside.specs.declared.ring_link.RingLink.{RingLink}
use Rattle.vfm_outside.specs.RingEnds.{AreRows, IsMade, settings_of}
use Rattle.vfm_outside.proofs.RowLemmas.{rows_more}
use Rattle.vfm_outside.proofs.ring_wires.channels_of.Goals as goal

pub loop-k-preserved : goal.loop-k-preserved
loop-k-preserved c =
    let plan = c.args.plan.now in
    let settings = settings_of plan.fail.now plan.slots plan.patience in
    let near = c.in_ok-near.near in
    let far = c.in_ok-near.far in
    let more = rows_more settings c.loop-k.k c.loop-k.source.items c.loop-k.dest.items near far c.loop-k.invariant
    c.in_ok-near.ensures.new.0 c.in_ok-near.ensures.new.1
    (subst (λ (n : ℕ). IsMade settings (2 + 2 * n) near) c.from.ensures c.in_ok-near.ensures.made.0)
    (subst (λ (n : ℕ). IsMade settings (2 + 2 * n + 1) far) c.from.ensures c.in_ok-near.ensures.made.1) c.in_ok-near.ensures.joined in
    subst (λ (row : List RingLink). AreRows settings (c.loop-k.k + 1) row c.push-in-loop-k.new.self.items) (sym c.in_ok-push.ensures.items)
    (subst (λ (row : List RingLink). AreRows settings (c.loop-k.k + 1) (c.loop-k.source.items ++ near ∷ []) row) (sym c.in_ok-push-2.ensures.items) more)
