use Rattle.std.proofs.Common.{refl, ap₂, ◌||◌, Bool, rules, arith}
use Rattle.std.proofs.lemmas.Bool.{le-ltb}
use Rattle.vfm_reorder.proofs.After.{after-put}
use Rattle.vfm_reorder.proofs.buffer.ReorderBuf.put.Goals as goal

pub returns-in-Ok-clause-put : goal.returns-in-Ok-clause-put
returns-in-Ok-clause-put c packets p after is =
    after-put c.args.self.now _ packets p c.args.index (record { config = c.args.config; payload = c.args.payload }) refl refl c.in-Ok.ensures.put
    (ap₂ (λ (s t : Bool). s || t) (le-ltb c.args.index c.args.self.now.next (search (rules, arith))) (search rules)) is after
