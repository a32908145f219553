-- What is lacking, and what was loaded.
use Rattle.std.proofs.Common.{ℕ, List, sym, subst, ap, ap₂, ◌∙◌, arith}
use Rattle.vfm_types.specs.Desc.{shape_at}
use Rattle.vfm_plain.specs.declared.part.Part.TheVariants.{Device}
use Rattle.vfm_load.specs.Stored.{FitsDevice, HoldsDevice}
use Rattle.vfm_load.specs.Parts.{part_of}
use Rattle.vfm_load.proofs.LackLemmas.{lacks_block, lacks_counts, lacks_pairs, lacks_none, device_is_loaded}
use Rattle.vfm_load.proofs.device.DeviceStore.finish.Goals as goal
use Rattle.vfm_load.proofs.device.DeviceStore.finish.Goals.{then-not-self-via-then-not-self, then-not-self-via-else-not-self+then-len-self}

pub returns-in-Some-clause-exact : goal.returns-in-Some-clause-exact
returns-in-Some-clause-exact c D d records fits holds =
    let e = sym c.self.view_is in
    lacks_block D d records _ (subst (FitsDevice (shape_at D d)) e fits) (subst (HoldsDevice (shape_at D d) records) e holds)
    c.in-Some.least c.in-Some.ensures.found c.in-Some.ensures.least

pub returns-then-not-self-clause-exact : goal.returns-then-not-self-clause-exact
returns-then-not-self-clause-exact c D d records fits holds =
    let e = sym c.self.view_is in
    let stored_fits = subst (FitsDevice (shape_at D d)) e fits in
    let stored_holds = subst (HoldsDevice (shape_at D d) records) e holds in
    elim c.then-not-self.branch [
      | then-not-self-via-then-not-self w ↦ lacks_counts D d records _ stored_fits stored_holds c.in_default.ensures.none w.if-not-self.true
      | then-not-self-via-else-not-self+then-len-self w ↦
          lacks_pairs D d records _ stored_fits stored_holds c.in_default.ensures.none (λ same. w.if-len-self.true (omega (arith, same, c.self.inside.pending.ok)))
    ]

pub returns-clause-exact : goal.returns-clause-exact
returns-clause-exact c D d records fits holds =
    let e = sym c.self.view_is in
    lacks_none D d records _ (subst (FitsDevice (shape_at D d)) e fits) (subst (HoldsDevice (shape_at D d) records) e holds)
    c.in_default.ensures.none c.if-not-self.false (omega (arith, c.self.inside.pending.ok))

pub returns-clause-loaded : goal.returns-clause-loaded
returns-clause-loaded c D d records fits holds =
    let e = sym c.self.view_is in
    ap₂ (λ (bar : List ℕ) (pending : List (ℕ × ℕ)). Device bar c.self.inside.buf (c.self.inside.counts.accepted, c.self.inside.counts.done, c.self.inside.counts.lost) pending)
    c.of.ensures c.of-2.ensures
    ∙ ap part_of
    (device_is_loaded D d records _ (subst (FitsDevice (shape_at D d)) e fits) (subst (HoldsDevice (shape_at D d) records) e holds)
    c.in_default.ensures.none c.if-not-self.false)
