-- An arc that failed is one that its description let fail.
use Rattle.std.proofs.Common.{ℕ, ◌<◌, ◌≤◌, All, Contains, inl, inr, arith}
use Rattle.vfm_types.specs.declared.desc.DevShape.{DevShape}
use Rattle.vfm_types.specs.declared.entry.Entry.TheVariants.{Fail}
use Rattle.vfm_types.specs.declared.state.MigState.{MigState}
use Rattle.vfm_types.specs.Desc.{no_shape, shape_at}
use Rattle.vfm_types.specs.Valid.{IsValid}
use Rattle.vfm_plain.specs.Legal.{IsLegal}
use Rattle.vfm_plain.specs.Report.{Made, source_past}
use Rattle.vfm_move_laws.proofs.FailedArcs.{fails_of_device, fails_on_the_way, fails_some}
use Rattle.vfm_move.specs.Complete.{NeverFails, arcs_to_stop}

-- a device of which no arc fails has none that is to fail on its way
none_to_fail : (shape : DevShape) → 0 < shape.fails → shape.fails ≤ arcs_to_stop shape → NeverFails shape → ⊥
none_to_fail shape some within (inl none) = absurd (omega (arith, some, none))
none_to_fail shape some within (inr beyond) = absurd (omega (arith, within, beyond))

pub described_arcs : (made : Made) (d : ℕ) (to : MigState) → IsValid made.desc → IsLegal made.desc (source_past made)
    → Contains (source_past made) (Fail d to) → All NeverFails made.desc.devices → ⊥
described_arcs made d to valid legal failed never =
    none_to_fail (shape_at made.desc d) (fails_some made.desc (source_past made) d to legal failed)
    (fails_on_the_way made.desc (source_past made) d to valid legal failed)
    (never d no_shape (fails_of_device made.desc (source_past made) d to legal failed))
