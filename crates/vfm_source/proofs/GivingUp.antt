-- A source that gave up.
use Rattle.std.proofs.Common.{◌≡◌, List, ◌∷◌, ◌++◌, None, ap, sym, ◌∙◌}
use Rattle.vfm_types.specs.declared.desc.Desc.{Desc}
use Rattle.vfm_types.specs.declared.entry.Entry.{Entry}
use Rattle.vfm_types.specs.declared.entry.Entry.TheVariants.{Abort}
use Rattle.vfm_types.specs.Deliveries.{joint_machine}
use Rattle.vfm_drive.specs.Endings.{HasGivenUp}
use Rattle.vfm_move_laws.proofs.AfterAbort.{all_kept}
use Rattle.vfm_source.specs.Source.{MoverState, Moves}

-- it keeps the machine at the joint stop
pub still_moves : (mover later : MoverState) (past : List Entry) → later.joint ≡ mover.joint → Moves past mover
    → (given : HasGivenUp mover.core later.core None past) → Moves (given.on.more ++ Abort ∷ past) later
still_moves mover later past same moves given =
    let D = later.core.desc in
    let kept = all_kept D past given.on.more given.on.run.legal in
    record {
      run = given.on.run;
      joint = λ reached.
          same ∙ moves.joint (sym kept.joint ∙ reached) ∙ ap (λ (E : Desc). joint_machine E past) (sym given.on.desc)
          ∙ sym kept.machine;
    }
