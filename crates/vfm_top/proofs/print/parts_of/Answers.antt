-- Each part is that of what was made.
use Rattle.std.proofs.Common.{◌≡◌, ap, ◌∙◌, subst}
use Rattle.std.specs.Prelude.{option_map}
use Rattle.vfm_core.specs.CoreState.{CoreState}
use Rattle.vfm_source.specs.Moving.{past_in}
use Rattle.vfm_move.specs.Table.{owner_at}
use Rattle.vfm_migrate.specs.Migrations.{last_core}
use Rattle.vfm_top.proofs.Parts.{joint_same, last_desc, lent_same, machines_same, same_made, shapes}
use Rattle.vfm_top.proofs.print.parts_of.Goals as goal

-- the core at the end is lent
last_lent : (c : goal.After-last_core)
    → option_map (λ core. core.now) c.last_core.result
    ≡ option_map (λ core. core) (last_core (owner_at c.args.status.now) c.args.source.now.core c.args.taken_over.now)
last_lent c =
    lent_same (λ core. core.now) c.last_core.result (last_core (owner_at c.args.status.now) c.args.source.now.core c.args.taken_over.now)
    (subst (λ (source : CoreState). option_map (λ core. core.now) c.last_core.result ≡ last_core (owner_at c.args.status.now) source c.args.taken_over.now)
    c.core-core.ensures.value c.last_core.ensures.value)

pub returns-clause-made : goal.returns-clause-made
returns-clause-made c =
    let core = c.core-core.ensures.value in
    let source = c.args.source.now in
    let moves = c.requires.moves in
    same_made _ _
    (c.desc.ensures.value ∙ ap (λ (core : CoreState). core.desc) core)
    (c.journal.ensures ∙ ap (λ (core : CoreState). core.entries) core)
    (joint_same (λ j. j.now) source.core.desc (past_in source.core) c.joint.result (c.joint.ensures.some _ moves) (c.joint.ensures.none _ moves))
    (machines_same (λ core. core.now) (λ staged. staged.core) c.loaded_core.result c.args.loaded.now c.loaded_core.ensures.value)
    c.destination_journal.ensures
    (machines_same (λ core. core.now) (λ core. core) c.last_core.result (last_core (owner_at c.args.status.now) source.core c.args.taken_over.now)
    (last_lent c))

pub returns-clause-printable : goal.returns-clause-printable
returns-clause-printable c =
    let core = c.core-core.ensures.value in
    let source = c.args.source.now in
    let desc = c.desc.ensures.value ∙ ap (λ (core : CoreState). core.desc) core in
    record {
      joint = rw desc c.joint.ensures.shape;
      loaded = rw desc (shapes source.core.desc (λ core. core.now) (λ staged. staged.core) c.loaded_core.result c.args.loaded.now
          c.loaded_core.ensures.value c.requires.loaded c.loaded_core.ensures.fits);
      final = rw desc (shapes source.core.desc (λ core. core.now) (λ core. core) c.last_core.result
          (last_core (owner_at c.args.status.now) source.core c.args.taken_over.now)
          (last_lent c) (last_desc (owner_at c.args.status.now) source.core c.args.taken_over.now c.requires.taken_over)
          c.last_core.ensures.fits);
      few = rw desc c.requires.few;
    }
