-- What giving up leaves.
use Rattle.std.proofs.Common.{subst}
use Rattle.vfm_core.specs.CoreState.{CoreState, FitsDesc}
use Rattle.vfm_source.specs.Moving.{past_in}
use Rattle.vfm_migrate.proofs.GoneHome.{gone_home}
use Rattle.vfm_migrate.proofs.concluding.go_home.Goals as goal

pub returns : goal.returns
returns c =
    let past = past_in c.args.mover.now.core in
    let given = c.give_up.ensures.gives_up past c.requires.moves.run c.requires.going in
    let fits = subst (λ (core : CoreState). FitsDesc core.desc core.world) c.core.ensures.value c.desc.ensures.fits in
    gone_home c.args.mover.now c.give_up.new.self fits given (c.give_up.ensures.moves past c.requires.moves c.requires.going given)
