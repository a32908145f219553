-- What is wanted after a run may be made.
use Rattle.std.proofs.Common.{refl}
use Rattle.vfm_drive.proofs.Runs.{fine_on}
use Rattle.vfm_dest.proofs.homeward.step_wanted.Goals as goal

pub returns-in-Do-clause-made : goal.returns-in-Do-clause-made
returns-in-Do-clause-made c run =
    let may = (c.in-Do.ensures.may run.origin run.mine run.run c.in-Do.entry refl).0 in
    c.make_allowed.ensures.made may.0
    (fine_on c.args.core.now.desc run.origin run.mine c.args.core.now.world c.in-Do.entry run.run may)
