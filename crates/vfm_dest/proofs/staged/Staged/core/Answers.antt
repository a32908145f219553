-- A core that was staged goes on from a list that it ends for.
use Rattle.std.proofs.Common.{rules}
use Rattle.vfm_dest.specs.StagedCores.{StandsStaged}
use Rattle.vfm_dest.proofs.Staging.{begins-from, may-resume}
use Rattle.vfm_dest.proofs.staged.Staged.core.Goals as goal

pub returns-clause-begins : goal.returns-clause-begins
returns-clause-begins c past ends =
    let staged : StandsStaged c.args.self.now.core c.args.self.now.digest = search rules in
    begins-from c.args.self.now.core c.args.self.now.digest staged past ends

pub returns-clause-may : goal.returns-clause-may
returns-clause-may c past ends =
    let staged : StandsStaged c.args.self.now.core c.args.self.now.digest = search rules in
    may-resume c.args.self.now.core c.args.self.now.digest staged past ends
