-- Only the control links are used.
use Rattle.vfm_migrate.specs.Links.{tells}
use Rattle.vfm_migrate.proofs.concluding.commit_over.Goals as goal

pub returns-clause-commits : goal.returns-clause-commits
returns-clause-commits g c = λ attempt ready.
    c.commit-answer.ensures.commits attempt
    (tells g.L.Link.ended g.L.Link.failed_out g.L.Link.failed_in g.L.Link.sent g.L.Link.received c.args.ends) ready
