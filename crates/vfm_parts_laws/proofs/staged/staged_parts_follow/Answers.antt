-- Kind by kind, over sealed parts.
use Rattle.vfm_parts_laws.proofs.StagedWorlds.{staged_allowed, staged_rule, staged_legal, staged_follows}
use Rattle.vfm_parts_laws.proofs.staged.staged_parts_follow.Goals as goal

pub returns-clause-allowed : goal.returns-clause-allowed
returns-clause-allowed c = staged_allowed

pub returns-clause-rule : goal.returns-clause-rule
returns-clause-rule c = staged_rule

pub returns-clause-legal : goal.returns-clause-legal
returns-clause-legal c = staged_legal

pub returns-clause-follows : goal.returns-clause-follows
returns-clause-follows c = staged_follows
