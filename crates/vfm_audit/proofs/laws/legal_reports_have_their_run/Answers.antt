-- The journals break no rule, so they are legal, and what is legal is clean.
use Rattle.vfm_audit.proofs.Audits.{clean_run, legal_run}
use Rattle.vfm_audit.proofs.laws.legal_reports_have_their_run.Goals as goal

pub returns-clause-legal : goal.returns-clause-legal
returns-clause-legal c made count printed found = legal_run made printed found.0

pub returns-clause-clean : goal.returns-clause-clean
returns-clause-clean c made count valid printed found = clean_run made valid (legal_run made printed found.0)
