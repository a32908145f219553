-- The description is none, or its report was audited.
use Rattle.std.proofs.Common.{refl}
use Rattle.vfm_top.proofs.Audits.{audited, counted, outcome_so, undescribed}
use Rattle.vfm_top.proofs.audited.audit_sources.Goals as goal

pub returns-in-Ok-clause-outcome : goal.returns-in-Ok-clause-outcome
returns-in-Ok-clause-outcome g c = λ call over.
    audited _ _ call c.in-Ok.desc c.audit_printed.result.status c.audit_printed.result.entries over c.in-Ok.ensures.described c.audit_printed.ensures.audited

pub returns-in-Ok-clause-counted : goal.returns-in-Ok-clause-counted
returns-in-Ok-clause-counted g c = λ call over.
    counted _ _ call c.in-Ok.desc c.audit_printed.result.status c.audit_printed.result.entries over c.in-Ok.ensures.described c.audit_printed.ensures.audited

pub returns-in-Err-clause-outcome : goal.returns-in-Err-clause-outcome
returns-in-Err-clause-outcome g c = λ call over.
    outcome_so call c.refused.result.status c.in-Err.status c.refused.ensures.status
    (undescribed _ _ call c.in-Err.status over c.in-Err.ensures.undescribed refl)
