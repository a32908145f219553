-- Number and job are compared.
use Rattle.std.proofs.lemmas.Slice.Eq.{slice_eq-Decides}
use Rattle.vfm_plain.proofs.Pending.{request_Decides}
use Rattle.vfm_audit.proofs.same.same_requests.Goals as goal

pub returns : goal.returns
returns c = slice_eq-Decides request_Decides _ _ _ c.eq.ensures
