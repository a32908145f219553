-- Where not everything was copied, what the passes sent is part of the whole.
use Rattle.std.proofs.Common.{refl}
use Rattle.std.proofs.lemmas.Bool.{false≢true}
use Rattle.vfm_source.proofs.Closed.{passes_part}
use Rattle.vfm_source.proofs.ending.close.Goals as goal

pub returns-in-AbortDue : goal.returns-in-AbortDue
returns-in-AbortDue g c = record {
  done = λ closed. absurd (false≢true closed);
  whole = λ closed. absurd (false≢true closed);
  part = λ starts moving. passes_part g.L.Link.sent starts c.args.joint.now c.args.core.now c.args.outlets.now moving;
  links = refl;
  failed = refl;
}
