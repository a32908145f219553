-- What is encoded is found again.
use Rattle.vfm_control.specs.declared.frame.Frame.TheVariants.{Refused}
use Rattle.vfm_control.proofs.Encoded.{length-frame_bytes, again, elsewhere, once}
use Rattle.vfm_control.proofs.frame_laws.encoded_frame_is_decoded.Goals as goal

pub returns-clause-again : goal.returns-clause-again
returns-clause-again c f is = again f is

pub returns-clause-elsewhere : goal.returns-clause-elsewhere
returns-clause-elsewhere c f session is other = elsewhere f session is other

pub returns-clause-len : goal.returns-clause-len
returns-clause-len c f is = length-frame_bytes f is

pub returns-clause-once : goal.returns-clause-once
returns-clause-once c f g is_f is_g same = once f g is_f is_g same

pub returns-clause-refusal : goal.returns-clause-refusal
returns-clause-refusal c session r lt is = again (Refused session r) (record { session = lt; body = is })
