-- What is found was encoded.
use Rattle.vfm_control.proofs.Encoded.{found}
use Rattle.vfm_control.proofs.Decoded.{was_encoded}
use Rattle.vfm_control.proofs.frame_laws.only_frames_are_decoded.Goals as goal

pub returns-clause-some : goal.returns-clause-some
returns-clause-some c f session bytes fits is = was_encoded f session bytes fits is

pub returns-clause-none : goal.returns-clause-none
returns-clause-none c session bytes none f is =
    let some = found f session bytes is in
    absurd cc

pub returns-clause-found : goal.returns-clause-found
returns-clause-found c f session bytes is = found f session bytes is
