-- All of them came, each packet once.
use Rattle.vfm_move.proofs.NotRefused.{brings_joint}
use Rattle.vfm_move.proofs.complete.read_channels_bring_joint.Goals as goal

pub returns : goal.returns
returns c = brings_joint
