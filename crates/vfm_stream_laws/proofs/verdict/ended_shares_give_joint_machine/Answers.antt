-- The channels bring all that is sent.
use Rattle.vfm_stream_laws.proofs.JointVerdict.{own_verdict}
use Rattle.vfm_stream_laws.proofs.SoundChannels.{shares_verdict}
use Rattle.vfm_stream_laws.proofs.verdict.ended_shares_give_joint_machine.Goals as goal

pub returns-clause-packets : goal.returns-clause-packets
returns-clause-packets c = own_verdict

pub returns-clause-bytes : goal.returns-clause-bytes
returns-clause-bytes c = shares_verdict
