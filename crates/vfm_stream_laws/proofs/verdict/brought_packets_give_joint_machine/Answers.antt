-- Stream by stream.
use Rattle.vfm_stream_laws.proofs.JointVerdict.{brought_verdict}
use Rattle.vfm_stream_laws.proofs.SoundChannels.{bytes_verdict}
use Rattle.vfm_stream_laws.proofs.verdict.brought_packets_give_joint_machine.Goals as goal

pub returns-clause-packets : goal.returns-clause-packets
returns-clause-packets c = brought_verdict

pub returns-clause-bytes : goal.returns-clause-bytes
returns-clause-bytes c = bytes_verdict
