-- Page by page and device by device.
use Rattle.vfm_stream_laws.proofs.LoadedJoint.{loaded_is}
use Rattle.vfm_stream_laws.proofs.sent.sent_records_load_joint_machine.Goals as goal

pub returns : goal.returns
returns c = loaded_is
