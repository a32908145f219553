-- Eight bytes for each pair.
use Rattle.std.proofs.Common.{sym}
use Rattle.vfm_record.proofs.Pairs.{pending_len}
use Rattle.vfm_record.proofs.writer.encoded_len.Goals as goal

pub returns-in-Pending-clause-value : goal.returns-in-Pending-clause-value
returns-in-Pending-clause-value c =
    let writable = rw c.in-Pending.is at c.requires in
    rw c.in-Pending.is (sym (pending_len c.in-Pending.count c.in-Pending.bytes.now writable.2))
