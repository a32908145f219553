-- The words of a device's line one after the other.
use Rattle.vfm_record.proofs.Hashing.{device_taken}
use Rattle.vfm_record.proofs.shape.put_device.Goals as goal

pub returns : goal.returns
returns c =
    device_taken c.args.shape.now
    c.args.hasher.now c.put.new.hasher c.put_word.new.hasher c.put_number.new.hasher c.put_bars.new.hasher
    c.put_number-2.new.hasher c.put_number-3.new.hasher c.put_number-4.new.hasher c.put_number-5.new.hasher c.end_line.new.hasher
    c.put.ensures (rw c.bytes.ensures.value at c.put_word.ensures)
    (rw (c.from.ensures, c.bits.ensures.value) at c.put_number.ensures) (rw c.as_slice.ensures.value at c.put_bars.ensures)
    (rw c.from-2.ensures at c.put_number-2.ensures) (rw c.tells_number.ensures at c.put_number-3.ensures)
    (rw c.from-3.ensures at c.put_number-4.ensures) (rw (c.from-4.ensures, c.len.ensures) at c.put_number-5.ensures)
    c.end_line.ensures
