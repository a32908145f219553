-- Which records can be written.
use Rattle.std.specs.Prelude.{◌≡◌, ◌+◌, ◌*◌, ◌<◌, ◌≤◌, IsTrue, length}
use Rattle.vfm_types.specs.Ranges.{is_page_size}
use Rattle.vfm_record.specs.declared.record.Rec.{Rec}
use Rattle.vfm_record.specs.declared.record.Rec.TheVariants as lent
use Rattle.vfm_base.specs.Words.{IsBytes}
use Rattle.vfm_record.specs.Record.{KeepsBell, most_lost}

-- The record has an encoding: it is one of some stream of some machine.
abbrev pub IsWritable : Rec → Type 0
IsWritable (lent.Page p bytes) = (p < 1024) × IsTrue (is_page_size (length bytes.now))
IsWritable (lent.Block b bytes) = (b < 1024) × (length bytes.now ≡ 64) × KeepsBell b bytes.now
IsWritable (lent.Engine accepted done lost pend buf) =
    (accepted ≤ 50000) × (done + pend ≡ accepted) × (lost ≤ most_lost) × (length buf.now ≡ 64)
IsWritable (lent.Pending count bytes) = (1 ≤ count) × (count ≤ 4096) × (length bytes.now ≡ 8 * count)
IsWritable (lent.Config digest) = length digest.now ≡ 32

-- what it lends are bytes
abbrev pub LendsBytes : Rec → Type 0
LendsBytes (lent.Page p bytes) = IsBytes bytes.now
LendsBytes (lent.Block b bytes) = IsBytes bytes.now
LendsBytes (lent.Engine accepted done lost pend buf) = IsBytes buf.now
LendsBytes (lent.Pending count bytes) = IsBytes bytes.now
LendsBytes (lent.Config digest) = IsBytes digest.now
