-- A record that can be written fits into one packet.
use Rattle.std.proofs.Common.{ℕ, ◌≤◌, List, length, arith}
use Rattle.vfm_record.specs.declared.record.Rec.{Rec}
use Rattle.vfm_record.specs.declared.record.Rec.TheVariants as lent
use Rattle.vfm_record.specs.Record.{Page, Block, Engine, Pending, Config, record_of, record_bytes}
use Rattle.vfm_record.specs.Writing.{IsWritable}
use Rattle.vfm_record.proofs.Again.{encoded_len}
use Rattle.vfm_record.proofs.Pairs.{pending_len}
use Rattle.vfm_record.proofs.Writable.{page_limit}

pub record_fits : (r : Rec) → IsWritable r → length (record_bytes (record_of r)) ≤ 65536
record_fits (lent.Page p bytes) writable = omega (arith, encoded_len (Page p bytes.now), page_limit (length bytes.now) writable.1)
record_fits (lent.Block b bytes) writable = omega (arith, encoded_len (Block b bytes.now), writable.1)
record_fits (lent.Engine accepted done lost pend buf) writable = omega (arith, encoded_len (Engine accepted done lost pend buf.now), writable.3)
record_fits (lent.Pending count bytes) writable = omega (arith, pending_len count bytes.now writable.2, writable.2, writable.1)
record_fits (lent.Config digest) writable = omega (arith, encoded_len (Config digest.now), writable)

pub pairs_fit : (pairs : List (ℕ × ℕ)) → length pairs ≤ 4096 → length (record_bytes (Pending pairs)) ≤ 65536
pairs_fit pairs few = omega (arith, encoded_len (Pending pairs), few)
