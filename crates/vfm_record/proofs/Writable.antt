-- What can be written is what some stream of some machine can have.
use Rattle.std.proofs.Common.{ℕ, zero, suc, ◌%◌, ◌-◌, ◌<◌, ◌≤◌, false, [], ◌∷◌, length, refl, sym, subst, arith}
use Rattle.std.specs.Prelude.{◌==◌, ◌&&◌, IsTrue, nat_le}
use Rattle.std.proofs.lemmas.Bool.{and_parts, leb-true}
use Rattle.vfm_types.specs.declared.desc.DevShape.{DevShape}
use Rattle.vfm_types.specs.declared.desc.Desc.{Desc}
use Rattle.vfm_types.specs.Desc.{bar_bytes, block_count, device_count, shape_at}
use Rattle.vfm_types.specs.DescFault.{form_fault}
use Rattle.vfm_types.proofs.BarSizes.{all_bars}
use Rattle.vfm_types.specs.Valid.{ShapeInRange, IsValid}
use Rattle.vfm_types.specs.Ranges.{is_page_size}
use Rattle.vfm_record.specs.declared.record.Rec.{Rec}
use Rattle.vfm_record.specs.declared.record.Rec.TheVariants as lent
use Rattle.vfm_record.specs.Record.{shape_of_stream, IsRecordOf, IsRecord, record_of, IsWhole}
use Rattle.vfm_record.specs.Writing.{IsWritable, LendsBytes}
use Rattle.vfm_record.proofs.Pairs.{length-pairs_of, pairs_fit}

-- ---- a machine that has all that a machine can have, but for the size of its pages

largest_device : DevShape
largest_device = record { name = 97 ∷ []; flags = 1; bars = 65536 ∷ []; window = 1; tells = false; budget = 50000; fails = 0; jobs = []; queue = [] }

largest : ℕ → Desc
largest page = record {
  session = 0;
  page = page;
  pages = 1024;
  channels = 1;
  version = 1;
  begin = 0;
  rounds = 0;
  threshold = 0;
  devices = largest_device ∷ [];
}

device_in_range : ShapeInRange largest_device
unfolding largest_device
device_in_range = record {
  name = refl;
  flags = refl;
  bars = refl;
  window_low = omega arith;
  window_high = omega arith;
  budget = omega arith;
  fails = omega arith;
  job_count = omega arith;
  jobs = refl;
  queue_length = omega arith;
  queue = refl;
}

largest_is_valid : (page : ℕ) → IsTrue (is_page_size page) → IsValid (largest page)
unfolding largest largest_device form_fault
largest_is_valid page size = record {
  in_range = record {
    session = omega arith;
    page = size;
    pages_low = omega arith;
    pages_high = omega arith;
    channels_low = omega arith;
    channels_high = omega arith;
    version_low = omega arith;
    version_high = omega arith;
    begin = omega arith;
    rounds = omega arith;
    threshold = omega arith;
    count_low = omega arith;
    count_high = omega arith;
    devices = λ d lt. only d lt;
  };
  sound = refl;
}
  where
    only : (d : ℕ) → d < 1 → ShapeInRange (shape_at (largest page) d)
    only zero lt = device_in_range
    only (suc d) lt = absurd (omega arith)

pub page_limit : (n : ℕ) → IsTrue (is_page_size n) → n ≤ 4096
page_limit n size = grind arith

-- ---- what can be written is what some machine has

four_thousand : IsTrue (is_page_size 4096)
four_thousand = refl

pub has_machine : (r : Rec) → LendsBytes r → IsWritable r → IsWhole r × IsRecord (record_of r)
unfolding largest largest_device
has_machine (lent.Page p bytes) fits h = (
  tt,
  record {
    machine = largest (length bytes.now);
    stream = 0;
    valid = largest_is_valid (length bytes.now) h.1;
    known = omega arith;
    of = record { fits = omega (arith, h.0); of = (refl, h.0, refl) };
  },
)
has_machine (lent.Block b bytes) fits h = (
  tt,
  record {
    machine = largest 4096;
    stream = 1;
    valid = largest_is_valid 4096 four_thousand;
    known = omega arith;
    of = record { fits = omega (arith, h.0); of = (omega arith, h.0, h.1, h.2) };
  },
)
has_machine (lent.Engine accepted done lost pend buf) fits h = (
  tt,
  record {
    machine = largest 4096;
    stream = 1;
    valid = largest_is_valid 4096 four_thousand;
    known = omega arith;
    of = record {
      fits = (omega (arith, h.0), omega (arith, h.0, h.1), omega (arith, h.2), omega (arith, h.0, h.1));
      of = (omega arith, h.0, h.1, h.2, h.3);
    };
  },
)
has_machine (lent.Pending count bytes) fits h =
    let many = length-pairs_of count bytes.now in (
      h.2,
      record {
        machine = largest 4096;
        stream = 1;
        valid = largest_is_valid 4096 four_thousand;
        known = omega arith;
        of = record {
          fits = (omega (arith, many, h.1), pairs_fit count bytes.now h.2 fits);
          of = (omega arith, omega (arith, many, h.0), omega (arith, many, h.1));
        };
      },
    )
has_machine (lent.Config digest) fits h = (
  tt,
  record {
    machine = largest 4096;
    stream = 0;
    valid = largest_is_valid 4096 four_thousand;
    known = omega arith;
    of = record { fits = tt; of = h };
  },
)

-- the device of a stream is in its ranges
device_of_stream : (D : Desc) (stream : ℕ) → IsValid D → stream ≤ device_count D → 0 < stream → ShapeInRange (shape_of_stream D stream)
device_of_stream D stream valid known above = valid.in_range.devices (stream - 1) (omega arith)

blocks_limit : (shape : DevShape) → ShapeInRange shape → block_count shape ≤ 1024
blocks_limit shape is =
    let high : bar_bytes shape ≤ 65536 = (all_bars shape is.bars).high in
    omega arith

pub is_writable : (D : Desc) (stream : ℕ) (r : Rec) → IsValid D → stream ≤ device_count D
    → IsRecordOf D stream (record_of r) → IsWhole r → IsWritable r
is_writable D stream (lent.Page p bytes) valid known is whole =
    let P : ℕ → Type 0 = λ n. IsTrue (is_page_size n) in
    (omega (arith, is.of.1, valid.in_range.pages_high), subst P (sym is.of.2) valid.in_range.page)
is_writable D stream (lent.Block b bytes) valid known is whole =
    let limit = blocks_limit (shape_of_stream D stream) (device_of_stream D stream valid known is.of.0) in
    (omega (arith, is.of.1, limit), is.of.2, is.of.3)
is_writable D stream (lent.Engine accepted done lost pend buf) valid known is whole =
    let shape = device_of_stream D stream valid known is.of.0 in
    let budget = shape.budget in
    (omega (arith, is.of.1, budget), is.of.2, is.of.3, is.of.4)
is_writable D stream (lent.Pending count bytes) valid known is whole =
    let many = length-pairs_of count bytes.now in
    (omega (arith, many, is.of.1), omega (arith, many, is.of.2), whole)
is_writable D stream (lent.Config digest) valid known is whole = is.of
