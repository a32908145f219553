-- The records of pages and blocks as they stand: each can be written, its bytes are those of the machine of the run, and
-- there is an index for it.
use Rattle.std.proofs.Common.{◌≡◌, ℕ, suc, ◌*◌, ◌<◌, ◌≤◌, ◌==◌, Bool, true, false, if◌then◌else◌, List, [], ◌∷◌, length, take, drop, Option, slice_index_or, ap, sym, ◌∙◌, subst, arith}
use Rattle.vfm_types.specs.declared.desc.Desc.{Desc}
use Rattle.vfm_types.specs.declared.entry.Entry.{Entry}
use Rattle.vfm_types.specs.Desc.{bar_bytes, block_count, device_count, shape_at}
use Rattle.vfm_types.specs.Deliveries.{block_bytes, machine_of, page_bytes}
use Rattle.vfm_types.specs.Valid.{IsValid}
use Rattle.vfm_types.proofs.BarSizes.{all_bars}
use Rattle.vfm_laws.proofs.Enabled.{machine_sound}
use Rattle.vfm_parts.specs.Parts.{Dev, World, dev_at, no_dev, page_at}
use Rattle.vfm_parts.specs.PartsOf.{dev_of, page_of}
use Rattle.vfm_parts.proofs.Listed.{listed_at}
use Rattle.vfm_core.specs.CoreState.{CoreState, IsAfter}
use Rattle.vfm_record.specs.Record.{KeepsBell}
use Rattle.vfm_streams.specs.Sent.{Sent, records_of, sent_in_passes}
use Rattle.vfm_stream_laws.proofs.FitRecords.{block_fits}
use Rattle.vfm_stream_laws.proofs.HowMuch.{few_in_passes}
use Rattle.vfm_outlets.specs.declared.outlets.Outlets.{Outlets}
use Rattle.vfm_source.specs.Moving.{Course, Conveys}

-- a page of the core is that of the machine of its run
pub page_now : (D : Desc) (past : List Entry) (w : World) (p : ℕ) → IsAfter D past w → p < D.pages
    → page_at w p ≡ page_bytes (machine_of D past) p
page_now D past w p is inside =
    ap (λ (v : World). page_at v p) is.told ∙ listed_at D.pages (λ q. page_of D q past) p [] inside

-- and a device
pub device_now : (D : Desc) (past : List Entry) (w : World) (d : ℕ) → IsAfter D past w → d < device_count D
    → dev_at w d ≡ dev_of D d past
device_now D past w d is inside =
    ap (λ (v : World). dev_at v d) is.told ∙ listed_at (device_count D) (λ e. dev_of D e past) d no_dev inside

-- and a block
pub block_now : (D : Desc) (past : List Entry) (w : World) (d b : ℕ) → IsAfter D past w → d < device_count D
    → take 64 (drop (64 * b) (dev_at w d).plain.bar) ≡ block_bytes (machine_of D past) d b
block_now D past w d b is inside =
    ap (λ (dev : Dev). take 64 (drop (64 * b) dev.plain.bar)) (device_now D past w d is inside)

pub block_is : (D : Desc) (past : List Entry) (w : World) (d b : ℕ) (bytes : List ℕ) → IsAfter D past w → d < device_count D
    → bytes ≡ take 64 (drop (64 * b) (dev_at w d).plain.bar) → bytes ≡ block_bytes (machine_of D past) d b
block_is D past w d b bytes is inside same = same ∙ block_now D past w d b is inside

-- block 0 keeps the doorbell
pub block_bell : (D : Desc) (past : List Entry) (w : World) (d b : ℕ) → IsValid D → IsAfter D past w → d < device_count D
    → b < block_count (shape_at D d) → KeepsBell b (take 64 (drop (64 * b) (dev_at w d).plain.bar))
block_bell D past w d b valid is inside_d inside_b =
    subst (KeepsBell b) (sym (block_now D past w d b is inside_d))
    (block_fits D valid (machine_of D past) (machine_sound D valid past is.legal) d b inside_d inside_b).of.3

-- a block's number is below 1,024
pub block_low : (D : Desc) (d b : ℕ) → IsValid D → d < device_count D → b < block_count (shape_at D d) → b < 1024
block_low D d b valid inside_d inside_b =
    let few : bar_bytes (shape_at D d) ≤ 65536 = (all_bars (shape_at D d) (valid.in_range.devices d inside_d).bars).high in omega arith

-- the stream of a device is one of nine
pub stream_low : (D : Desc) (d : ℕ) → IsValid D → d < device_count D → suc d ≤ 8
stream_low D d valid inside = let few : device_count D ≤ 8 = valid.in_range.count_high in omega arith

-- there are as many records of a stream as there are in all, at most
pub some_of : (s : ℕ) (all : List Sent) → length (records_of s all) ≤ length all
some_of s [] = omega arith
some_of s (x ∷ all) = by (x.stream == s) (some_of s all)
  where
    by : (same : Bool) → length (records_of s all) ≤ length all
        → length (if same then x.says ∷ records_of s all else records_of s all) ≤ suc (length all)
    by true before = omega (arith, before)
    by false before = omega (arith, before)

-- so there is an index for one more
pub index_there : {L : Type 0} (sent : L → Option (List ℕ)) (course : Course) (core : CoreState) (outlets : Outlets L) (s : ℕ)
    → IsValid core.desc → Conveys sent course core outlets → s ≤ 8 → slice_index_or outlets.counts s 0 < 4294967295
index_there sent course core outlets s valid is low =
    let all = sent_in_passes core.desc course.past in
    let count : slice_index_or outlets.counts s 0 ≡ length (records_of s all) = is.carries.counts s low in
    let few : length all ≤ 82944 = few_in_passes core.desc valid course.past is.run.legal in
    let some : length (records_of s all) ≤ length all = some_of s all in omega arith
