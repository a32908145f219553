-- What is stored of a stream goes on to be what its records say, and makes the stream's part.
use Rattle.std.proofs.Common.{◌≡◌, ℕ, zero, suc, ◌+◌, ◌-◌, ◌≤◌, ◌&&◌, not, Bool, true, false, if◌then◌else◌, List, [], ◌∷◌, length, Option, Some, None, refl, ap, sym, ◌∙◌, subst, arith}
use Rattle.std.specs.Prelude.{Result, Ok, Err, MatchResult, IfOk, nat_lt}
use Rattle.vfm_types.specs.declared.desc.DevShape.{DevShape}
use Rattle.vfm_types.specs.declared.desc.Desc.{Desc}
use Rattle.vfm_types.specs.Desc.{shape_at}
use Rattle.vfm_laws.specs.Queues.{IsRising}
use Rattle.vfm_packet.specs.declared.header.Kind.{Kind}
use Rattle.vfm_plain.specs.declared.part.Part.{Part}
use Rattle.vfm_record.specs.Record.{Record, Page, Block, Engine, Pending, Config, shape_of_stream, IsRecordOf}
use Rattle.vfm_streams.specs.Whole.{is_config}
use Rattle.vfm_streams.specs.Loaded.{all_pairs, engine_device, engine_pend}
use Rattle.vfm_streams.specs.Judged.{lacks, number_after, pairs_fault, stand_fault}
use Rattle.vfm_load.specs.Stored.{StoredDevice, device_stored, pairs_place, record_place, TakesRecord, FitsDevice, HoldsDevice}
use Rattle.vfm_load.specs.Stores.{is_digest}
use Rattle.vfm_load.specs.Parts.{part_of, loaded_part, IsDeviceOf, IsPartOf}
use Rattle.vfm_load.proofs.DeviceLemmas.{block_holds, counts_hold, pairs_hold}

-- the device of a stream
pub shape_is : (D : Desc) (d : ℕ) → shape_of_stream D (suc d) ≡ shape_at D d
shape_is D d = ap (shape_at D) (less d)
  where
    less : (n : ℕ) → suc n - 1 ≡ n
    less n = omega arith

-- ---- where a record is refused

module _ (D : Desc) (s : ℕ) (kind : Kind) (records : List Record) (stored : StoredDevice) (data_ : is_config kind ≡ false)
    (holds : HoldsDevice (shape_of_stream D s) records stored) where
  once : (b : Bool) → if◌then◌else◌ {A = Option ℕ} (not false && not b) None (Some 0) ≡ if◌then◌else◌ {A = Option ℕ} b (Some 0) None
  once true = refl
  once false = refl

  after_counts : (b : Bool) (o : Option ℕ) → (if not false && b then o else Some 0) ≡ (if b then o else Some 0)
  after_counts true o = refl
  after_counts false o = refl

  pairs_is : (pairs : List (ℕ × ℕ)) → stored.counted ≡ true
      → (if nat_lt (engine_pend records) (length (all_pairs records) + length pairs) then Some 1
      else pairs_fault (engine_device records).accepted (length (shape_of_stream D s).jobs) (number_after 0 (all_pairs records)) 0 pairs)
      ≡ pairs_place (length (shape_of_stream D s).jobs) stored pairs
  pairs_is pairs counted = rw (holds.pairs, holds.pend, holds.engine counted, holds.low) refl

  pairs_stand : (pairs : List (ℕ × ℕ)) (b : Bool) → stored.counted ≡ b
      → (if b then (if nat_lt (engine_pend records) (length (all_pairs records) + length pairs) then Some 1
      else pairs_fault (engine_device records).accepted (length (shape_of_stream D s).jobs) (number_after 0 (all_pairs records)) 0 pairs) else Some 0)
      ≡ (if b then pairs_place (length (shape_of_stream D s).jobs) stored pairs else Some 0)
  pairs_stand pairs true is = pairs_is pairs is
  pairs_stand pairs false is = refl

  -- a record of a device that is no digest
  pub place_is : (r : Record) → 1 ≤ s → IsRecordOf D s r → is_digest r ≡ false
      → stand_fault D s kind records r ≡ record_place (length (shape_of_stream D s).jobs) stored r
  place_is (Page p bytes) device is no_digest = absurd (omega (arith, is.of.0))
  place_is (Block b bytes) device is no_digest = rw (data_, holds.counted) (once stored.counted)
  place_is (Engine accepted done lost pend buf) device is no_digest = rw (data_, holds.counted) (once stored.counted)
  place_is (Pending pairs) device is no_digest =
      rw (data_, holds.counted) (after_counts stored.counted _ ∙ pairs_stand pairs stored.counted refl)
  place_is (Config digest) device is no_digest = let clash : true ≡ false = no_digest in absurd cc

-- ---- what is stored with one record more

pub record_held : (D : Desc) (s : ℕ) (records : List Record) (before after : StoredDevice) (r : Record) → 1 ≤ s → IsRecordOf D s r → is_digest r ≡ false
    → FitsDevice (shape_of_stream D s) before → TakesRecord r before after → HoldsDevice (shape_of_stream D s) records before
    → HoldsDevice (shape_of_stream D s) (r ∷ records) after
record_held D s records before after (Page p bytes) device is no_digest fits takes holds = absurd (omega (arith, is.of.0))
record_held D s records before after (Block b bytes) device is no_digest fits takes holds =
    block_holds (shape_of_stream D s) b bytes before after takes is.of.2 (omega (arith, is.of.1, fits.blocks)) records holds
record_held D s records before after (Engine accepted done lost pend buf) device is no_digest fits takes holds =
    counts_hold (shape_of_stream D s) records accepted done lost pend buf before after takes holds
record_held D s records before after (Pending pairs) device is no_digest fits takes holds =
    pairs_hold (shape_of_stream D s) records pairs before after takes holds
record_held D s records before after (Config digest) device is no_digest fits takes holds = let clash : true ≡ false = no_digest in absurd cc

-- what a call answered: the record was put in, or refused
pub record_taken : (D : Desc) (s : ℕ) (kind : Kind) (records : List Record) (before after : StoredDevice) (r : Record) (answer : Result (Unit {0}) ℕ)
    → 1 ≤ s → IsRecordOf D s r → is_digest r ≡ false → is_config kind ≡ false
    → FitsDevice (shape_of_stream D s) before → HoldsDevice (shape_of_stream D s) records before
    → MatchResult answer
    (λ _. (record_place (length (shape_of_stream D s).jobs) before r ≡ None) × TakesRecord r before after)
    (λ place. record_place (length (shape_of_stream D s).jobs) before r ≡ Some place)
    → MatchResult answer
    (λ _. (stand_fault D s kind records r ≡ None) × HoldsDevice (shape_of_stream D s) (r ∷ records) after)
    (λ place. stand_fault D s kind records r ≡ Some place)
record_taken D s kind records before after r (Ok done) device is no_digest data_ fits holds taken = (
  place_is D s kind records before data_ holds r device is no_digest ∙ taken.0,
  record_held D s records before after r device is no_digest fits taken.1 holds,
)
record_taken D s kind records before after r (Err place) device is no_digest data_ fits holds taken =
    place_is D s kind records before data_ holds r device is no_digest ∙ taken

-- ---- the part at the end

pub device_ended : (D : Desc) (s : ℕ) (records : List Record) (stored : StoredDevice) (answer : Result Part ℕ)
    → ((E : Desc) (d : ℕ) (rs : List Record) → FitsDevice (shape_at E d) stored → HoldsDevice (shape_at E d) rs stored
    → MatchResult answer (λ _. lacks E (suc d) rs ≡ None) (λ least. lacks E (suc d) rs ≡ Some least))
    → IfOk answer (λ part. (E : Desc) (d : ℕ) (rs : List Record) → FitsDevice (shape_at E d) stored → HoldsDevice (shape_at E d) rs stored
    → part ≡ loaded_part E (suc d) rs)
    → 1 ≤ s → FitsDevice (shape_of_stream D s) stored → HoldsDevice (shape_of_stream D s) records stored
    → MatchResult answer (λ part. (lacks D s records ≡ None) × (part ≡ loaded_part D s records)) (λ least. lacks D s records ≡ Some least)
device_ended D zero records stored answer exact loaded device fits holds = absurd (omega arith)
device_ended D (suc d) records stored (Ok part) exact loaded device fits holds =
    let is = subst (λ (shape : DevShape). FitsDevice shape stored) (shape_is D d) fits in
    let says = subst (λ (shape : DevShape). HoldsDevice shape records stored) (shape_is D d) holds in
    (exact D d records is says, loaded D d records is says)
device_ended D (suc d) records stored (Err least) exact loaded device fits holds =
    let is = subst (λ (shape : DevShape). FitsDevice shape stored) (shape_is D d) fits in
    let says = subst (λ (shape : DevShape). HoldsDevice shape records stored) (shape_is D d) holds in
    exact D d records is says

-- what is stored of a device is one, once all its requests came
stored_device : (shape : DevShape) (stored : StoredDevice) → FitsDevice shape stored → length stored.pending ≡ stored.pend
    → IsDeviceOf shape (device_stored stored)
stored_device shape stored fits all =
    record {
      shape_is = record { bar = fits.bar; buf = fits.buf; jobs = fits.jobs };
      counts = record { accepted = sym (ap (λ (n : ℕ). stored.done + n) all ∙ fits.sum); within = fits.within };
      lost = fits.lost;
      rising = rising_up 0 stored.pending stored.low stored.accepted fits.low fits.rising;
    }
  where
    rising_up : (low : ℕ) (requests : List (ℕ × ℕ)) (high higher : ℕ) → high ≤ higher → IsRising low requests high
        → IsRising low requests higher
    rising_up low [] high higher above rising = let bound : low ≤ high = rising in omega arith
    rising_up low (r ∷ requests) high higher above rising = (rising.0, rising_up (r.0 + 1) requests high higher above rising.1)

pub device_is_part : (stored : StoredDevice) (answer : Result Part ℕ) → IfOk answer (λ part. part ≡ part_of (device_stored stored))
    → IfOk answer (λ _. length stored.pending ≡ stored.pend)
    → IfOk answer (λ part. (D : Desc) (s : ℕ) → (1 ≤ s) × FitsDevice (shape_of_stream D s) stored → IsPartOf D s part)
device_is_part stored (Err least) is all = tt
device_is_part stored (Ok part) is all = λ D s fits. at D s fits.0 fits.1
  where
    at : (D : Desc) (s : ℕ) → 1 ≤ s → FitsDevice (shape_of_stream D s) stored → IsPartOf D s part
    at D zero device fits = absurd (omega arith)
    at D (suc d) device fits =
        subst (IsPartOf D (suc d)) (sym is) (stored_device (shape_at D d) stored (subst (λ (shape : DevShape). FitsDevice shape stored) (shape_is D d) fits) all)
