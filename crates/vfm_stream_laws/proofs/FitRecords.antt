-- Records of a stream that can stand one behind another, and those that passes send.
use Rattle.std.proofs.Common.{◌≡◌, ℕ, suc, ◌-◌, ◌*◌, ◌<◌, ◌≤◌, ◌&&◌, not, Bool, true, false, if◌then◌else◌, List, [], ◌∷◌, length, take, drop, nat_lt, Option, Some, None, refl, ap, sym, ◌∙◌, subst, arith, ⊎_elim, ltb-true}
use Rattle.std.specs.List.{AllByRecursion}
use Rattle.std.proofs.lemmas.Bool.{and_parts, cases_eq}
use Rattle.std.proofs.lemmas.List.{length-take-le, length-drop, take-take}
use Rattle.vfm_types.specs.declared.desc.Desc.{Desc}
use Rattle.vfm_types.specs.declared.entry.Entry.{Entry}
use Rattle.vfm_types.specs.declared.entry.Entry.TheVariants.{Copy as CopyOf, Block as BlockOf}
use Rattle.vfm_types.specs.Desc.{device_count, shape_at, block_count, bar_bytes}
use Rattle.vfm_types.specs.Machine.{Machine, device_of}
use Rattle.vfm_types.specs.Deliveries.{machine_of, page_bytes, block_bytes}
use Rattle.vfm_types.specs.Valid.{IsValid}
use Rattle.vfm_types.proofs.BarSizes.{all_bars}
use Rattle.vfm_plain.specs.Legal.{IsLegal}
use Rattle.vfm_plain.specs.Shape.{IsSound}
use Rattle.vfm_laws.proofs.Enabled.{machine_sound}
use Rattle.vfm_record.specs.Record.{Record, Page, Block, KeepsBell, shape_of_stream, IsRecordOf}
use Rattle.vfm_record.proofs.Again.{again}
use Rattle.vfm_streams.specs.Sent.{records_of, push, sent_in_passes}
use Rattle.vfm_streams.specs.Packets.{kind_of}
use Rattle.vfm_streams.specs.Whole.{is_config}
use Rattle.vfm_streams.specs.Loaded.{has_engine}
use Rattle.vfm_streams.specs.Judged.{AllFit}
use Rattle.vfm_streams.proofs.ClosedRecords.{pushed_same, pushed_other}
use Rattle.vfm_streams.proofs.Standing.{AllStand}

pub fit_stand : (D : Desc) (s : ℕ) (records : List Record) → AllFit D s records → AllStand D s records
fit_stand D s [] fit = tt
fit_stand D s (r ∷ older) fit = let read = again D s r fit.0 in (read.0, read.1, fit.1, fit_stand D s older fit.2)

-- the device of a stream
pub shape_is : (D : Desc) (d : ℕ) → shape_of_stream D (suc d) ≡ shape_at D d
shape_is D d = ap (shape_at D) (less d)
  where
    less : (n : ℕ) → suc n - 1 ≡ n
    less n = omega arith

-- what passes send: records of their stream, none of them counts or a digest
pub record PassesFit (D : Desc) (s : ℕ) (records : List Record) : Type 0 where
  pub fit : AllFit D s records
  pub data_ : AllByRecursion (λ r. is_config (kind_of r) ≡ false) records
  pub idle : has_engine records ≡ false

none_sent : (D : Desc) (s : ℕ) → PassesFit D s []
none_sent D s = record { fit = tt; data_ = tt; idle = refl }

page_fits : (D : Desc) → IsValid D → (m : Machine) → IsSound D m → (p : ℕ) → p < D.pages → IsRecordOf D 0 (Page p (page_bytes m p))
page_fits D valid m sound p inside =
    let few : D.pages ≤ 1024 = valid.in_range.pages_high in record { fits = omega arith; of = (refl, inside, sound.shape.page p inside) }

page_more : (D : Desc) (p : ℕ) (bytes : List ℕ) (records : List Record) → IsRecordOf D 0 (Page p bytes) → PassesFit D 0 records → PassesFit D 0 (Page p bytes ∷ records)
page_more D p bytes records fits before = record { fit = (fits, refl, before.fit); data_ = (refl, before.data_); idle = before.idle }

pub block_fits : (D : Desc) → IsValid D → (m : Machine) → IsSound D m → (d b : ℕ) → d < device_count D → b < block_count (shape_at D d)
    → IsRecordOf D (suc d) (Block b (block_bytes m d b))
block_fits D valid m sound d b inside_d inside_b =
    let few : bar_bytes (shape_at D d) ≤ 65536 = (all_bars (shape_at D d) (valid.in_range.devices d inside_d).bars).high in
    let bar : length (device_of m d).bar ≡ bar_bytes (shape_at D d) = (sound.shape.device d inside_d).bar in
    let behind : length (drop (64 * b) (device_of m d).bar) ≡ length (device_of m d).bar - 64 * b = length-drop (64 * b) (device_of m d).bar in
    record {
      fits = omega arith;
      of = (
        omega arith,
        subst (λ (shape : _). b < block_count shape) (sym (shape_is D d)) inside_b,
        length-take-le 64 (drop (64 * b) (device_of m d).bar) (omega arith),
        bell,
      );
    }
  where
    bell : KeepsBell b (block_bytes m d b)
    bell first =
        take-take 8 64 (drop (64 * b) (device_of m d).bar) (omega arith)
        ∙ ap (λ (k : ℕ). take 8 (drop k (device_of m d).bar)) (none b first) ∙ sound.bells d inside_d
      where
        none : (n : ℕ) → n ≡ 0 → 64 * n ≡ 0
        none n is = omega arith

-- where no counts came, counts and blocks can stand
pub before_counts : (o place : Option ℕ) (e : Bool) → e ≡ false → (if not false && not e then o else place) ≡ o
before_counts o place true is = absurd (cc)
before_counts o place false is = refl

block_more : (D : Desc) (d b : ℕ) (bytes : List ℕ) (records : List Record) → IsRecordOf D (suc d) (Block b bytes) → PassesFit D (suc d) records
    → PassesFit D (suc d) (Block b bytes ∷ records)
block_more D d b bytes records fits before =
    record { fit = (fits, before_counts None (Some 0) (has_engine records) before.idle, before.fit); data_ = (refl, before.data_); idle = before.idle }

pub memory_passes : (D : Desc) → IsValid D → (past : List Entry) → IsLegal D past → PassesFit D 0 (records_of 0 (sent_in_passes D past))
memory_passes D valid [] legal = none_sent D 0
memory_passes D valid (CopyOf p ∷ past) legal =
    subst (PassesFit D 0) (sym (pushed_same 0 (Page p (page_bytes (machine_of D past) p)) (sent_in_passes D past)))
    (page_more D p (page_bytes (machine_of D past) p) (records_of 0 (sent_in_passes D past))
    (page_fits D valid (machine_of D past) (machine_sound D valid past legal.2) p (ltb-true p D.pages legal.0)) (memory_passes D valid past legal.2))
memory_passes D valid (BlockOf d b ∷ past) legal =
    subst (PassesFit D 0) (sym (pushed_other 0 (suc d) (Block b (block_bytes (machine_of D past) d b)) (sent_in_passes D past) (λ same. omega (arith, same))))
    (memory_passes D valid past legal.2)
memory_passes D valid (entry ∷ past) legal = memory_passes D valid past legal.2

pub device_passes : (D : Desc) → IsValid D → (past : List Entry) → IsLegal D past → (d : ℕ) → PassesFit D (suc d) (records_of (suc d) (sent_in_passes D past))
device_passes D valid [] legal d = none_sent D (suc d)
device_passes D valid (CopyOf p ∷ past) legal d =
    subst (PassesFit D (suc d)) (sym (pushed_other (suc d) 0 (Page p (page_bytes (machine_of D past) p)) (sent_in_passes D past) (λ same. omega (arith, same))))
    (device_passes D valid past legal.2 d)
device_passes D valid (BlockOf e b ∷ past) legal d =
    let inside = and_parts (nat_lt e (device_count D)) (nat_lt b (block_count (shape_at D e))) legal.0 in
    ⊎_elim
    (λ (same : e ≡ d).
    subst (λ (k : ℕ). PassesFit D (suc k) (records_of (suc k) (push (suc e) (Block b (block_bytes (machine_of D past) e b)) (sent_in_passes D past)))) same
    (subst (PassesFit D (suc e)) (sym (pushed_same (suc e) (Block b (block_bytes (machine_of D past) e b)) (sent_in_passes D past)))
    (block_more D e b (block_bytes (machine_of D past) e b) (records_of (suc e) (sent_in_passes D past))
    (block_fits D valid (machine_of D past) (machine_sound D valid past legal.2) e b (ltb-true e (device_count D) inside.0)
    (ltb-true b (block_count (shape_at D e)) inside.1)) (device_passes D valid past legal.2 e))))
    (λ (other : e ≡ d → ⊥).
    subst (PassesFit D (suc d)) (sym (pushed_other (suc d) (suc e) (Block b (block_bytes (machine_of D past) e b)) (sent_in_passes D past) (λ same. other (omega (arith, same)))))
    (device_passes D valid past legal.2 d)) (cases_eq e d)
device_passes D valid (entry ∷ past) legal d = device_passes D valid past legal.2 d
