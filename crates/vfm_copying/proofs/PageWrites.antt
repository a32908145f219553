-- A job that doesn't write a page leaves its bytes.
use Rattle.std.proofs.Common.{◌≡◌, ℕ, false, if◌then◌else◌, List, [], length, take, refl, sym}
use Rattle.std.proofs.lemmas.Bool.{eqb-false}
use Rattle.std.proofs.lemmas.List.{get_or-set_other}
use Rattle.std.specs.Int.{w64, from_le_bytes}
use Rattle.vfm_types.specs.declared.desc.Desc.{Desc}
use Rattle.vfm_types.specs.declared.job.Job.{Job}
use Rattle.vfm_types.specs.declared.job.Job.TheVariants.{Write, Read, Store, Add}
use Rattle.vfm_types.specs.declared.job.Region.{Region}
use Rattle.vfm_types.specs.declared.job.Region.TheVariants.{Page, Bar}
use Rattle.vfm_types.specs.declared.job.Place.{Place}
use Rattle.vfm_types.specs.Job.{place_of, is_page, owner_or_zero, is_bell}
use Rattle.vfm_types.specs.Machine.{Machine, device_of, bytes_in, with_bytes, splice, bytes_at, put_at, ring, write_at, added, effect}
use Rattle.vfm_types.specs.Deliveries.{page_bytes}
use Rattle.vfm_types.specs.Marks.{writes_page}
use Rattle.vfm_laws.proofs.Rising.{by_bool}

put_leaves : (m : Machine) (place : Place) (bytes : List ℕ) (q : ℕ) → is_page q place.region ≡ false
    → page_bytes (put_at m place bytes) q ≡ page_bytes m q
put_leaves m place bytes q other = at place.region other
  where
    at : (region : Region) → is_page q region ≡ false
        → page_bytes (with_bytes m region (splice (bytes_in m region) place.offset bytes)) q ≡ page_bytes m q
    at (Page p) away = get_or-set_other m.pages p q (splice (bytes_in m (Page p)) place.offset bytes) [] (λ same. eqb-false p q away (sym same))
    at (Bar d) away = refl

write_leaves : (D : Desc) (m : Machine) (place : Place) (bytes : List ℕ) (q : ℕ) → is_page q place.region ≡ false
    → page_bytes (write_at D m place bytes) q ≡ page_bytes m q
write_leaves D m place bytes q other =
    by_bool (is_bell place (length bytes))
    (λ b. page_bytes (if b then ring D m (owner_or_zero place.region) (from_le_bytes w64 bytes) else put_at m place bytes) q ≡ page_bytes m q)
    (λ bell. refl) (λ plain. put_leaves m place bytes q other)

pub effect_leaves_page : (D : Desc) (m : Machine) (d : ℕ) (job : Job) (q : ℕ) → writes_page D q job ≡ false
    → page_bytes (effect D m d job) q ≡ page_bytes m q
effect_leaves_page D m d (Write at bytes) q other = write_leaves D m (place_of D (Write at bytes)) bytes q other
effect_leaves_page D m d (Read at len) q other = refl
effect_leaves_page D m d (Store at len) q other = write_leaves D m (place_of D (Store at len)) (take len (device_of m d).buf) q other
effect_leaves_page D m d (Add at value) q other =
    put_leaves m (place_of D (Add at value)) (added (bytes_at m (place_of D (Add at value)) 8) value) q other
