-- The parts of a machine that is handed over.
use Rattle.std.proofs.Common.{◌≡◌, ℕ, zero, suc, ◌+◌, ◌<◌, ◌≤◌, List, [], ◌∷◌, ◌++◌, length, slice_index_or, IsTrue, IsFalse, refl, ap, sym, subst, ◌∙◌, arith}
use Rattle.std.proofs.Math.ListN.{get_or-map}
use Rattle.std.proofs.lemmas.List.{get_or_default, length-map}
use Rattle.std.proofs.lemmas.Bool.{false≢true}
use Rattle.vfm_types.specs.declared.desc.Desc.{Desc}
use Rattle.vfm_types.specs.declared.entry.Entry.{Entry}
use Rattle.vfm_types.specs.Desc.{device_count, shape_at}
use Rattle.vfm_types.specs.Deliveries.{machine_of, page_bytes}
use Rattle.vfm_types.specs.Machine.{Machine, device_of}
use Rattle.vfm_types.specs.Phases.{is_aborted, is_failed, is_resumed}
use Rattle.vfm_plain.specs.declared.part.Part.{Part}
use Rattle.vfm_plain.specs.declared.part.Part.TheVariants.{Pages}
use Rattle.vfm_plain.specs.Ended.{is_last_ended}
use Rattle.vfm_plain.specs.Legal.{IsLegal}
use Rattle.vfm_parts.specs.Parts.{listed, listed_from}
use Rattle.vfm_parts.proofs.Listed.{length-listed, listed_items}
use Rattle.vfm_parts_laws.specs.EntriesLeft.{room_of_run}
use Rattle.vfm_parts_laws.specs.StagedParts.{IsStagedAfter, staged_dev, staged_world}
use Rattle.vfm_parts_laws.proofs.FittingWorlds.{staged_fits}
use Rattle.vfm_parts_laws.proofs.RoomWorlds.{staged_room, staged_stands}
use Rattle.vfm_parts_laws.proofs.StagedWorlds.{staged_first}
use Rattle.vfm_core.proofs.Counted.{first_counted}
use Rattle.vfm_core.specs.CoreState.{CoreState, IsKept, IsStagedOn}
use Rattle.vfm_core.specs.Loaded.{AreLoaded, device_in, loaded, sheets_of, staged_core}

-- device d is the part after it
pub loaded_at : (parts : List Part) (d : ℕ) → device_of (loaded parts) d ≡ device_in (slice_index_or parts (d + 1) (Pages []))
loaded_at [] d = refl
loaded_at (part ∷ parts) d = get_or-map device_in parts d (Pages []) ∙ ap device_in (next (omega arith))
  where
    next : suc d ≡ d + 1 → slice_index_or parts d (Pages []) ≡ slice_index_or (part ∷ parts) (d + 1) (Pages [])
    next e = ap (λ (k : ℕ). slice_index_or (part ∷ parts) k (Pages [])) e

-- the pages are those of the first part
pub loaded_sheets : (parts : List Part) (x : Part) → 0 < length parts → (loaded parts).pages ≡ sheets_of (slice_index_or parts 0 x)
loaded_sheets [] x h = absurd (omega arith)
loaded_sheets (part ∷ parts) x h = refl

more_from : {X : Type 0} (p n : ℕ) (f : ℕ → X) → listed_from p (suc n) f ≡ listed_from p n f ++ f (p + n) ∷ []
more_from p zero f = let place : p ≡ p + 0 = omega arith in ap (λ (k : ℕ). f k ∷ []) place
more_from {X} p (suc n) f =
    let place : p + 1 + n ≡ p + suc n = omega arith in
    ap (λ (xs : List X). f p ∷ xs) (more_from (p + 1) n f ∙ ap (λ (k : ℕ). listed_from (p + 1) n f ++ f k ∷ []) place)

-- one more item
pub listed_more : {X : Type 0} (n : ℕ) (f : ℕ → X) → listed (n + 1) f ≡ listed n f ++ f n ∷ []
listed_more n f =
    let count : n + 1 ≡ suc n = omega arith in
    let place : 0 + n ≡ n = omega arith in
    ap (λ (k : ℕ). listed k f) count ∙ more_from 0 n f ∙ ap (λ (k : ℕ). listed n f ++ f k ∷ []) place

-- the loaded pages are those of the staged parts
pub pages_same : (D : Desc) (parts : List Part) → AreLoaded D parts → (loaded parts).pages ≡ listed D.pages (page_bytes (loaded parts))
pages_same D parts are = sym (listed_items D.pages (loaded parts).pages [] are.shape.pages)

-- what a staged core keeps
pub staged_kept : (D : Desc) (parts : List Part) → AreLoaded D parts → IsKept D [] (room_of_run D) (staged_world D (loaded parts))
staged_kept D parts are =
    record {
      fit = record {
        valid = are.valid;
        devs = length-listed (device_count D) (λ d. staged_dev (shape_at D d) (device_of (loaded parts) d));
        pages = length-listed D.pages (page_bytes (loaded parts));
        fits = staged_fits D (loaded parts) are.valid are.shape are.counts (λ d h. let few = are.lost d h in omega arith) are.rising;
      };
      stand = staged_stands D (loaded parts);
      roomy = let room = staged_room D (loaded parts) are.counts in omega arith;
    }

-- it goes on from a list whose machine it is
pub staged_begins : (D : Desc) (parts : List Part) (core : CoreState) (past : List Entry) → AreLoaded D parts → IsLegal D past → IsTrue (is_last_ended D past)
    → IsFalse (is_aborted past) → IsFalse (is_resumed past) → IsFalse (is_failed past) → machine_of D past ≡ loaded parts → core ≡ staged_core D parts
    → IsStagedOn core.desc past [] core.world
staged_begins D parts core past are legal ended on here well same is =
    subst (λ (s : CoreState). IsStagedOn s.desc past [] s.world) (sym is) record {
      legal = legal;
      after = subst (λ (m : Machine). IsStagedAfter D past (staged_world D m)) same (staged_first D past are.valid legal ended on here well);
      counted = first_counted D (loaded parts);
    }

-- the device that stands at a place of the parts has the counts that the description allows
pub device_is : (D : Desc) (parts : List Part) (d k : ℕ) (x part : Part) → AreLoaded D parts → d < device_count D → k ≡ d + 1 → k < length parts
    → part ≡ slice_index_or parts k x → device_of (loaded parts) d ≡ device_in part
device_is D parts d k x part are inside place within is =
    loaded_at parts d ∙ ap device_in (ap (λ (j : ℕ). slice_index_or parts j (Pages [])) (sym place)
    ∙ get_or_default parts k (Pages []) x within ∙ sym is)

pub few_accepted : (D : Desc) (parts : List Part) (d : ℕ) → AreLoaded D parts → d < device_count D → (device_of (loaded parts) d).accepted ≤ 50000
few_accepted D parts d are inside =
    let within = (are.counts d inside).within in let budget = (are.valid.in_range.devices d inside).budget in omega arith

-- there is one part more than devices
pub one_more_part : (D : Desc) (parts : List Part) → AreLoaded D parts → length parts ≡ device_count D + 1
one_more_part D [] are = absurd (false≢true are.order)
one_more_part D (part ∷ parts) are = let same = sym (length-map parts device_in) ∙ are.shape.devices in omega arith
