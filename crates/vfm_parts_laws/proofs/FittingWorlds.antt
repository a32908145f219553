-- The parts fit at first, after every legal list, and where they are staged.
use Rattle.std.proofs.Common.{◌≡◌, ℕ, ◌<◌, ◌≤◌, false, true, List, [], ◌∷◌, length, None, IsTrue, refl, sym, ◌∙◌, subst, arith}
use Rattle.std.proofs.lemmas.List.Elements.{All-nil}
use Rattle.vfm_types.specs.declared.desc.Desc.{Desc}
use Rattle.vfm_types.specs.declared.entry.Entry.{Entry}
use Rattle.vfm_types.specs.Desc.{device_count, shape_at, block_count}
use Rattle.vfm_types.specs.Machine.{Machine, device_of}
use Rattle.vfm_types.specs.Deliveries.{page_bytes}
use Rattle.vfm_types.specs.Valid.{IsValid}
use Rattle.vfm_plain.specs.Legal.{IsLegal, is_entry_of}
use Rattle.vfm_plain.specs.Shape.{HasShape, HasCounts}
use Rattle.vfm_plain.proofs.Effects.{described_sound, can_lose}
use Rattle.vfm_laws.specs.Queues.{QueueKept, IsRising}
use Rattle.vfm_laws.proofs.KeptQueues.{keeps_queues}
use Rattle.vfm_parts.specs.Parts.{World, parts_in, no_dev}
use Rattle.vfm_parts.specs.PartsOf.{dev_of, lead_of, page_of, world_of, blocks_left}
use Rattle.vfm_parts.specs.Start.{first_world}
use Rattle.vfm_parts.specs.Fits.{DevFits, LeadFits, PageFits, PartsFit}
use Rattle.vfm_parts.specs.Steps.{fault_in, parts_after, dev_after, page_after, after_on}
use Rattle.vfm_parts.proofs.Listed.{listed_at, length-listed}
use Rattle.vfm_parts.proofs.Faults.{fault_told}
use Rattle.vfm_parts.proofs.Worlds.{world_tells, world_first, world_after}
use Rattle.vfm_parts_laws.specs.StagedParts.{staged_dev, staged_world}
use Rattle.vfm_parts_laws.proofs.FittingQueues.{set_fits, empty_fits}
use Rattle.vfm_parts_laws.proofs.Fitting.{step_fits}

-- ---- at first

first_dev_fits : (D : Desc) → IsValid D → (d : ℕ) → d < device_count D → DevFits D d (dev_of D d [])
first_dev_fits D valid d inside =
    let sound = described_sound D valid in
    let few = can_lose D _ valid sound d inside in
    record {
      shape = sound.shape.device d inside;
      queue = (keeps_queues D valid [] tt).1 d inside;
      known = All-nil (λ r. r.job < length (shape_at D d).jobs);
      issued = omega arith;
      completed = omega arith;
      arcs = omega arith;
      lost = omega arith;
      marks = set_fits D.pages (λ p. false);
      unread = set_fits (block_count (shape_at D d)) (λ b. true);
      dirty = set_fits (block_count (shape_at D d)) (λ b. false);
    }

first_lead_fits : (D : Desc) → LeadFits D (lead_of D [])
first_lead_fits D =
    record {
      passes = omega arith;
      before_last = λ runs. omega arith;
      set = set_fits D.pages (λ p. false);
      left = set_fits D.pages (λ p. false);
      gathered = set_fits D.pages (λ p. false);
      reported = length-listed (device_count D) _;
      parts = length-listed (device_count D) _;
      sizes = λ d h. subst (λ (n : ℕ). n ≤ block_count (shape_at D d)) (sym (listed_at (device_count D) (λ k. blocks_left D k []) d 0 h)) (omega arith);
    }

-- ---- after each entry

parts_world_fit : (D : Desc) (past : List Entry) → LeadFits D (lead_of D past) → ((d : ℕ) → d < device_count D → DevFits D d (dev_of D d past))
    → ((p : ℕ) → p < D.pages → PageFits D (page_of D p past)) → PartsFit D (parts_in (world_of D past))
parts_world_fit D past lead dev page =
    record {
      lead = lead;
      dev = λ d h. subst (DevFits D d) (sym ((world_tells D past).dev d h)) (dev d h);
      page = λ p h. subst (PageFits D) (sym ((world_tells D past).page p h)) (page p h);
    }

world_fits : (D : Desc) (w : World) (entry : Entry) → PartsFit D (parts_after D (parts_in w) entry) → PartsFit D (parts_in (after_on D w entry))
world_fits D w entry fits =
    record {
      lead = fits.lead;
      dev = λ d h. subst (DevFits D d) (sym (listed_at (device_count D) (dev_after D (parts_in w) entry) d no_dev h)) (fits.dev d h);
      page = λ p h. subst (PageFits D) (sym (listed_at D.pages (page_after D (parts_in w) entry) p [] h)) (fits.page p h);
    }

pub list_fits : (D : Desc) (past : List Entry) → IsValid D → IsLegal D past → PartsFit D (parts_in (world_of D past))
list_fits D [] valid legal =
    parts_world_fit D [] (first_lead_fits D) (first_dev_fits D valid) (λ p h. (described_sound D valid).shape.page p h)
list_fits D (entry ∷ past) valid legal =
    subst (λ (w : World). PartsFit D (parts_in w)) (world_after D past entry valid legal)
    (world_fits D (world_of D past) entry (step_fits D (parts_in (world_of D past)) entry valid (list_fits D past valid legal.2) legal.0
    (fault_told D past (parts_in (world_of D past)) (world_tells D past) entry legal.0 ∙ legal.1)))

pub first_fits : (D : Desc) → IsValid D → PartsFit D (parts_in (first_world D))
first_fits D valid = subst (λ (w : World). PartsFit D (parts_in w)) (world_first D) (list_fits D [] valid tt)

pub step_world_fits : (D : Desc) (w : World) (entry : Entry) → IsValid D → PartsFit D (parts_in w) → IsTrue (is_entry_of D entry)
    → fault_in D (parts_in w) entry ≡ None → PartsFit D (parts_in (after_on D w entry))
step_world_fits D w entry valid fits named fine = world_fits D w entry (step_fits D (parts_in w) entry valid fits named fine)

-- ---- staged

pub staged_fits : (D : Desc) (m : Machine) → IsValid D → HasShape D m → HasCounts D m
    → ((d : ℕ) → d < device_count D → (device_of m d).lost ≤ 4294967295)
    → ((d : ℕ) → d < device_count D → IsRising 0 (device_of m d).pending (device_of m d).accepted)
    → PartsFit D (parts_in (staged_world D m))
staged_fits D m valid shape counts losses rising =
    record {
      lead = record {
        passes = omega arith;
        before_last = λ runs. omega arith;
        set = empty_fits D.pages;
        left = empty_fits D.pages;
        gathered = empty_fits D.pages;
        reported = length-listed (device_count D) _;
        parts = length-listed (device_count D) _;
        sizes = λ d h. subst (λ (n : ℕ). n ≤ block_count (shape_at D d)) (sym (listed_at (device_count D) (λ k. 0) d 0 h)) (omega arith);
      };
      dev = λ d h. subst (DevFits D d) (sym (listed_at (device_count D) (λ k. staged_dev (shape_at D k) (device_of m k)) d no_dev h)) (dev d h);
      page = λ p h. subst (PageFits D) (sym (listed_at D.pages (page_bytes m) p [] h)) (shape.page p h);
    }
  where
    queue : (d : ℕ) → d < device_count D → QueueKept D d (device_of m d) []
    queue d h = record {
      rest = (device_of m d).pending;
      pending = refl;
      rising = rising d h;
      gone = tt;
      once = tt;
      count = (counts d h).accepted;
      budget = (counts d h).within;
      window = omega arith;
      alone = λ fenced. omega arith;
    }

    dev : (d : ℕ) → d < device_count D → DevFits D d (staged_dev (shape_at D d) (device_of m d))
    dev d h = record {
      shape = shape.device d h;
      queue = queue d h;
      known = All-nil (λ r. r.job < length (shape_at D d).jobs);
      issued = omega arith;
      completed = omega arith;
      arcs = omega arith;
      lost = losses d h;
      marks = empty_fits D.pages;
      unread = set_fits (block_count (shape_at D d)) (λ b. true);
      dirty = empty_fits (block_count (shape_at D d));
    }
