-- The world of a list: it holds the list's facts, it is that of the described machine at first, and one more entry
-- changes it as it changes the facts.
use Rattle.std.proofs.Common.{◌≡◌, ℕ, ◌<◌, List, [], ◌∷◌, map, replicate, slice_index_or, refl, ap, ap₂, sym, ◌∙◌}
use Rattle.std.proofs.lemmas.List.{length-map, length-replicate, get_or-map}
use Rattle.vfm_types.specs.declared.desc.Desc.{Desc}
use Rattle.vfm_types.specs.declared.entry.Entry.{Entry}
use Rattle.vfm_types.specs.Desc.{device_count, shape_at, no_shape, block_count}
use Rattle.vfm_types.specs.Machine.{described_device, no_device}
use Rattle.vfm_types.specs.Valid.{IsValid}
use Rattle.vfm_plain.specs.Legal.{IsLegal}
use Rattle.vfm_parts.specs.Parts.{Dev, Lead, parts_in, no_dev}
use Rattle.vfm_parts.specs.PartsOf.{lead_of, dev_of, page_of, world_of, Tells}
use Rattle.vfm_parts.specs.Start.{first_dev, first_lead, first_world}
use Rattle.vfm_parts.specs.Steps.{parts_after, after_on}
use Rattle.vfm_parts.proofs.Listed.{listed_at, listed_same, listed_items}
use Rattle.vfm_parts.proofs.Sets.{below_none}
use Rattle.vfm_parts.proofs.Changes.{change_told}

pub world_tells : (D : Desc) (past : List Entry) → Tells D past (parts_in (world_of D past))
world_tells D past = record {
  lead = refl;
  dev = λ d h. listed_at (device_count D) (λ k. dev_of D k past) d no_dev h;
  page = λ p h. listed_at D.pages (λ q. page_of D q past) p [] h;
}

pub world_after : (D : Desc) (past : List Entry) (entry : Entry) → IsValid D → IsLegal D (entry ∷ past)
    → after_on D (world_of D past) entry ≡ world_of D (entry ∷ past)
world_after D past entry valid legal = joined (change_told D past (parts_in (world_of D past)) entry valid legal (world_tells D past))
  where
    joined : Tells D (entry ∷ past) (parts_after D (parts_in (world_of D past)) entry) → after_on D (world_of D past) entry ≡ world_of D (entry ∷ past)
    joined told =
        ap₂ (λ (lead : Lead) (devs : List Dev). record { lead = lead; devs = devs; pages = (after_on D (world_of D past) entry).pages })
        told.lead (listed_same (device_count D) _ _ told.dev)
        ∙ ap (λ (pages : List (List ℕ)). record (world_of D (entry ∷ past)) { pages = pages }) (listed_same D.pages _ _ told.page)

first_dev_is : (D : Desc) (d : ℕ) → d < device_count D → dev_of D d [] ≡ slice_index_or (map first_dev D.devices) d no_dev
first_dev_is D d inside =
    rw (get_or-map described_device D.devices d no_shape no_device inside, below_none D.pages) (
    ap (λ (set : List ℕ). record (first_dev (shape_at D d)) { dirty = set }) (below_none (block_count (shape_at D d)))
    ∙ sym (get_or-map first_dev D.devices d no_shape no_dev inside))

pub world_first : (D : Desc) → world_of D [] ≡ first_world D
world_first D =
    let lead : lead_of D [] ≡ first_lead D = rw below_none refl in
    ap₂ (λ (lead : Lead) (devs : List Dev). record { lead = lead; devs = devs; pages = (world_of D []).pages })
    lead (listed_same (device_count D) _ _ (first_dev_is D) ∙ listed_items (device_count D) (map first_dev D.devices) no_dev (length-map D.devices first_dev))
    ∙ ap (λ (pages : List (List ℕ)). record (first_world D) { pages = pages })
    (listed_items D.pages (replicate D.pages (replicate D.page 0)) [] (length-replicate D.pages (replicate D.page 0)))
