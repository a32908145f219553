-- The machine of a staged core is that of the parts.
use Rattle.std.proofs.Common.{◌≡◌, ◌∙◌, sym, ap, ap₂, subst, ℕ, List, [], None, map, slice_index_or}
use Rattle.std.proofs.lemmas.List.{length-map}
use Rattle.std.proofs.Math.ListN.{get_or-map}
use Rattle.vfm_types.specs.declared.desc.Desc.{Desc}
use Rattle.vfm_types.specs.Desc.{device_count, shape_at}
use Rattle.vfm_types.specs.Machine.{DeviceState, device_of, no_device}
use Rattle.vfm_plain.specs.declared.part.Part.{Part}
use Rattle.vfm_parts.specs.Parts.{Dev, listed, no_dev}
use Rattle.vfm_parts.proofs.Listed.{length-listed, listed_at, listed_items, listed_same}
use Rattle.vfm_parts_laws.specs.StagedParts.{staged_dev}
use Rattle.vfm_intake.specs.Parts.{AreParts, machine_in}
use Rattle.vfm_core.specs.Loaded.{AreLoaded, staged_core}
use Rattle.vfm_core.specs.CoreState.{CoreState, IsKept, IsStagedOn}
use Rattle.vfm_core.proofs.Loads.{staged_begins, staged_kept}
use Rattle.vfm_drive.proofs.Ends.{copied_may}
use Rattle.vfm_parts_laws.specs.EntriesLeft.{room_of_run}
use Rattle.vfm_plain.specs.Rules.{fault_of}
use Rattle.vfm_plain.specs.StateText.{state_digest}
use Rattle.vfm_types.specs.declared.entry.Entry.{Entry}
use Rattle.vfm_types.specs.declared.entry.Entry.TheVariants.{Resume}
use Rattle.vfm_dest.specs.StagedCores.{StandsStaged, EndsFor}
use Rattle.vfm_dest.specs.Homeward.{HasRoom}
use Rattle.vfm_core.specs.Machines.{plain_of}
use Rattle.vfm_core.specs.Machines.{machine_in as core_machine}

module _ (D : Desc) (parts : List Part) (are : AreParts D parts) where
  abbrev n : ℕ
  n = device_count D

  abbrev dev : ℕ → Dev
  dev d = staged_dev (shape_at D d) (device_of (machine_in parts) d)

  devices-are : map plain_of (listed n dev) ≡ (machine_in parts).devices
  devices-are =
      sym (listed_items n (map plain_of (listed n dev)) no_device (length-map (listed n dev) plain_of ∙ length-listed n dev))
      ∙ listed_same n (λ d. slice_index_or (map plain_of (listed n dev)) d no_device) (device_of (machine_in parts))
      (λ d h. get_or-map plain_of (listed n dev) d no_dev ∙ ap plain_of (listed_at n dev d no_dev h))
      ∙ listed_items n (machine_in parts).devices no_device are.shape.devices

  pub staged-machine : core_machine (staged_core D parts).world ≡ machine_in parts
  staged-machine =
      ap₂ (λ (ps : List (List ℕ)) (ds : List DeviceState). record { pages = ps; devices = ds })
      (listed_items D.pages (machine_in parts).pages [] are.shape.pages) devices-are

-- ---- a core that was staged

pub stands : (D : Desc) (parts : List Part) (core : CoreState) (digest : List ℕ) → AreParts D parts → core ≡ staged_core D parts
    → digest ≡ state_digest D (machine_in parts) → StandsStaged core digest
stands D parts core digest are is same =
    let desc : D ≡ core.desc = sym (ap (λ (x : CoreState). x.desc) is) in
    record {
      parts = parts;
      are = subst (λ (X : Desc). AreParts X parts) desc are;
      core_is = is ∙ ap (λ (X : Desc). staged_core X parts) desc;
      digest_is = same ∙ ap (λ (X : Desc). state_digest X (machine_in parts)) desc;
    }

loads : (D : Desc) (parts : List Part) → AreParts D parts → AreLoaded D parts
loads D parts are =
    record { valid = are.valid; order = are.order; shape = are.shape; counts = are.counts; lost = are.lost; rising = are.rising }

module _ (core : CoreState) (digest : List ℕ) (staged : StandsStaged core digest) where
  machine-is : core_machine core.world ≡ machine_in staged.parts
  machine-is =
      ap (λ (x : CoreState). core_machine x.world) staged.core_is ∙ staged-machine core.desc staged.parts staged.are

  pub no-entries : core.entries ≡ []
  no-entries = ap (λ (x : CoreState). x.entries) staged.core_is

  -- it keeps what a core keeps
  pub has-room : HasRoom core
  has-room =
      record {
        room = room_of_run core.desc;
        kept =
            subst (λ (x : CoreState). IsKept core.desc x.entries (room_of_run core.desc) x.world) (sym staged.core_is)
            (staged_kept core.desc staged.parts (loads core.desc staged.parts staged.are));
      }

  -- and goes on from a list that it ends for
  pub begins-from : (past : List Entry) → EndsFor core past → IsStagedOn core.desc past [] core.world
  begins-from past ends =
      staged_begins core.desc staged.parts core past (loads core.desc staged.parts staged.are) ends.legal ends.ended ends.not_aborted
      ends.not_resumed ends.not_failed (ends.machine ∙ machine-is) staged.core_is

  pub may-resume : (past : List Entry) → EndsFor core past → fault_of core.desc past Resume ≡ None
  may-resume past ends = copied_may core.desc past ends.legal ends.ended ends.not_aborted ends.not_resumed ends.not_failed
