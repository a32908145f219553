-- The entries that the coordinator makes, on its own part and on the devices' parts, given as a list.
use Rattle.std.specs.Prelude.{◌≡◌, ℕ, ◌<◌, Bool, true, false, List, [], length, slice_index_or, Option}
use Rattle.vfm_types.specs.declared.entry.Entry.{Entry}
use Rattle.vfm_types.specs.declared.entry.Entry.TheVariants.{Issue, Deliver, Complete, Copy}
use Rattle.vfm_types.specs.declared.entry.Rule.{Rule}
use Rattle.vfm_types.specs.declared.desc.Desc.{Desc}
use Rattle.vfm_types.specs.Desc.{device_count}
use Rattle.vfm_types.specs.Valid.{IsValid}
use Rattle.vfm_parts.specs.Parts.{Dev, Lead, Parts, no_dev, listed}
use Rattle.vfm_parts.specs.Fits.{DevFits, LeadFits}
use Rattle.vfm_parts.specs.Steps.{fault_in, lead_after, dev_after}

-- device d of a list
abbrev pub dev_of_list : List Dev → ℕ → Dev
dev_of_list devs d = slice_index_or devs d no_dev

-- the coordinator's part and the devices', without a page
abbrev pub parts_of : Lead → List Dev → Parts
parts_of lead devs = record { lead = lead; dev = dev_of_list devs; page = λ p. [] }

-- the entry touches the coordinator's part, and no page
abbrev pub is_of_lead : Entry → Bool
is_of_lead (Issue d n) = false
is_of_lead (Deliver d n) = false
is_of_lead (Complete d n) = false
is_of_lead (Copy p) = false
is_of_lead entry = true

-- the entry copies a page
abbrev pub is_copy : Entry → Bool
is_copy (Copy p) = true
is_copy entry = false

-- the first rule that such an entry breaks, and what it makes of the coordinator's part and of the devices
abbrev pub lead_fault : Desc → Lead → List Dev → Entry → Option Rule
lead_fault D lead devs entry = fault_in D (parts_of lead devs) entry

abbrev pub lead_made : Desc → Lead → List Dev → Entry → Lead
lead_made D lead devs entry = lead_after D (parts_of lead devs) entry

abbrev pub devs_made : Desc → Lead → List Dev → Entry → List Dev
devs_made D lead devs entry = listed (device_count D) (dev_after D (parts_of lead devs) entry)

-- there are as many devices as the description has, and each fits
pub record DevsFit (D : Desc) (devs : List Dev) : Type 0 where
  pub count : length devs ≡ device_count D
  pub each : (d : ℕ) → d < device_count D → DevFits D d (dev_of_list devs d)

-- the description is valid, and the coordinator's part and the devices' fit it
pub record AreSound (D : Desc) (lead : Lead) (devs : List Dev) : Type 0 where
  pub valid : IsValid D
  pub lead_fits : LeadFits D lead
  pub devs_fit : DevsFit D devs
