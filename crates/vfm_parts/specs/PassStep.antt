-- Pass on the parts: the coordinator's, and every device's.
use Rattle.std.specs.Prelude.{ℕ, ◌+◌, ◌==◌, ◌&&◌, ◌||◌, not, Bool, false, nat_le, nat_lt, if◌then◌else◌, List, [], ◌∷◌}
use Rattle.vfm_types.specs.declared.state.MigState.TheVariants.{PreCopy}
use Rattle.vfm_types.specs.declared.entry.Rule.TheVariants.{Decide, Order, Pages}
use Rattle.vfm_types.specs.declared.desc.Desc.{Desc}
use Rattle.vfm_base.specs.Least.{all_below}
use Rattle.vfm_types.specs.State.{has_pre_copy}
use Rattle.vfm_types.specs.Paths.{same_state}
use Rattle.vfm_types.specs.Desc.{device_count, shape_at, block_count}
use Rattle.vfm_plain.specs.Condition.{Condition}
use Rattle.vfm_parts.specs.Parts.{Dev, Lead, listed, numbers_below}
use Rattle.vfm_parts.specs.PartWords.{is_on_in, is_no_pass_open_in, has_reported_in, is_decided_in}

-- pass k is the next, the one before has ended, and each device has reported since that began
abbrev pub is_next_pass_in : Desc → ℕ → Lead → Bool
is_next_pass_in D k lead =
    k == lead.passes + 1 && is_no_pass_open_in D lead
    && (nat_le k 1 || all_below (device_count D) (λ d. has_reported_in lead d))

-- a pass is wanted: the last one after Joint; before it one more, the first once each device with PRE_COPY stands in it
abbrev pub is_pass_wanted_in : Desc → ℕ → Lead → (ℕ → Dev) → Bool
is_pass_wanted_in D k lead devs =
    if lead.joint then not lead.last
    else not (is_decided_in D lead)
    && (not (k == 1) || all_below (device_count D) (λ d. not (has_pre_copy (shape_at D d).flags) || same_state (devs d).state PreCopy))

-- the conditions, in the order in which they are tested
abbrev pub pass_conditions_in : Desc → ℕ → Lead → (ℕ → Dev) → List Condition
pass_conditions_in D k lead devs =
    (is_on_in lead, Order) ∷ (is_next_pass_in D k lead, Pages) ∷ (is_pass_wanted_in D k lead devs, Decide) ∷ []

-- the pages of pass k: all of them in the first, what was gathered in a later one
abbrev pub pass_pages : Desc → ℕ → Lead → List ℕ
pass_pages D k lead = if k == 1 then numbers_below D.pages (λ p. nat_lt p D.pages) else lead.gathered

-- how many blocks the part of device d may read in a pass that begins now
abbrev pub part_size : Desc → Lead → (ℕ → Dev) → ℕ → ℕ
part_size D lead devs d = if lead.joint || same_state (devs d).state PreCopy then block_count (shape_at D d) else 0

-- the coordinator once pass k has begun
abbrev pub passed_lead : Desc → ℕ → (ℕ → Dev) → Lead → Lead
passed_lead D k devs lead =
    record lead {
      passes = lead.passes + 1;
      last = lead.joint;
      set = pass_pages D k lead;
      left = pass_pages D k lead;
      gathered = [];
      reported = listed (device_count D) (λ d. false);
      parts = listed (device_count D) (part_size D lead devs);
    }
