-- A core that goes home: what it keeps, and how its rounds are those of a run.
use Rattle.std.proofs.Common.{◌≡◌, ◌∙◌, refl, sym, subst, ℕ, zero, suc, ◌<◌, ◌≤◌, true, nat_lt, [], ◌∷◌, length, Option, None, Some, IsTrue, arith, ltb-true}
use Rattle.std.proofs.lemmas.List.{length-append}
use Rattle.vfm_types.specs.declared.desc.Desc.{Desc}
use Rattle.vfm_types.specs.declared.entry.Entry.{Entry}
use Rattle.vfm_types.specs.Desc.{device_count}
use Rattle.vfm_plain.specs.Legal.{is_entry_of}
use Rattle.vfm_parts.specs.Steps.{fault_on}
use Rattle.vfm_parts_laws.proofs.RoomWorlds.{world_falls}
use Rattle.vfm_core.specs.CoreState.{CoreState}
use Rattle.vfm_core.proofs.Kept.{kept_after}
use Rattle.vfm_drive.specs.Rounds.{all_stepped, devices_stepped, first_step, with_made}
use Rattle.vfm_drive.specs.Runs.{left_in}
use Rattle.vfm_drive.proofs.Steps.{step_fine, step_named, stepped_desc}
use Rattle.vfm_dest.specs.Homeward.{GoesHomeward, HasRoom}

pub stays : (core : CoreState) → HasRoom core → GoesHomeward core core
stays core has = record { has = has; desc = refl; longer = omega arith; left = omega arith }

-- one entry that is allowed
pub one-homeward : (core : CoreState) (entry : Entry) → HasRoom core → IsTrue (is_entry_of core.desc entry) → fault_on core.desc core.world entry ≡ None
    → GoesHomeward core (with_made (Some entry) core)
one-homeward core entry has named fine =
    let longer = length-append core.entries (entry ∷ []) in
    let less = world_falls core.desc core.world entry has.kept.fit.valid has.kept.fit.fits has.kept.stand named fine in
    record {
      has = record { room = has.room; kept = kept_after core.desc core.entries has.room core.world entry has.kept named fine };
      desc = refl;
      longer = omega (arith, longer);
      left = omega (arith, longer, less);
    }

pub then-homeward : (old mid new : CoreState) → GoesHomeward old mid → GoesHomeward mid new → GoesHomeward old new
then-homeward old mid new first second =
    let longer = first.longer in
    let more = second.longer in
    let left = first.left in
    let less = second.left in
    record {
      has = second.has;
      desc = second.desc ∙ first.desc;
      longer = omega (arith, longer, more);
      left = omega (arith, left, less);
    }

-- the first step of a device
device-homeward : (core : CoreState) (d : ℕ) → HasRoom core → d < device_count core.desc → GoesHomeward core (with_made (first_step d core) core)
device-homeward core d has inside = by (first_step d core) refl
  where
    by : (o : Option Entry) → first_step d core ≡ o → GoesHomeward core (with_made o core)
    by None is = stays core has
    by (Some entry) is =
        one-homeward core entry has (step_named core d has.kept.fit inside entry is) (step_fine core d has.kept.fit inside entry is)

devices-homeward : (n : ℕ) (core : CoreState) → HasRoom core → n ≤ device_count core.desc → GoesHomeward core (devices_stepped n core)
devices-homeward zero core has within = stays core has
devices-homeward (suc d) core has within =
    let before = devices-homeward d core has (omega (arith, within)) in
    let inside : d < device_count (devices_stepped d core).desc =
    subst (λ (D : Desc). d < device_count D) (sym (stepped_desc d core)) (omega (arith, within)) in
    then-homeward core (devices_stepped d core) (devices_stepped (suc d) core) before
    (device-homeward (devices_stepped d core) d before.has inside)

pub all-homeward : (core : CoreState) → HasRoom core → GoesHomeward core (all_stepped core)
all-homeward core has = devices-homeward (device_count core.desc) core has (omega arith)

-- where entries were made, fewer are left
pub left-less : (old new : CoreState) → GoesHomeward old new → nat_lt (length old.entries) (length new.entries) ≡ true → left_in new < left_in old
left-less old new goes grown =
    let longer : length old.entries < length new.entries = ltb-true (length old.entries) (length new.entries) grown in
    let left = goes.left in
    omega (arith, longer, left)
