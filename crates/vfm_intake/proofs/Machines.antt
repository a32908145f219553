-- The parts of all streams are the machine that their records make.
use Rattle.std.proofs.Common.{◌≡◌, ◌∙◌, refl, sym, ap, ap₂, subst, ℕ, zero, suc, ◌+◌, ◌<◌, ◌≤◌, Bool, true, List, [], ◌∷◌, length, map, arith}
use Rattle.std.specs.List.{list_all, range_with_len}
use Rattle.std.proofs.lemmas.List.FromFn.{get_or-map-range_with_len, length-map-range_with_len}
use Rattle.vfm_types.specs.declared.desc.Desc.{Desc}
use Rattle.vfm_types.specs.Desc.{device_count, shape_at}
use Rattle.vfm_types.specs.Machine.{DeviceState, Machine, device_of, no_device}
use Rattle.vfm_types.specs.Valid.{IsValid}
use Rattle.vfm_plain.specs.declared.part.Part.{Part}
use Rattle.vfm_plain.specs.Shape.{DeviceHasShape, DeviceHasCounts, HasShape, HasCounts}
use Rattle.vfm_laws.specs.Queues.{IsRising}
use Rattle.vfm_packet.specs.Packet.{Packet}
use Rattle.vfm_record.specs.Record.{Record}
use Rattle.vfm_streams.specs.Whole.{stream_packets}
use Rattle.vfm_streams.specs.Judged.{said}
use Rattle.vfm_streams.specs.Loaded.{loaded_device}
use Rattle.vfm_streams.specs.Verdict.{loaded_from}
use Rattle.vfm_load.specs.Parts.{IsPartOf, loaded_part, loaded_pages}
use Rattle.vfm_intake_laws.proofs.Counting.{map-same}
use Rattle.vfm_intake.specs.Finished.{all_loaded}
use Rattle.vfm_intake.specs.Parts.{is_device, device_in, machine_in, AreParts}

module _ (D : Desc) (came : ℕ → List Packet) where
  -- what stream s says
  abbrev says : ℕ → List Record
  says s = said s (came s)

  abbrev part : ℕ → Part
  part s = loaded_part D s (says s)

  abbrev device : ℕ → DeviceState
  device d = loaded_device D d (says (suc d))

  devices-are : (to from n : ℕ) → to ≡ suc from → map device_in (map part (range_with_len to n)) ≡ map device (range_with_len from n)
  devices-are to from zero is = refl
  devices-are to from (suc n) is =
      ap₂ (λ (x : DeviceState) (xs : List DeviceState). x ∷ xs) (subst (λ (t : ℕ). device_in (part t) ≡ device from) (sym is) refl)
      (devices-are (to + 1) (from + 1) n (omega (arith, is)))

  all-devices : (to n : ℕ) → 0 < to → list_all is_device (map part (range_with_len to n)) ≡ true
  all-devices to zero some = refl
  all-devices zero (suc n) some = absurd (omega (arith, some))
  all-devices (suc t) (suc n) some = all-devices (suc t + 1) n (omega arith)

  abbrev machine : Machine
  machine = record { pages = loaded_pages D (says 0); devices = map device (range_with_len 0 (device_count D)) }

  abbrev both : List (List ℕ) → List DeviceState → Machine
  both ps ds = record { pages = ps; devices = ds }

  machine-is : machine_in (all_loaded D came (suc (device_count D))) ≡ machine
  machine-is = ap (both (loaded_pages D (says 0))) (devices-are (0 + 1) 0 (device_count D) refl)

  device-is : (d : ℕ) → d < device_count D → device_of machine d ≡ device d
  device-is d low = get_or-map-range_with_len device 0 (device_count D) d d no_device low (omega arith)

  pub are-parts : IsValid D → ((s : ℕ) → s < suc (device_count D) → IsPartOf D s (part s)) → AreParts D (all_loaded D came (suc (device_count D)))
  are-parts valid each = record {
    valid = valid;
    order = all-devices (0 + 1) (device_count D) (omega arith);
    shape = subst (HasShape D) (sym machine-is) (record {
      pages = (each 0 (omega arith)).count;
      page = (each 0 (omega arith)).size;
      devices = length-map-range_with_len device 0 (device_count D);
      device = λ d low. subst (DeviceHasShape (shape_at D d)) (sym (device-is d low)) (each (suc d) (omega (arith, low))).shape_is;
    });
    counts = subst (HasCounts D) (sym machine-is)
        (λ d low. subst (DeviceHasCounts (shape_at D d)) (sym (device-is d low)) (each (suc d) (omega (arith, low))).counts);
    lost = subst (λ (m : Machine). (d : ℕ) → d < device_count D → (device_of m d).lost ≤ 400000) (sym machine-is)
        (λ d low. subst (λ (x : DeviceState). x.lost ≤ 400000) (sym (device-is d low)) (each (suc d) (omega (arith, low))).lost);
    rising = subst (λ (m : Machine). (d : ℕ) → d < device_count D → IsRising 0 (device_of m d).pending (device_of m d).accepted) (sym machine-is)
        (λ d low. subst (λ (x : DeviceState). IsRising 0 x.pending x.accepted) (sym (device-is d low)) (each (suc d) (omega (arith, low))).rising);
  }

  pub machine-loaded : (packets : List Packet) → ((s : ℕ) → s < suc (device_count D) → says s ≡ said s (stream_packets s packets))
      → machine_in (all_loaded D came (suc (device_count D))) ≡ loaded_from D packets
  machine-loaded packets same =
      machine-is
      ∙ ap₂ both (ap (loaded_pages D) (same 0 (omega arith)))
      (map-same device (λ d. loaded_device D d (said (suc d) (stream_packets (suc d) packets))) 0 (device_count D)
      (λ d low high. ap (loaded_device D d) (same (suc d) (omega (arith, high)))))
