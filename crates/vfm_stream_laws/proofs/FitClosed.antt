-- What is sent once the last pass has ended: each stream is closed, and its records can stand one behind another.
use Rattle.std.proofs.Common.{◌≡◌, ℕ, zero, suc, ◌+◌, ◌<◌, ◌≤◌, ◌&&◌, true, false, List, [], ◌∷◌, length, map, Some, None, refl, ap, sym, ◌∙◌, subst, arith}
use Rattle.std.specs.List.{AllByRecursion, All}
use Rattle.std.proofs.lemmas.List.Elements.{recursion_from_All, All-from_get_or}
use Rattle.std.proofs.lemmas.List.Sums.{sum_by-le}
use Rattle.std.proofs.lemmas.Bool.{and_parts, cond-false}
use Rattle.sha2.proofs.Facts256.{length-sha256}
use Rattle.vfm_types.specs.declared.desc.Desc.{Desc}
use Rattle.vfm_types.specs.declared.entry.Entry.{Entry}
use Rattle.vfm_types.specs.declared.entry.Entry.TheVariants.{Joint}
use Rattle.vfm_types.specs.Desc.{device_count, shape_at}
use Rattle.vfm_types.specs.Machine.{DeviceState, Machine, no_device, device_of}
use Rattle.vfm_types.specs.Deliveries.{joint_machine}
use Rattle.vfm_types.specs.Phases.{is_last_begun}
use Rattle.vfm_types.specs.Blocks.{is_no_pass_open}
use Rattle.vfm_types.specs.Valid.{IsValid}
use Rattle.vfm_plain.specs.Legal.{IsLegal}
use Rattle.vfm_plain.specs.Shape.{IsSound}
use Rattle.vfm_laws.specs.Queues.{IsRising}
use Rattle.vfm_laws.proofs.Rising.{by_bool}
use Rattle.vfm_laws.proofs.KeptQueues.{keeps_queues}
use Rattle.vfm_record.specs.Record.{Record, Pending, Config, IsRecordOf}
use Rattle.vfm_record.specs.Shape.{shape_digest, shape_text}
use Rattle.vfm_streams.specs.Sent.{Sent, sent, records_of, sent_in_passes, with_all_closed, chunks, pairs_of_a_record, engine_record}
use Rattle.vfm_streams.specs.Packets.{kind_of}
use Rattle.vfm_streams.specs.Whole.{is_config}
use Rattle.vfm_streams.specs.Judged.{AllFit}
use Rattle.vfm_streams.specs.Loaded.{has_engine}
use Rattle.vfm_streams.proofs.Chunks.{joined_chunks}
use Rattle.vfm_streams.proofs.ClosedRecords.{onto, closed_records, closed_memory, closed_stream}
use Rattle.vfm_streams.proofs.Streams.{IsClosed}
use Rattle.vfm_stream_laws.proofs.LastRecords.{no_pairs}
use Rattle.vfm_stream_laws.proofs.LoadedJoint.{joint_sound, sent_closed, some_pairs}
use Rattle.vfm_stream_laws.proofs.FitRecords.{fit_stand, shape_is, before_counts, memory_passes, device_passes}
use Rattle.vfm_stream_laws.proofs.FitPending.{pieces_of, pieces_fit}

-- the pending requests of a device at the joint stop have rising numbers
pub joint_rising : (D : Desc) → IsValid D → (past : List Entry) → IsLegal D past → (d : ℕ) → d < device_count D
    → IsRising 0 (device_of (joint_machine D past) d).pending (device_of (joint_machine D past) d).accepted
joint_rising D valid [] legal d inside = ((keeps_queues D valid [] tt).1 d inside).rising
joint_rising D valid (Joint ∷ past) legal d inside = ((keeps_queues D valid past legal.2).1 d inside).rising
joint_rising D valid (entry ∷ past) legal d inside = joint_rising D valid past legal.2 d inside

pub digest_length : (D : Desc) (s : ℕ) → length (shape_digest D s) ≡ 32
unfolding shape_digest
digest_length D s = length-sha256 (shape_text D s)

config_fits : (D : Desc) (s : ℕ) → IsRecordOf D s (Config (shape_digest D s))
config_fits D s = record { fits = tt; of = digest_length D s }

-- no device has lost more than all budgets allow
few_lost : (D : Desc) (m : Machine) → IsValid D → IsSound D m → (d : ℕ) → d < device_count D → (device_of m d).lost ≤ 400000
few_lost D m valid sound d inside =
    let few : All (λ (dev : DeviceState). dev.done ≤ 50000) m.devices =
    All-from_get_or (λ dev. dev.done ≤ 50000) m.devices no_device
    (λ k h. let there : k < device_count D = omega (arith, sound.shape.devices) in
    omega (arith, (sound.counts k there).accepted, (sound.counts k there).within, (valid.in_range.devices k there).budget)) in
    omega (arith, sound.losses d inside, sum_by-le (λ (dev : DeviceState). dev.done) 50000 m.devices few, sound.shape.devices, valid.in_range.count_high)

engine_fits : (D : Desc) (m : Machine) → IsValid D → IsSound D m → (d : ℕ) → d < device_count D → IsRecordOf D (suc d) (engine_record (device_of m d))
engine_fits D m valid sound d inside =
    let accepted : (device_of m d).accepted ≡ (device_of m d).done + length (device_of m d).pending = (sound.counts d inside).accepted in
    let within : (device_of m d).accepted ≤ (shape_at D d).budget = (sound.counts d inside).within in
    let few : (shape_at D d).budget ≤ 50000 = (valid.in_range.devices d inside).budget in
    let lost : (device_of m d).lost ≤ 400000 = few_lost D m valid sound d inside in
    record {
      fits = (omega arith, omega arith, omega arith, omega arith);
      of = (
        omega arith,
        subst (λ (shape : _). (device_of m d).accepted ≤ shape.budget) (sym (shape_is D d)) within,
        sym accepted,
        lost,
        (sound.shape.device d inside).buf,
      );
    }

-- pieces put before other data are data
pieces_data : (pieces : List (List (ℕ × ℕ))) (older : List Record) → AllByRecursion (λ r. is_config (kind_of r) ≡ false) older
    → AllByRecursion (λ r. is_config (kind_of r) ≡ false) (onto (map Pending pieces) older)
pieces_data [] older data_ = data_
pieces_data (piece ∷ pieces) older data_ = pieces_data pieces (Pending piece ∷ older) (refl, data_)

few_pairs : pairs_of_a_record ≤ 4096
unfolding pairs_of_a_record
few_pairs = omega arith

module _ (D : Desc) (past : List Entry) (valid : IsValid D) (legal : IsLegal D past) (last : is_last_begun past ≡ true) (ended : is_no_pass_open D past ≡ true) where
  abbrev m : Machine
  m = joint_machine D past

  pub memory_closed : IsClosed D 0 (records_of 0 (sent D past))
  memory_closed =
      let passes = memory_passes D valid past legal in
      let is = ap (records_of 0) (sent_closed D past valid legal last ended) ∙ closed_memory D m (sent_in_passes D past) in
      record {
        digest = shape_digest D 0;
        older = records_of 0 (sent_in_passes D past);
        is = is;
        data_ = passes.data_;
        stand = fit_stand D 0 (records_of 0 (sent D past)) (subst (AllFit D 0) (sym is) (config_fits D 0, refl, passes.fit));
      }

  -- the stream of a device: its blocks, its counts, its pending requests and its digest
  pub device_fits : (d : ℕ) → d < device_count D → AllFit D (suc d) (closed_records D d (device_of m d) (records_of (suc d) (sent_in_passes D past)))
  device_fits d inside =
      let sound = joint_sound D valid past legal in
      let passes = device_passes D valid past legal d in
      let older = records_of (suc d) (sent_in_passes D past) in
      let pending = (device_of m d).pending in
      let pieces = chunks (length pending) pairs_of_a_record pending in
      let counts : (device_of m d).accepted ≤ (shape_at D d).budget = (sound.counts d inside).within in
      let few : (shape_at D d).budget ≤ 50000 = (valid.in_range.devices d inside).budget in
      let jobs : length (shape_at D d).jobs ≤ 4096 = (valid.in_range.devices d inside).job_count in
      let engine = engine_fits D m valid sound d inside in (
        config_fits D (suc d),
        refl,
        pieces_fit D d (device_of m d).accepted pending (omega arith) (omega arith) (joint_rising D valid past legal d inside)
            (recursion_from_All (λ (r : ℕ × ℕ). r.1 < length (shape_at D d).jobs) pending (sound.shape.device d inside).jobs)
            pieces (engine_record (device_of m d) ∷ older) [] (pieces_of (length pending) pairs_of_a_record pending some_pairs few_pairs)
            (record {
              counted = refl;
              announced = refl;
              numbers = refl;
              came = no_pairs D past d;
              all = sym (joined_chunks (length pending) pairs_of_a_record pending some_pairs (omega arith));
            })
            (engine, before_counts None (Some 0) (has_engine older) passes.idle, passes.fit),
      )

  pub device_closed : (d : ℕ) → d < device_count D → IsClosed D (suc d) (records_of (suc d) (sent D past))
  device_closed d inside =
      let is = ap (records_of (suc d)) (sent_closed D past valid legal last ended) ∙ closed_stream D m d (sent_in_passes D past) inside in
      let older = records_of (suc d) (sent_in_passes D past) in
      let pending = (device_of m d).pending in
      record {
        digest = shape_digest D (suc d);
        older = onto (map Pending (chunks (length pending) pairs_of_a_record pending)) (engine_record (device_of m d) ∷ older);
        is = is;
        data_ = pieces_data (chunks (length pending) pairs_of_a_record pending) (engine_record (device_of m d) ∷ older) (refl, (device_passes D valid past legal d).data_);
        stand = fit_stand D (suc d) (records_of (suc d) (sent D past)) (subst (AllFit D (suc d)) (sym is) (device_fits d inside));
      }

  pub streams_fit : (s : ℕ) → s ≤ device_count D → AllFit D s (records_of s (sent D past))
  streams_fit zero inside =
      subst (AllFit D 0) (sym (ap (records_of 0) (sent_closed D past valid legal last ended) ∙ closed_memory D m (sent_in_passes D past)))
      (config_fits D 0, refl, (memory_passes D valid past legal).fit)
  streams_fit (suc d) inside =
      subst (AllFit D (suc d)) (sym (ap (records_of (suc d)) (sent_closed D past valid legal last ended) ∙ closed_stream D m d (sent_in_passes D past) inside))
      (device_fits d inside)

-- what passes send fits too, and so does all that is sent, at any time
passes_fit : (D : Desc) (past : List Entry) (s : ℕ) → IsValid D → IsLegal D past → AllFit D s (records_of s (sent_in_passes D past))
passes_fit D past zero valid legal = (memory_passes D valid past legal).fit
passes_fit D past (suc d) valid legal = (device_passes D valid past legal d).fit

pub all_fit : (D : Desc) (past : List Entry) (s : ℕ) → IsValid D → IsLegal D past → s ≤ device_count D → AllFit D s (records_of s (sent D past))
all_fit D past s valid legal inside =
    by_bool (is_last_begun past && is_no_pass_open D past)
    (λ b. (is_last_begun past && is_no_pass_open D past) ≡ b → AllFit D s (records_of s (sent D past)))
    (λ closed e. let parts = and_parts (is_last_begun past) (is_no_pass_open D past) e in streams_fit D past valid legal parts.0 parts.1 s inside)
    (λ open_ e.
    subst (λ (all : List Sent). AllFit D s (records_of s all))
    (sym (cond-false (is_last_begun past && is_no_pass_open D past) (with_all_closed D (joint_machine D past) (sent_in_passes D past)) (sent_in_passes D past) e))
    (passes_fit D past s valid legal)) refl
