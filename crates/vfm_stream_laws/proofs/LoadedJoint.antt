-- What is sent once the last pass has ended loads the machine at the joint stop.
use Rattle.std.proofs.Common.{◌≡◌, ℕ, zero, suc, ◌+◌, ◌*◌, ◌/◌, ◌%◌, ◌<◌, ◌≤◌, ◌&&◌, true, List, [], ◌∷◌, ◌++◌, length, map, Option, Some, unwrap_or, refl, ap, ap₂, sym, ◌∙◌, arith}
use Rattle.std.specs.List.{flat_map, range_with_len}
use Rattle.std.proofs.lemmas.Bool.{cond-true, and_from}
use Rattle.std.proofs.lemmas.List.FromFn.{fill_by_all}
use Rattle.vfm_types.specs.declared.desc.Desc.{Desc}
use Rattle.vfm_types.specs.declared.entry.Entry.{Entry}
use Rattle.vfm_types.specs.declared.entry.Entry.TheVariants.{Joint}
use Rattle.vfm_types.specs.Desc.{device_count, shape_at, block_count, bar_bytes}
use Rattle.vfm_types.specs.Machine.{DeviceState, Machine, no_device, device_of}
use Rattle.vfm_types.specs.Deliveries.{joint_machine, page_bytes, block_bytes}
use Rattle.vfm_types.specs.Phases.{is_last_begun}
use Rattle.vfm_types.specs.Blocks.{is_no_pass_open}
use Rattle.vfm_types.specs.Valid.{IsValid}
use Rattle.vfm_types.proofs.BarSizes.{all_bars}
use Rattle.vfm_plain.specs.Legal.{IsLegal}
use Rattle.vfm_plain.specs.Shape.{IsSound}
use Rattle.vfm_laws.proofs.Enabled.{machine_sound}
use Rattle.vfm_copying.proofs.LastPass.{copied_pages}
use Rattle.vfm_copying.proofs.LastBlocks.{read_blocks}
use Rattle.vfm_record.specs.Record.{Record, Config}
use Rattle.vfm_record.specs.Shape.{shape_digest}
use Rattle.vfm_streams.specs.Sent.{Sent, sent, records_of, sent_in_passes, with_all_closed, chunks, pairs_of_a_record}
use Rattle.vfm_streams.specs.Loaded.{last_page, last_block, all_pairs, engine_device, loaded_bar, loaded_device, loaded}
use Rattle.vfm_streams.proofs.Chunks.{joined, joined_chunks, all_blocks}
use Rattle.vfm_streams.proofs.ClosedRecords.{closed_memory, closed_stream, closed_records, closed_block, closed_engine, closed_pairs}
use Rattle.vfm_stream_laws.proofs.LastRecords.{page_sent, block_sent, no_pairs}

-- the machine at the joint stop is sound
pub joint_sound : (D : Desc) → IsValid D → (past : List Entry) → IsLegal D past → IsSound D (joint_machine D past)
joint_sound D valid [] legal = machine_sound D valid [] tt
joint_sound D valid (Joint ∷ past) legal = machine_sound D valid past legal.2
joint_sound D valid (entry ∷ past) legal = joint_sound D valid past legal.2

-- one record has room for some
pub some_pairs : 0 < pairs_of_a_record
unfolding pairs_of_a_record
some_pairs = omega arith

-- blocks that are the same one by one
same_blocks : (f g : ℕ → List ℕ) (from n : ℕ) → ((b : ℕ) → from ≤ b → b < from + n → f b ≡ g b) → flat_map f (range_with_len from n) ≡ flat_map g (range_with_len from n)
same_blocks f g from zero each = refl
same_blocks f g from (suc n) each =
    rw (each from (omega arith) (omega arith), same_blocks f g (from + 1) n (λ b low high. each b (omega arith) (omega arith))) refl

-- a size of whole blocks
whole_blocks : (size : ℕ) → size % 64 ≡ 0 → size ≡ 64 * (size / 64)
whole_blocks size whole = omega arith

-- a device without its BARs and its pending requests
abbrev bare : DeviceState → DeviceState
bare dev = record { bar = []; pending = []; buf = dev.buf; accepted = dev.accepted; done = dev.done; lost = dev.lost }

put_together : (dev engine : DeviceState) (bar : List ℕ) (pairs : List (ℕ × ℕ)) → engine ≡ bare dev → bar ≡ dev.bar → pairs ≡ dev.pending
    → dev ≡ record engine { bar = bar; pending = pairs }
put_together dev engine bar pairs is_engine is_bar is_pending = sym (rw (is_engine, is_bar, is_pending) refl)

machine_of_parts : (m other : Machine) → m.pages ≡ other.pages → m.devices ≡ other.devices → other ≡ m
machine_of_parts m other pages devices = sym (ap₂ (λ (ps : List (List ℕ)) (ds : List DeviceState). record { pages = ps; devices = ds }) pages devices)

module _ (D : Desc) (past : List Entry) (valid : IsValid D) (legal : IsLegal D past) (last : is_last_begun past ≡ true) (ended : is_no_pass_open D past ≡ true) where
  abbrev m : Machine
  m = joint_machine D past

  pub sent_closed : sent D past ≡ with_all_closed D (joint_machine D past) (sent_in_passes D past)
  sent_closed =
      cond-true (is_last_begun past && is_no_pass_open D past) (with_all_closed D m (sent_in_passes D past)) (sent_in_passes D past)
      (and_from (is_last_begun past) (is_no_pass_open D past) last ended)

  pub page_came : (p : ℕ) → p < D.pages → last_page p (records_of 0 (sent D past)) ≡ Some (page_bytes (joint_machine D past) p)
  page_came p inside =
      ap (λ (all : List Sent). last_page p (records_of 0 all)) sent_closed ∙ ap (last_page p) (closed_memory D m (sent_in_passes D past))
      ∙ page_sent D past p ∙ copied_pages D past p valid legal last ended inside

  pub memory_is : records_of 0 (sent D past) ≡ Config (shape_digest D 0) ∷ records_of 0 (sent_in_passes D past)
  memory_is = ap (records_of 0) sent_closed ∙ closed_memory D m (sent_in_passes D past)

  page_is : (p : ℕ) → p < D.pages → page_bytes m p ≡ unwrap_or (last_page p (records_of 0 (sent D past))) []
  page_is p inside =
      sym (ap (λ (o : Option (List ℕ)). unwrap_or o []) (page_came p inside))

  pages_are : m.pages ≡ map (λ p. unwrap_or (last_page p (records_of 0 (sent D past))) []) (range_with_len 0 D.pages)
  pages_are =
      fill_by_all (λ p. unwrap_or (last_page p (records_of 0 (sent D past))) []) m.pages D.pages [] (joint_sound D valid past legal).shape.pages page_is

  pub stream_is : (d : ℕ) → d < device_count D → records_of (suc d) (sent D past) ≡ closed_records D d (device_of m d) (records_of (suc d) (sent_in_passes D past))
  stream_is d inside = ap (records_of (suc d)) sent_closed ∙ closed_stream D m d (sent_in_passes D past) inside

  pub block_came : (d b : ℕ) → d < device_count D → b < block_count (shape_at D d)
      → last_block b (records_of (suc d) (sent D past)) ≡ Some (block_bytes (joint_machine D past) d b)
  block_came d b inside_d inside_b =
      ap (last_block b) (stream_is d inside_d) ∙ closed_block D d b (device_of m d) (records_of (suc d) (sent_in_passes D past)) ∙ block_sent D past d b
      ∙ read_blocks D past d b valid legal last ended inside_d inside_b

  block_is : (d b : ℕ) → d < device_count D → b < block_count (shape_at D d)
      → unwrap_or (last_block b (records_of (suc d) (sent D past))) [] ≡ block_bytes m d b
  block_is d b inside_d inside_b =
      ap (λ (o : Option (List ℕ)). unwrap_or o []) (block_came d b inside_d inside_b)

  bar_is : (d : ℕ) → d < device_count D → loaded_bar D d (records_of (suc d) (sent D past)) ≡ (device_of m d).bar
  bar_is d inside =
      blocks_as D d (records_of (suc d) (sent D past)) (block_count (shape_at D d)) (λ b inside_b. block_is d b inside inside_b)
      ∙ all_blocks 64 (block_count (shape_at D d)) (device_of m d).bar (whole inside)
    where
      whole : d < device_count D → length (device_of m d).bar ≡ 64 * block_count (shape_at D d)
      whole there =
          let len : length (device_of m d).bar ≡ bar_bytes (shape_at D d) = ((joint_sound D valid past legal).shape.device d there).bar in
          let rest : bar_bytes (shape_at D d) % 64 ≡ 0 = (all_bars (shape_at D d) (valid.in_range.devices d there).bars).whole in
          len ∙ whole_blocks (bar_bytes (shape_at D d)) rest

      blocks_as : (E : Desc) (e : ℕ) (records : List Record) (n : ℕ) → ((b : ℕ) → b < n → unwrap_or (last_block b records) [] ≡ block_bytes m e b)
          → flat_map (λ b. unwrap_or (last_block b records) []) (range_with_len 0 n) ≡ flat_map (λ b. block_bytes m e b) (range_with_len 0 n)
      blocks_as E e records n each = same_blocks (λ b. unwrap_or (last_block b records) []) (λ b. block_bytes m e b) 0 n (λ b low high. each b (omega arith))

  pub pairs_came : (d : ℕ) → d < device_count D → all_pairs (records_of (suc d) (sent D past)) ≡ (device_of (joint_machine D past) d).pending
  pairs_came d inside =
      let pending = (device_of m d).pending in
      ap all_pairs (stream_is d inside) ∙ closed_pairs D d (device_of m d) (records_of (suc d) (sent_in_passes D past))
      ∙ ap (λ (front : List (ℕ × ℕ)). front ++ joined (chunks (length pending) pairs_of_a_record pending)) (no_pairs D past d)
      ∙ joined_chunks (length pending) pairs_of_a_record pending some_pairs (omega arith)

  device_is : (d : ℕ) → d < device_count D → device_of m d ≡ loaded_device D d (records_of (suc d) (sent D past))
  device_is d inside =
      let older = records_of (suc d) (sent_in_passes D past) in
      let dev = device_of m d in
      let engine : engine_device (records_of (suc d) (sent D past)) ≡ bare dev = ap engine_device (stream_is d inside) ∙ closed_engine D d dev older in
      put_together dev (engine_device (records_of (suc d) (sent D past))) (loaded_bar D d (records_of (suc d) (sent D past)))
      (all_pairs (records_of (suc d) (sent D past))) engine (bar_is d inside) (pairs_came d inside)

  devices_are : m.devices ≡ map (λ d. loaded_device D d (records_of (suc d) (sent D past))) (range_with_len 0 (device_count D))
  devices_are =
      fill_by_all (λ d. loaded_device D d (records_of (suc d) (sent D past))) m.devices (device_count D) no_device (joint_sound D valid past legal).shape.devices device_is

  pub loaded_is : loaded D (λ s. records_of s (sent D past)) ≡ joint_machine D past
  loaded_is = machine_of_parts m (loaded D (λ s. records_of s (sent D past))) pages_are devices_are
