-- The verdict on packets that bring what was sent: the machine at the joint stop.
use Rattle.std.proofs.Common.{◌≡◌, ℕ, zero, suc, ◌+◌, ◌<◌, ◌≤◌, ◌==◌, ◌&&◌, Bool, true, false, if◌then◌else◌, nat_eq, List, [], length, map, Option, Some, None, is_none, unwrap_or, refl, ap, ap₂, sym, ◌∙◌, arith, eq-eqb}
use Rattle.std.specs.List.{range_with_len}
use Rattle.std.specs.Option.{option_or, option_map}
use Rattle.std.specs.Cmp.Lexicographic.{pointwise}
use Rattle.std.proofs.lemmas.Bool.{and_from}
use Rattle.vfm_types.specs.declared.desc.Desc.{Desc}
use Rattle.vfm_types.specs.declared.entry.Entry.{Entry}
use Rattle.vfm_types.specs.declared.fault.Refusal.{Refusal}
use Rattle.vfm_types.specs.Desc.{device_count, shape_at, block_count}
use Rattle.vfm_types.specs.Machine.{DeviceState, device_of}
use Rattle.vfm_types.specs.Deliveries.{joint_machine}
use Rattle.vfm_types.specs.Phases.{is_last_begun}
use Rattle.vfm_types.specs.Blocks.{is_no_pass_open}
use Rattle.vfm_types.specs.Valid.{IsValid}
use Rattle.vfm_plain.specs.Legal.{IsLegal}
use Rattle.vfm_copying.proofs.AllSent.{same_itself}
use Rattle.vfm_packet.specs.Packet.{Packet}
use Rattle.vfm_packet.specs.Reading.{Reading}
use Rattle.vfm_record.specs.Record.{Record}
use Rattle.vfm_record.specs.Shape.{shape_digest}
use Rattle.vfm_streams.specs.Sent.{Sent, sent, records_of, sent_in_passes}
use Rattle.vfm_streams.specs.Whole.{StreamFault, ConfigDiffers, NotWhole, stream_packets, gap_of, in_order}
use Rattle.vfm_streams.specs.Loaded.{last_page, last_block, all_pairs, has_engine, engine_pend, loaded_device, loaded}
use Rattle.vfm_streams.specs.Judged.{said, bad_record, digest_of, config_differs, engine_lacks, lacks, load_fault, stream_fault}
use Rattle.vfm_streams.specs.Verdict.{Loads, stream_refusal, refused_channel, refused_stream, brought, loaded_from, refuses_or, verdict_on}
use Rattle.vfm_streams.specs.Brought.{BringsSent, lane_readings}
use Rattle.vfm_streams.proofs.Numbered.{numbered_sent}
use Rattle.vfm_streams.proofs.Gaps.{all_fail}
use Rattle.vfm_streams.proofs.LanesJoin.{lanes_bring, lanes_unrefused}
use Rattle.vfm_streams.proofs.ClosedRecords.{closed_counted, closed_announced}
use Rattle.vfm_streams.proofs.Streams.{stream_whole, stream_good, stream_says}
use Rattle.vfm_stream_laws.proofs.LoadedJoint.{page_came, memory_is, stream_is, block_came, pairs_came, loaded_is}
use Rattle.vfm_stream_laws.proofs.FitClosed.{memory_closed, device_closed}

-- a stream whose digest is the own one, and which lacks nothing, is not refused
good_stream : (D : Desc) (s : ℕ) (packets : List Packet) (records : List Record) → gap_of packets ≡ None → bad_record D s [] 0 (in_order packets) ≡ None
    → said s packets ≡ records → digest_of records ≡ shape_digest D s → lacks D s records ≡ None → stream_fault D s packets ≡ None
good_stream D s packets records whole good says digest lacking =
    ap (λ (o : Option StreamFault). option_or o (load_fault D s packets)) whole
    ∙ ap (λ (o : Option StreamFault). option_or o (option_or (config_differs D s (said s packets)) (option_map NotWhole (lacks D s (said s packets))))) good
    ∙ ap (λ (rs : List Record). option_or (config_differs D s rs) (option_map NotWhole (lacks D s rs))) says
    ∙ ap (λ (b : List ℕ). option_or (if pointwise nat_eq b (shape_digest D s) then None else Some ConfigDiffers) (option_map NotWhole (lacks D s records))) digest
    ∙ ap (λ (b : Bool). option_or (if b then None else Some ConfigDiffers) (option_map NotWhole (lacks D s records))) (same_itself (shape_digest D s))
    ∙ ap (option_map NotWhole) lacking

-- streams that aren't refused, one after another
none_refused : (D : Desc) (packets : List Packet) (s n : ℕ) → ((t : ℕ) → s ≤ t → t < s + n → stream_fault D t (stream_packets t packets) ≡ None)
    → refused_stream D packets s n ≡ None
none_refused D packets s zero each = refl
none_refused D packets s (suc n) each =
    ap (λ (o : Option StreamFault). option_or (option_map (stream_refusal s) o) (refused_stream D packets (s + 1) n)) (each s (omega arith) (omega arith))
    ∙ none_refused D packets (s + 1) n (λ t low high. each t (omega arith) (omega arith))

same_map : (f g : ℕ → DeviceState) (from n : ℕ) → ((d : ℕ) → from ≤ d → d < from + n → f d ≡ g d) → map f (range_with_len from n) ≡ map g (range_with_len from n)
same_map f g from zero each = refl
same_map f g from (suc n) each =
    rw (each from (omega arith) (omega arith), same_map f g (from + 1) n (λ d low high. each d (omega arith) (omega arith))) refl

-- what is loaded depends on the streams of memory and of the devices alone
same_loaded : (D : Desc) (f g : ℕ → List Record) → f 0 ≡ g 0 → ((d : ℕ) → d < device_count D → f (suc d) ≡ g (suc d)) → loaded D f ≡ loaded D g
same_loaded D f g memory devices =
    ap₂ (λ (ps : List (List ℕ)) (ds : List DeviceState). record { pages = ps; devices = ds })
    (ap (λ (rs : List Record). map (λ p. unwrap_or (last_page p rs) []) (range_with_len 0 D.pages)) memory)
    (same_map (λ d. loaded_device D d (f (suc d))) (λ d. loaded_device D d (g (suc d))) 0 (device_count D)
    (λ d low high. ap (loaded_device D d) (devices d (omega arith))))

module _ (D : Desc) (past : List Entry) (packets : List Packet) (valid : IsValid D) (legal : IsLegal D past) (last : is_last_begun past ≡ true)
    (ended : is_no_pass_open D past ≡ true) (brings : BringsSent D (sent D past) packets) where
  abbrev all : List Sent
  all = sent D past

  memory_lacks : lacks D 0 (records_of 0 (sent D past)) ≡ None
  memory_lacks =
      all_fail D.pages (λ p. is_none (last_page p (records_of 0 (sent D past))))
      (λ p inside. ap (λ (o : Option (List ℕ)). is_none o) (page_came D past valid legal last ended p inside))

  memory_good : stream_fault D 0 (stream_packets 0 packets) ≡ None
  memory_good =
      let closed = memory_closed D past valid legal last ended in
      good_stream D 0 (stream_packets 0 packets) (records_of 0 all) (stream_whole D 0 all packets (numbered_sent D past) brings closed)
      (stream_good D 0 all packets (numbered_sent D past) brings closed) (stream_says D 0 all packets (numbered_sent D past) brings closed)
      (ap digest_of (memory_is D past valid legal last ended)) memory_lacks

  device_lacks : (d : ℕ) → d < device_count D → lacks D (suc d) (records_of (suc d) (sent D past)) ≡ None
  device_lacks d inside =
      let records = records_of (suc d) (sent D past) in
      let older = records_of (suc d) (sent_in_passes D past) in
      let dev = device_of (joint_machine D past) d in
      let counted : has_engine records ≡ true = ap has_engine (stream_is D past valid legal last ended d inside) ∙ closed_counted D d dev older in
      let announced : engine_pend records ≡ length dev.pending = ap engine_pend (stream_is D past valid legal last ended d inside) ∙ closed_announced D d dev older in
      let came : length (all_pairs records) ≡ length dev.pending = ap (length {A = ℕ × ℕ}) (pairs_came D past valid legal last ended d inside) in
      ap (λ (o : Option ℕ). option_or o (engine_lacks records))
      (all_fail (block_count (shape_at D d)) (λ b. is_none (last_block b records))
      (λ b inside_b. ap (λ (o : Option (List ℕ)). is_none o) (block_came D past valid legal last ended d b inside inside_b)))
      ∙ lacks_none (has_engine records && length (all_pairs records) == engine_pend records) (Some 4294967295)
      (and_from (has_engine records) (length (all_pairs records) == engine_pend records) counted (eq-eqb (length (all_pairs records)) (engine_pend records) (came ∙ sym announced)))
    where
      lacks_none : (b : Bool) (o : Option ℕ) → b ≡ true → (if b then None else o) ≡ None
      lacks_none true o is = refl
      lacks_none false o is = absurd (cc)

  device_says : (d : ℕ) → d < device_count D → said (suc d) (stream_packets (suc d) packets) ≡ records_of (suc d) (sent D past)
  device_says d inside = stream_says D (suc d) all packets (numbered_sent D past) brings (device_closed D past valid legal last ended d inside)

  device_good : (d : ℕ) → d < device_count D → stream_fault D (suc d) (stream_packets (suc d) packets) ≡ None
  device_good d inside =
      let closed = device_closed D past valid legal last ended d inside in
      good_stream D (suc d) (stream_packets (suc d) packets) (records_of (suc d) all)
      (stream_whole D (suc d) all packets (numbered_sent D past) brings closed) (stream_good D (suc d) all packets (numbered_sent D past) brings closed)
      (device_says d inside) (ap digest_of (stream_is D past valid legal last ended d inside)) (device_lacks d inside)

  pub streams_good : refused_stream D packets 0 (device_count D + 1) ≡ None
  streams_good = none_refused D packets 0 (device_count D + 1) (λ t low high. each t (omega arith))
    where
      each : (t : ℕ) → t < device_count D + 1 → stream_fault D t (stream_packets t packets) ≡ None
      each zero below = memory_good
      each (suc d) below = device_good d (omega arith)

  pub loads_joint : loaded_from D packets ≡ joint_machine D past
  loads_joint =
      same_loaded D (λ s. said s (stream_packets s packets)) (λ s. records_of s (sent D past))
      (stream_says D 0 all packets (numbered_sent D past) brings (memory_closed D past valid legal last ended)) device_says
      ∙ loaded_is D past valid legal last ended

-- the verdict on channels none of which is refused, and which bring what was sent
pub brought_verdict : (D : Desc) (past : List Entry) (limit : ℕ) (readings : List Reading) → IsValid D → IsLegal D past
    → is_last_begun past ≡ true → is_no_pass_open D past ≡ true → refused_channel limit 0 readings ≡ None
    → BringsSent D (sent D past) (brought readings) → verdict_on D limit readings ≡ Loads (joint_machine D past)
brought_verdict D past limit readings valid legal last ended unrefused brings =
    ap (λ (o : Option Refusal). refuses_or (option_or o (refused_stream D (brought readings) 0 (device_count D + 1))) (loaded_from D (brought readings))) unrefused
    ∙ ap (λ (o : Option Refusal). refuses_or o (loaded_from D (brought readings))) (streams_good D past (brought readings) valid legal last ended brings)
    ∙ ap Loads (loads_joint D past (brought readings) valid legal last ended brings)

pub own_verdict : (D : Desc) (past : List Entry) (limit : ℕ) → IsValid D → IsLegal D past → is_last_begun past ≡ true → is_no_pass_open D past ≡ true
    → verdict_on D limit (lane_readings D (sent D past)) ≡ Loads (joint_machine D past)
own_verdict D past limit valid legal last ended =
    brought_verdict D past limit (lane_readings D (sent D past)) valid legal last ended (lanes_unrefused D (sent D past) limit)
    (lanes_bring D (sent D past) valid.in_range.channels_low)
