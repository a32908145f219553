-- What is sent later stands before what was sent already, and its bytes behind.
use Rattle.std.proofs.Common.{◌≡◌, ℕ, zero, suc, ◌==◌, true, false, ◌&&◌, if◌then◌else◌, List, [], ◌∷◌, ◌++◌, map, filter, reverse, length, refl, ap, sym, ◌∙◌, append_assoc}
use Rattle.std.proofs.lemmas.List.{map-append, reverse-append}
use Rattle.std.proofs.lemmas.List.Concat.{flat_map-append}
use Rattle.std.proofs.lemmas.List.Elements.{filter-append}
use Rattle.vfm_types.specs.declared.desc.Desc.{Desc}
use Rattle.vfm_types.specs.declared.entry.Entry.{Entry}
use Rattle.vfm_types.specs.Desc.{device_count}
use Rattle.vfm_types.specs.Machine.{DeviceState, Machine, device_of}
use Rattle.vfm_types.specs.Deliveries.{joint_machine}
use Rattle.vfm_types.specs.Phases.{is_last_begun}
use Rattle.vfm_types.specs.Blocks.{is_no_pass_open}
use Rattle.vfm_packet.specs.Packet.{packet_bytes}
use Rattle.vfm_packet.specs.Channel.{all_bytes}
use Rattle.vfm_record.specs.Record.{Record, Config}
use Rattle.vfm_record.specs.Shape.{shape_digest}
use Rattle.vfm_streams.specs.Sent.{Sent, records_of, push, push_all, pending_records, engine_record, with_device_closed, with_devices_closed, with_all_closed, sent_in_passes, sent}
use Rattle.vfm_streams.specs.Packets.{packet_of, lane_of, lane_packets}

-- some records more
pub record Grows (before after : List Sent) : Type 0 where
  pub more : List Sent
  pub is : after ≡ more ++ before

pub grows_none : (all : List Sent) → Grows all all
grows_none all = record { more = []; is = refl }

pub grows_then : (first second third : List Sent) → Grows first second → Grows second third → Grows first third
grows_then first second third a b =
    record {
      more = b.more ++ a.more;
      is = b.is ∙ ap (λ (all : List Sent). b.more ++ all) a.is ∙ sym (append_assoc b.more a.more first);
    }

pub grows_push : (s : ℕ) (r : Record) (all : List Sent) → Grows all (push s r all)
grows_push s r all = record { more = record { stream = s; index = length (records_of s all); says = r } ∷ []; is = refl }

grows_all : (s : ℕ) (records : List Record) (all : List Sent) → Grows all (push_all s records all)
grows_all s [] all = grows_none all
grows_all s (r ∷ records) all = grows_then all (push s r all) (push_all s records (push s r all)) (grows_push s r all) (grows_all s records (push s r all))

grows_device : (D : Desc) (d : ℕ) (device : DeviceState) (all : List Sent) → Grows all (with_device_closed D d device all)
grows_device D d device all =
    let counts = push (suc d) (engine_record device) all in
    let pending = push_all (suc d) (pending_records device.pending) counts in
    grows_then all pending (with_device_closed D d device all)
    (grows_then all counts pending (grows_push (suc d) (engine_record device) all) (grows_all (suc d) (pending_records device.pending) counts))
    (grows_push (suc d) (Config (shape_digest D (suc d))) pending)

grows_devices : (D : Desc) (m : Machine) (n : ℕ) (all : List Sent) → Grows all (with_devices_closed D m n all)
grows_devices D m zero all = grows_none all
grows_devices D m (suc d) all =
    grows_then all (with_devices_closed D m d all) (with_devices_closed D m (suc d) all) (grows_devices D m d all)
    (grows_device D d (device_of m d) (with_devices_closed D m d all))

pub grows_closed : (D : Desc) (m : Machine) (all : List Sent) → Grows all (with_all_closed D m all)
grows_closed D m all =
    grows_then all (push 0 (Config (shape_digest D 0)) all) (with_all_closed D m all) (grows_push 0 (Config (shape_digest D 0)) all)
    (grows_devices D m (device_count D) (push 0 (Config (shape_digest D 0)) all))

-- what passes sent is part of all that is sent
pub grows_sent : (D : Desc) (past : List Entry) → Grows (sent_in_passes D past) (sent D past)
grows_sent D past =
    elim (is_last_begun past && is_no_pass_open D past) as
    (λ b. Grows (sent_in_passes D past) (if b then with_all_closed D (joint_machine D past) (sent_in_passes D past) else sent_in_passes D past)) [
      | true ↦ grows_closed D (joint_machine D past) (sent_in_passes D past)
      | false ↦ grows_none (sent_in_passes D past)
    ]

-- what is sent on a channel goes on behind what was sent
pub lane_grows : (D : Desc) (k : ℕ) (more all : List Sent)
    → all_bytes (lane_packets D k (more ++ all)) ≡ all_bytes (lane_packets D k all) ++ all_bytes (lane_packets D k more)
lane_grows D k more all =
    ap (λ (xs : List Sent). all_bytes (map (packet_of D) (reverse xs))) (filter-append (λ x. lane_of D x == k) more all)
    ∙ ap (λ (xs : List Sent). all_bytes (map (packet_of D) xs)) (reverse-append (filter (λ x. lane_of D x == k) more) (filter (λ x. lane_of D x == k) all))
    ∙ ap all_bytes (map-append (packet_of D) (reverse (filter (λ x. lane_of D x == k) all)) (reverse (filter (λ x. lane_of D x == k) more)))
    ∙ flat_map-append packet_bytes (map (packet_of D) (reverse (filter (λ x. lane_of D x == k) all))) (map (packet_of D) (reverse (filter (λ x. lane_of D x == k) more)))
