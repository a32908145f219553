-- What each channel carries is a sound channel, so all of them together are judged to be the machine at the joint stop.
use Rattle.std.proofs.Common.{◌≡◌, ℕ, zero, suc, ◌+◌, ◌^◌, ◌<◌, ◌≤◌, ◌==◌, ◌&&◌, true, if◌then◌else◌, nat_lt, List, [], ◌∷◌, ◌++◌, length, map, None, refl, ap, sym, ◌∙◌, subst, arith, ltb-true, eq-eqb}
use Rattle.std.specs.List.{AllByRecursion, range_with_len}
use Rattle.std.proofs.lemmas.Bool.{and_parts, cond-true, false≢true}
use Rattle.std.proofs.lemmas.List.{append-nil}
use Rattle.vfm_types.specs.declared.desc.Desc.{Desc}
use Rattle.vfm_types.specs.declared.entry.Entry.{Entry}
use Rattle.vfm_types.specs.declared.entry.Entry.TheVariants.{Copy as CopyOf, Block as BlockOf}
use Rattle.vfm_types.specs.Desc.{device_count, shape_at, block_count}
use Rattle.vfm_types.specs.Machine.{Machine, device_of}
use Rattle.vfm_types.specs.Deliveries.{joint_machine}
use Rattle.vfm_types.specs.Phases.{is_last_begun}
use Rattle.vfm_types.specs.Blocks.{is_no_pass_open}
use Rattle.vfm_types.specs.Valid.{IsValid}
use Rattle.vfm_plain.specs.Legal.{IsLegal}
use Rattle.vfm_laws.proofs.Rising.{by_bool}
use Rattle.vfm_packet.specs.declared.answer.Expect.{Expect}
use Rattle.vfm_packet.specs.Header.{IsVersion, carries}
use Rattle.vfm_packet.specs.Packet.{Packet, packet_bytes, IsSoundPacket}
use Rattle.vfm_packet.specs.Channel.{channel_limit, IsCarried, IsSoundChannel}
use Rattle.vfm_packet.specs.Reading.{reading_within}
use Rattle.vfm_packet.proofs.Readings.{sound_reads}
use Rattle.vfm_record.specs.Record.{Record, Page, Block, Engine, Pending, Config, IsRecordOf}
use Rattle.vfm_record.specs.Packing.{end_of}
use Rattle.vfm_record.specs.Shape.{shape_digest}
use Rattle.vfm_record.proofs.Again.{within_payload}
use Rattle.vfm_record.proofs.Writable.{page_limit}
use Rattle.vfm_streams.specs.Sent.{Sent, sent, records_of, push, push_all, pending_records, engine_record, with_devices_closed, with_all_closed, sent_in_passes}
use Rattle.vfm_streams.specs.Packets.{kind_of, packet_of, lane_of, lane_packets, ended_share}
use Rattle.vfm_streams.specs.Judged.{AllFit}
use Rattle.vfm_streams.specs.Brought.{BringsSent, lane_reading}
use Rattle.vfm_streams.specs.Verdict.{Loads, Expects, refused_channel, brought, verdict_on, verdict}
use Rattle.vfm_streams.proofs.LanesJoin.{lane_same, lane_other}
use Rattle.vfm_stream_laws.proofs.FitClosed.{all_fit}
use Rattle.vfm_stream_laws.proofs.JointVerdict.{brought_verdict, own_verdict}
use Rattle.vfm_stream_laws.proofs.HowMuch.{few_indexes, short_share}

-- ---- streams are those of memory and of devices

AllLow : ℕ → List Sent → Type 0
AllLow n all = AllByRecursion (λ x. x.stream ≤ n) all

low_push_all : (n s : ℕ) (records : List Record) (all : List Sent) → s ≤ n → AllLow n all → AllLow n (push_all s records all)
unfolding AllLow
low_push_all n s [] all inside low = low
low_push_all n s (r ∷ records) all inside low = low_push_all n s records (push s r all) inside (inside, low)

low_devices : (D : Desc) (m : Machine) (n k : ℕ) (all : List Sent) → k ≤ n → AllLow n all → AllLow n (with_devices_closed D m k all)
unfolding AllLow
low_devices D m n zero all inside low = low
low_devices D m n (suc d) all inside low =
    let before = low_devices D m n d all (omega arith) low in
    let device = device_of m d in
    (omega arith, low_push_all n (suc d) (pending_records device.pending) (push (suc d) (engine_record device) (with_devices_closed D m d all)) (omega arith) (omega arith, before))

low_passes : (D : Desc) (past : List Entry) → IsLegal D past → AllLow (device_count D) (sent_in_passes D past)
unfolding AllLow
low_passes D [] legal = tt
low_passes D (CopyOf p ∷ past) legal = (omega arith, low_passes D past legal.2)
low_passes D (BlockOf d b ∷ past) legal =
    let inside : d < device_count D = ltb-true d (device_count D) (and_parts (nat_lt d (device_count D)) (nat_lt b (block_count (shape_at D d))) legal.0).0 in
    (omega arith, low_passes D past legal.2)
low_passes D (entry ∷ past) legal = low_passes D past legal.2

low_sent : (D : Desc) (past : List Entry) → IsLegal D past → AllByRecursion (λ x. x.stream ≤ device_count D) (sent D past)
unfolding AllLow
low_sent D past legal =
    by_bool (is_last_begun past && is_no_pass_open D past)
    (λ b. AllByRecursion (λ x. x.stream ≤ device_count D) (if b then with_all_closed D (joint_machine D past) (sent_in_passes D past) else sent_in_passes D past))
    (λ ended. low_devices D (joint_machine D past) (device_count D) (device_count D) (push 0 (Config (shape_digest D 0)) (sent_in_passes D past)) (omega arith)
    (omega arith, low_passes D past legal))
    (λ open_. low_passes D past legal)

-- ---- each record is one of its stream

of_fit : (D : Desc) (s : ℕ) (records : List Record) → AllFit D s records → AllByRecursion (IsRecordOf D s) records
of_fit D s [] fit = tt
of_fit D s (r ∷ older) fit = (fit.0, of_fit D s older fit.2)

each_of : (D : Desc) (n : ℕ) (all : List Sent) → AllByRecursion (λ x. x.stream ≤ n) all
    → ((s : ℕ) → s ≤ n → AllByRecursion (IsRecordOf D s) (records_of s all)) → AllByRecursion (λ x. IsRecordOf D x.stream x.says) all
each_of D n [] low of = tt
each_of D n (x ∷ all) low of =
    let here = subst (AllByRecursion (IsRecordOf D x.stream))
    (cond-true (x.stream == x.stream) (x.says ∷ records_of x.stream all) (records_of x.stream all) (eq-eqb x.stream x.stream refl)) (of x.stream low.0) in
    (here.0, each_of D n all low.1 rest)
  where
    rest : (s : ℕ) → s ≤ n → AllByRecursion (IsRecordOf D s) (records_of s all)
    rest s inside =
        by_bool (x.stream == s)
        (λ b. AllByRecursion (IsRecordOf D s) (if b then x.says ∷ records_of s all else records_of s all) → AllByRecursion (IsRecordOf D s) (records_of s all))
        (λ same h. h.1) (λ other h. h) (of s inside)

-- ---- and its packet is sound

kind_carries : (r : Record) → carries (kind_of r) ≡ true
kind_carries (Page p bytes) = refl
kind_carries (Block b bytes) = refl
kind_carries (Engine accepted done lost pend buf) = refl
kind_carries (Pending pairs) = refl
kind_carries (Config digest) = refl

packet_carried : (D : Desc) (e : Expect) (x : Sent) → IsValid D → Expects D e → IsRecordOf D x.stream x.says → x.stream ≤ device_count D → x.index < 83065
    → IsCarried e (packet_of D x)
packet_carried D e x valid expects is low few =
    let size = within_payload D x.stream x.says is (page_limit D.page valid.in_range.page) in
    let devices : device_count D ≤ 8 = valid.in_range.count_high in
    let streams : e.streams ≡ device_count D + 1 = expects.streams in
    record {
      sound = record {
        head = record {
          header = record {
            version = subst IsVersion expects.version e.known;
            session = valid.in_range.session;
            stream = omega arith;
            index = omega arith;
            shape = rw (kind_carries x.says) (size.0, size.1);
          };
          version = sym expects.version;
          session = sym expects.session;
          stream = λ _. omega arith;
        };
        len = refl;
      };
      carries = kind_carries x.says;
    }

carried_both : (e : Expect) (first : List Packet) (p : Packet) → AllByRecursion (IsCarried e) first → IsCarried e p → AllByRecursion (IsCarried e) (first ++ p ∷ [])
carried_both e [] p all here = (here, tt)
carried_both e (q ∷ first) p all here = (all.0, carried_both e first p all.1 here)

lane_carried : (D : Desc) (e : Expect) (k : ℕ) (all : List Sent) → IsValid D → Expects D e → AllByRecursion (λ x. IsRecordOf D x.stream x.says) all
    → AllByRecursion (λ x. x.stream ≤ device_count D) all → AllByRecursion (λ x. x.index < 83065) all → AllByRecursion (IsCarried e) (lane_packets D k all)
lane_carried D e k [] valid expects of low few = tt
lane_carried D e k (x ∷ all) valid expects of low few =
    let before = lane_carried D e k all valid expects of.1 low.1 few.1 in
    by_bool (lane_of D x == k) (λ b. (lane_of D x == k) ≡ b → AllByRecursion (IsCarried e) (lane_packets D k (x ∷ all)))
    (λ same h. subst (AllByRecursion (IsCarried e)) (sym (lane_same D k x all h))
    (carried_both e (lane_packets D k all) (packet_of D x) before (packet_carried D e x valid expects of.0 low.0 few.0)))
    (λ other h. subst (AllByRecursion (IsCarried e)) (sym (lane_other D k x all h)) before) refl

pub end_sound : (D : Desc) (e : Expect) → IsValid D → Expects D e → IsSoundPacket e (end_of D.version D.session)
end_sound D e valid expects =
    record {
      head = record {
        header = record {
          version = subst IsVersion expects.version e.known;
          session = valid.in_range.session;
          stream = omega arith;
          index = omega arith;
          shape = (refl, refl, refl);
        };
        version = sym expects.version;
        session = sym expects.session;
        stream = λ never. absurd (false≢true never);
      };
      len = refl;
    }

-- a channel with its end is sound
pub sound_share : (D : Desc) (past : List Entry) (e : Expect) (k : ℕ) → IsValid D → IsLegal D past → Expects D e
    → IsSoundChannel e (ended_share D past k) (lane_packets D k (sent D past))
sound_share D past e k valid legal expects =
    let low = low_sent D past legal in
    let of = each_of D (device_count D) (sent D past) low (λ s inside. of_fit D s (records_of s (sent D past)) (all_fit D past s valid legal inside)) in
    record {
      rest = packet_bytes (end_of D.version D.session);
      each = lane_carried D e k (sent D past) valid expects of low (few_indexes D past valid legal);
      encoded = refl;
      ends = record {
        packet = end_of D.version D.session;
        sound = end_sound D e valid expects;
        of_kind = refl;
        encoded = sym (append-nil (packet_bytes (end_of D.version D.session)));
      };
    }

within_limit : (n : ℕ) → n < 53000000 → n ≤ channel_limit
unfolding channel_limit
within_limit n short = omega arith

pub share_reads : (D : Desc) (past : List Entry) (e : Expect) (k : ℕ) → IsValid D → IsLegal D past → Expects D e
    → reading_within channel_limit e (ended_share D past k) ≡ lane_reading D (sent D past) k
share_reads D past e k valid legal expects =
    sound_reads channel_limit e (ended_share D past k) (lane_packets D k (sent D past)) (sound_share D past e k valid legal expects)
    (within_limit (length (ended_share D past k)) (short_share D past k valid legal))

all_read : (D : Desc) (past : List Entry) (e : Expect) (from n : ℕ) → ((k : ℕ) → reading_within channel_limit e (ended_share D past k) ≡ lane_reading D (sent D past) k)
    → map (reading_within channel_limit e) (map (ended_share D past) (range_with_len from n)) ≡ map (lane_reading D (sent D past)) (range_with_len from n)
all_read D past e from zero each = refl
all_read D past e from (suc n) each = rw (each from, all_read D past e (from + 1) n each) refl

-- the verdict on all channels
pub shares_verdict : (D : Desc) (past : List Entry) (e : Expect) → IsValid D → IsLegal D past → is_last_begun past ≡ true → is_no_pass_open D past ≡ true
    → Expects D e → verdict D e (map (ended_share D past) (range_with_len 0 D.channels)) ≡ Loads (joint_machine D past)
shares_verdict D past e valid legal last ended expects =
    ap (verdict_on D channel_limit) (all_read D past e 0 D.channels (λ k. share_reads D past e k valid legal expects))
    ∙ own_verdict D past channel_limit valid legal last ended

-- the verdict on bytes that bring what was sent
pub bytes_verdict : (D : Desc) (past : List Entry) (e : Expect) (channels : List (List ℕ)) → IsValid D → IsLegal D past
    → is_last_begun past ≡ true → is_no_pass_open D past ≡ true → refused_channel channel_limit 0 (map (reading_within channel_limit e) channels) ≡ None
    → BringsSent D (sent D past) (brought (map (reading_within channel_limit e) channels)) → verdict D e channels ≡ Loads (joint_machine D past)
bytes_verdict D past e channels valid legal last ended unrefused brings =
    brought_verdict D past channel_limit (map (reading_within channel_limit e) channels) valid legal last ended unrefused brings

pub streams_low : (D : Desc) (past : List Entry) → IsLegal D past → AllByRecursion (λ x. x.stream ≤ device_count D) (sent D past)
streams_low D past legal = low_sent D past legal

wider : (all : List Sent) → AllByRecursion (λ x. x.index < 83065) all → AllByRecursion (λ x. x.index < 2 ^ 32) all
wider [] few = tt
wider (x ∷ all) few = let low : x.index < 83065 = few.0 in (omega arith, wider all few.1)

pub indexes_fit : (D : Desc) (past : List Entry) → IsValid D → IsLegal D past → AllByRecursion (λ x. x.index < 2 ^ 32) (sent D past)
indexes_fit D past valid legal = wider (sent D past) (few_indexes D past valid legal)

pub share_within : (D : Desc) (past : List Entry) (k : ℕ) → IsValid D → IsLegal D past → length (ended_share D past k) ≤ channel_limit
share_within D past k valid legal = within_limit (length (ended_share D past k)) (short_share D past k valid legal)
