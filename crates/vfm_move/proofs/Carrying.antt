-- Links that carry all that is sent: those that bring it as it was sent, and those from which nothing was read.
use Rattle.std.proofs.Common.{◌≡◌, ℕ, ◌<◌, true, List, [], ◌∷◌, ◌++◌, drop, length, slice_get, slice_index_or, Option, Some, None, IfSome, option_map, refl, sym, ap, ◌∙◌, subst, inl, append-nil}
use Rattle.std.specs.Prelude.{All}
use Rattle.std.specs.List.{flat_map}
use Rattle.std.specs.List.Sorted.{IsPermutation}
use Rattle.std.proofs.lemmas.Bool.{true≢false}
use Rattle.std.proofs.lemmas.List.{drop_at}
use Rattle.std.proofs.lemmas.List.Elements.{All-head, All-tail}
use Rattle.std.proofs.lemmas.List.Folds.{flat_map-map}
use Rattle.std.proofs.lemmas.List.Sorted.{IsPermutation-refl}
use Rattle.std.proofs.lemmas.Option.{same_Some, slice_get-get_or, slice_get-map}
use Rattle.vfm_types.specs.declared.desc.Desc.{Desc}
use Rattle.vfm_types.specs.declared.entry.Entry.{Entry}
use Rattle.vfm_types.specs.Valid.{IsValid}
use Rattle.vfm_plain.specs.Legal.{IsLegal}
use Rattle.vfm_plain.specs.Report.{Made, source_past}
use Rattle.vfm_packet.specs.Packet.{Packet, packet_bytes}
use Rattle.vfm_packet.specs.Channel.{all_bytes, channel_limit}
use Rattle.vfm_packet.specs.Answer.{decoded}
use Rattle.vfm_packet.specs.Reading.{Reading, reading_of}
use Rattle.vfm_streams.specs.Sent.{sent}
use Rattle.vfm_streams.specs.Packets.{ended_share, lane_packets, share}
use Rattle.vfm_stream_laws.proofs.SoundChannels.{end_sound, share_reads, sound_share}
use Rattle.vfm_move.specs.Contact.{Line, Lines}
use Rattle.vfm_move.specs.Table.{Whole}
use Rattle.vfm_move.specs.Carried.{ChannelsCarry, IsFront, ended_due, expected}
use Rattle.vfm_move.specs.Complete.{BeginsSoundly, CarryAll, Delivers, HasEnd, end_packet, packets_in, packets_received, packets_sent, piece_in}
use Rattle.vfm_move.specs.Undisturbed.{AreUnread, CameAsSent, IsUnread}
use Rattle.vfm_move.proofs.Cases.{all_is_front, nothing_is_front, unread}
use Rattle.vfm_move.proofs.Undisturbed.{expects}

-- ---- as it was sent

-- the bytes of a whole channel
share_begins : (D : Desc) (past : List Entry) (k : ℕ) → IsValid D → IsLegal D past
    → BeginsSoundly D (ended_share D past k)
share_begins D past k valid legal =
    record {
      whole = ended_share D past k;
      packets = lane_packets D k (sent D past);
      sound = sound_share D past (expected D) k valid legal (expects D valid);
      front = all_is_front (ended_share D past k);
    }

-- it is its packets
pub share_packets : (made : Made) (k : ℕ) → IsValid made.desc → IsLegal made.desc (source_past made)
    → packets_in made.desc (ended_due made k) ≡ lane_packets made.desc k (sent made.desc (source_past made))
share_packets made k valid legal =
    ap (λ (r : Reading). r.packets)
    (share_reads made.desc (source_past made) (expected made.desc) k valid legal (expects made.desc valid))

-- what stands behind its packets is the one that ends it
share_ends : (D : Desc) (past : List Entry) (k : ℕ) → IsValid D → IsLegal D past
    → piece_in D (ended_share D past k) ≡ packet_bytes (end_packet D)
share_ends D past k valid legal =
    ap (λ (r : Reading). drop (length (all_bytes r.packets)) (ended_share D past k))
    (share_reads D past (expected D) k valid legal (expects D valid))
    ∙ drop_at (share D past k) (packet_bytes (end_packet D)) (length (share D past k)) refl

pub sent_ends : (made : Made) (k : ℕ) → IsValid made.desc → IsLegal made.desc (source_past made)
    → piece_in made.desc (ended_due made k) ≡ packet_bytes (end_packet made.desc)
sent_ends made k valid legal = share_ends made.desc (source_past made) k valid legal

-- what a channel of the destination received is what the same channel of the source is to send
came_share : (made : Made) (lines : Lines) → ChannelsCarry Whole made lines → CameAsSent lines → (k : ℕ) (d : Line)
    → k < length lines.dest
    → (slice_index_or lines.dest k d).received ≡ ended_due made k
came_share made lines carry came k d inside = by_source (slice_get lines.source k) refl (carry k)
  where
    received_at : option_map (λ (l : Line). l.received) (slice_get lines.dest k)
        ≡ Some (slice_index_or lines.dest k d).received
    received_at = ap (option_map (λ (l : Line). l.received)) (slice_get-get_or lines.dest k d inside)

    sent_at : option_map (λ (l : Line). l.received) (slice_get lines.dest k)
        ≡ option_map (λ (l : Line). l.sent) (slice_get lines.source k)
    sent_at =
        sym (slice_get-map (λ (l : Line). l.received) lines.dest k)
        ∙ ap (λ (bytes : List (List ℕ)). slice_get bytes k) came.channels
        ∙ slice_get-map (λ (l : Line). l.sent) lines.source k

    by_source : (o : Option Line) → slice_get lines.source k ≡ o → IfSome o (λ line. line.sent ≡ ended_due made k)
        → (slice_index_or lines.dest k d).received ≡ ended_due made k
    by_source None is has =
        let none : Some (slice_index_or lines.dest k d).received ≡ None =
        sym received_at ∙ sent_at ∙ ap (option_map (λ (l : Line). l.sent)) is in
        absurd cc
    by_source (Some line) is has =
        let same : Some (slice_index_or lines.dest k d).received ≡ Some line.sent =
        sym received_at ∙ sent_at ∙ ap (option_map (λ (l : Line). l.sent)) is in
        same_Some (slice_index_or lines.dest k d).received line.sent same ∙ has

same_packets : (D : Desc) (lines : Lines) → CameAsSent lines → packets_received D lines ≡ packets_sent D lines
same_packets D lines came =
    sym (flat_map-map (packets_in D) (λ (l : Line). l.received) lines.dest) ∙ ap (flat_map (packets_in D)) came.channels
    ∙ flat_map-map (packets_in D) (λ (l : Line). l.sent) lines.source

delivers_all : (sender receiver : Line) → receiver.received ≡ sender.sent → Delivers sender receiver
delivers_all sender receiver same =
    record {
      front = subst (λ (bytes : List ℕ). IsFront bytes sender.sent) (sym same) (all_is_front sender.sent);
      all = λ ended. same;
    }

pub as_sent : (made : Made) (lines : Lines) → IsValid made.desc → IsLegal made.desc (source_past made)
    → ChannelsCarry Whole made lines
    → CameAsSent lines → CarryAll made.desc lines
as_sent made lines valid legal carry came =
    record {
      sound = λ k d inside.
          subst (BeginsSoundly made.desc) (sym (came_share made lines carry came k d inside))
          (share_begins made.desc (source_past made) k valid legal);
      missing = [];
      among =
          subst (λ (l : List Packet). IsPermutation l (packets_sent made.desc lines))
          (sym (append-nil (packets_received made.desc lines) ∙ same_packets made.desc lines came))
          (IsPermutation-refl (packets_sent made.desc lines));
      pieces = λ k d inside.
          inl (subst (λ (bytes : List ℕ). IsFront bytes (packet_bytes (end_packet made.desc))) (sym (ends k d inside))
          (all_is_front (packet_bytes (end_packet made.desc))));
      ends = λ k d inside ended. ends k d inside;
      all = λ ended. refl;
      answer = delivers_all lines.dest_control lines.source_control came.answer;
      go = delivers_all lines.source_control lines.dest_control came.go;
    }
  where
    ends : (k : ℕ) (d : Line) → k < length lines.dest → HasEnd made.desc (slice_index_or lines.dest k d)
    ends k d inside =
        ap (piece_in made.desc) (came_share made lines carry came k d inside)
        ∙ share_ends made.desc (source_past made) k valid legal

-- ---- unread

-- nothing begins soundly
nothing_begins : (D : Desc) → IsValid D → BeginsSoundly D []
nothing_begins D valid =
    record {
      whole = packet_bytes (end_packet D);
      packets = [];
      sound = record {
        rest = packet_bytes (end_packet D);
        each = tt;
        encoded = refl;
        ends = record {
          packet = end_packet D;
          sound = end_sound D (expected D) valid (expects D valid);
          of_kind = refl;
          encoded = sym (append-nil (packet_bytes (end_packet D)));
        };
      };
      front = nothing_is_front (packet_bytes (end_packet D));
    }

-- no packet is in it, and nothing is behind those
no_packets : (D : Desc) → packets_in D [] ≡ []
unfolding reading_of decoded channel_limit
no_packets D = refl

no_piece : (D : Desc) → piece_in D [] ≡ []
no_piece D = ap (λ (packets : List Packet). drop (length (all_bytes packets)) []) (no_packets D)

none_received : (D : Desc) (lines : List Line) → All IsUnread lines
    → flat_map (λ line. packets_in D line.received) lines ≡ []
none_received D [] each = refl
none_received D (line ∷ lines) each =
    ap (λ (bytes : List ℕ). packets_in D bytes ++ flat_map (λ l. packets_in D l.received) lines)
    (All-head IsUnread line lines each).received
    ∙ ap (λ (packets : List Packet). packets ++ flat_map (λ l. packets_in D l.received) lines) (no_packets D)
    ∙ none_received D lines (All-tail IsUnread line lines each)

pub unread_carry : (D : Desc) (lines : Lines) → IsValid D → AreUnread lines → CarryAll D lines
unread_carry D lines valid are =
    record {
      sound = λ k d inside. subst (BeginsSoundly D) (sym (are.channels k d inside).received) (nothing_begins D valid);
      missing = packets_sent D lines;
      among =
          subst (λ (l : List Packet). IsPermutation (l ++ packets_sent D lines) (packets_sent D lines))
          (sym (none_received D lines.dest are.channels))
          (IsPermutation-refl (packets_sent D lines));
      pieces = λ k d inside.
          inl (subst (λ (bytes : List ℕ). IsFront bytes (packet_bytes (end_packet D)))
          (sym (ap (piece_in D) (are.channels k d inside).received ∙ no_piece D))
          (nothing_is_front (packet_bytes (end_packet D))));
      ends = λ k d inside ended. absurd (true≢false (sym ended ∙ (are.channels k d inside).ended));
      all = λ ended. absurd (no_first (ended 0) (are.channels 0));
      answer = unread lines.dest_control lines.source_control are.answer.received are.answer.ended;
      go = unread lines.source_control lines.dest_control are.go.received are.go.ended;
    }
  where
    no_first : ((d : Line) → 0 < length lines.dest → (slice_index_or lines.dest 0 d).ended ≡ true)
        → ((d : Line) → 0 < length lines.dest → IsUnread (slice_index_or lines.dest 0 d)) → ⊥
    no_first ended unread_ =
        true≢false (sym (ended lines.source_control are.some) ∙ (unread_ lines.source_control are.some).ended)
