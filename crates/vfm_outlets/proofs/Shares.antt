-- One record more in the shares of the channels.
use Rattle.std.proofs.Common.{◌≡◌, ◌∙◌, refl, sym, ap, ap₂, subst, ℕ, zero, suc, ◌+◌, ◌<◌, ◌≤◌, ◌==◌, true, false, if◌then◌else◌, Option, None, List, [], ◌∷◌, ◌++◌, length, slice_index_or, slice_set, arith, append-nil, eqb-true, eq-eqb}
use Rattle.std.proofs.lemmas.Bool.{ne_eqb, false≢true}
use Rattle.std.proofs.lemmas.List.{get_or-set_same, get_or-set_other}
use Rattle.vfm_types.specs.declared.desc.Desc.{Desc}
use Rattle.vfm_outside.specs.Told.{with_appended, with_appended-with_appended}
use Rattle.vfm_packet.specs.Packet.{packet_bytes}
use Rattle.vfm_packet.specs.Channel.{all_bytes}
use Rattle.vfm_record.specs.Record.{Record}
use Rattle.vfm_streams.specs.Sent.{Sent, records_of, push}
use Rattle.vfm_streams.specs.Packets.{packet_of, lane_of}
use Rattle.vfm_streams.proofs.LanesJoin.{lane_same, lane_other}
use Rattle.vfm_streams.proofs.Grown.{lane_grows}
use Rattle.std.proofs.lemmas.List.{length-map}
use Rattle.vfm_packet.specs.Packet.{Packet}
use Rattle.vfm_record.specs.Packing.{record_packet}
use Rattle.vfm_send.specs.Lanes.{lane}
use Rattle.vfm_send.specs.Sends.{given, SentPrefix}
use Rattle.vfm_streams.specs.Packets.{kind_of}
use Rattle.vfm_outlets.specs.declared.outlets.Outlets.{Outlets}
use Rattle.vfm_outlets.specs.Carrying.{Carries, all_given, links_of, share_of, with_shares}
use Rattle.vfm_outlets.proofs.Prefixes.{prefix_longer}

-- a record on channel k, and one on another
share_with : (D : Desc) (x : Sent) (all : List Sent) (k : ℕ) → lane_of D x ≡ k → share_of D (x ∷ all) k ≡ share_of D all k ++ packet_bytes (packet_of D x)
share_with D x all k on =
    let same : (lane_of D x == k) ≡ true = ap (λ (n : ℕ). n == k) on ∙ eq-eqb k k refl in
    lane_grows D k (x ∷ []) all
    ∙ ap (λ (bytes : List ℕ). share_of D all k ++ bytes)
    (ap all_bytes (lane_same D k x [] same) ∙ append-nil (packet_bytes (packet_of D x)))

share_without : (D : Desc) (x : Sent) (all : List Sent) (k : ℕ) → (lane_of D x == k) ≡ false → share_of D (x ∷ all) k ≡ share_of D all k
share_without D x all k other = ap all_bytes (lane_other D k x all other)

-- channels above the record's are as they were
shares_above : (D : Desc) (x : Sent) (all : List Sent) (k : ℕ) (starts : List (Option (List ℕ))) → lane_of D x < k
    → with_shares D (x ∷ all) k starts ≡ with_shares D all k starts
shares_above D x all k [] below = refl
shares_above D x all k (start ∷ starts) below =
    ap₂ (λ (bytes : List ℕ) (rest : List (Option (List ℕ))). with_appended start bytes ∷ rest)
    (share_without D x all k (ne_eqb (lane_of D x) k (λ same. omega (arith, below, same))))
    (shares_above D x all (k + 1) starts (omega (arith, below)))

-- a record is given to its channel, after what that was given before
pub shares_more : (D : Desc) (x : Sent) (all : List Sent) (k n : ℕ) (starts : List (Option (List ℕ))) → lane_of D x ≡ k + n → n < length starts
    → with_shares D (x ∷ all) k starts
    ≡ slice_set (with_shares D all k starts) n
    (with_appended (slice_index_or (with_shares D all k starts) n None) (packet_bytes (packet_of D x)))
shares_more D x all k n [] on inside = absurd (omega (arith, inside))
shares_more D x all k zero (start ∷ starts) on inside =
    ap₂ (λ (o : Option (List ℕ)) (rest : List (Option (List ℕ))). o ∷ rest)
    (ap (with_appended start) (share_with D x all k (on ∙ omega arith))
    ∙ sym (with_appended-with_appended start (share_of D all k) (packet_bytes (packet_of D x))))
    (shares_above D x all (k + 1) starts (omega (arith, on)))
shares_more D x all k (suc n) (start ∷ starts) on inside =
    ap₂ (λ (bytes : List ℕ) (rest : List (Option (List ℕ))). with_appended start bytes ∷ rest)
    (share_without D x all k (ne_eqb (lane_of D x) k (λ same. omega (arith, on, same))))
    (shares_more D x all (k + 1) n starts (on ∙ omega arith) (omega (arith, inside)))

pub length_shares : (D : Desc) (all : List Sent) (k : ℕ) (starts : List (Option (List ℕ))) → length (with_shares D all k starts) ≡ length starts
length_shares D all k [] = refl
length_shares D all k (start ∷ starts) = ap (λ (n : ℕ). suc n) (length_shares D all (k + 1) starts)

-- the counts of the streams with one record more
pub counts_more : (stream : ℕ) (r : Record) (all : List Sent) (counts : List ℕ) → length counts ≡ 9 → stream ≤ 8
    → ((s : ℕ) → s ≤ 8 → slice_index_or counts s 0 ≡ length (records_of s all)) → (s : ℕ) → s ≤ 8
    → slice_index_or (slice_set counts stream (slice_index_or counts stream 0 + 1)) s 0 ≡ length (records_of s (push stream r all))
counts_more stream r all counts size few each s within =
    elim (stream == s) as
    (λ b. (stream == s) ≡ b → slice_index_or (slice_set counts stream (slice_index_or counts stream 0 + 1)) s 0
    ≡ length (if b then r ∷ records_of s all else records_of s all)) [
      | true ↦ (λ same. let e : stream ≡ s = eqb-true stream s same in
          ap (λ (k : ℕ). slice_index_or (slice_set counts stream (slice_index_or counts stream 0 + 1)) k 0) (sym e)
          ∙ get_or-set_same counts stream (slice_index_or counts stream 0 + 1) 0 (omega (arith, size, few))
          ∙ ap (λ (n : ℕ). n + 1) (each stream few ∙ ap (λ (k : ℕ). length (records_of k all)) e)
          ∙ omega arith)
      | false ↦ (λ other. get_or-set_other counts stream s (slice_index_or counts stream 0 + 1) 0 (λ e. other_than stream s other e)
          ∙ each s within)
    ] refl
  where
    other_than : (a b : ℕ) → (a == b) ≡ false → b ≡ a → ⊥
    other_than a b other e = false≢true (sym other ∙ eq-eqb a b (sym e))

-- the packet of the next record of a stream
abbrev pub next_packet : {L : Type 0} → Outlets L → ℕ → Record → Packet
next_packet outlets stream r =
    record_packet (record {
      version = outlets.version;
      kind = kind_of r;
      session = outlets.session;
      stream = stream;
      index = slice_index_or outlets.counts stream 0;
      length = 0;
    }) r

-- where that is given to its channel, the channels carry one record more
pub carries_more : {L : Type 0} (sent : L → Option (List ℕ)) (D : Desc) (starts : List (Option (List ℕ))) (all : List Sent)
    (old new : Outlets L) (stream : ℕ) (r : Record) (k : ℕ)
    → Carries sent D starts all old → stream ≤ 8 → length old.counts ≡ 9
    → k ≡ lane stream (slice_index_or old.counts stream 0) (length old.senders.items) → k < length old.senders.items
    → all_given sent new
    ≡ slice_set (all_given sent old) k (with_appended (slice_index_or (all_given sent old) k None) (packet_bytes (next_packet old stream r)))
    → length new.senders.items ≡ length old.senders.items → links_of new ≡ links_of old
    → new.version ≡ old.version → new.session ≡ old.session
    → new.counts ≡ slice_set old.counts stream (slice_index_or old.counts stream 0 + 1)
    → Carries sent D starts (push stream r all) new
carries_more {L} sent D starts all old new stream r k carried few size on inside put same links version session counted =
    let x : Sent = record { stream = stream; index = length (records_of stream all); says = r } in
    let index : slice_index_or old.counts stream 0 ≡ length (records_of stream all) = carried.counts stream few in
    let packet : next_packet old stream r ≡ packet_of D x =
    ap₂ (λ (v s : ℕ). record_packet (record { version = v; kind = kind_of r; session = s; stream = stream; index = slice_index_or old.counts stream 0; length = 0 }) r)
    carried.version carried.session
    ∙ ap (λ (i : ℕ). record_packet (record { version = D.version; kind = kind_of r; session = D.session; stream = stream; index = i; length = 0 }) r) index in
    let on_lane : lane_of D x ≡ k = sym (on ∙ ap₂ (λ (i n : ℕ). lane stream i n) index carried.channels) in
    let many : length starts ≡ length old.senders.items =
    sym (length_shares D all 0 starts) ∙ ap length (sym carried.given) ∙ length-map old.senders.items (given sent) in
    record {
      channels = same ∙ carried.channels;
      version = version ∙ carried.version;
      session = session ∙ carried.session;
      given =
          put
          ∙ ap₂ (λ (gs : List (Option (List ℕ))) (p : Packet). slice_set gs k (with_appended (slice_index_or gs k None) (packet_bytes p)))
          carried.given packet
          ∙ sym (shares_more D x all 0 k starts (on_lane ∙ omega arith) (omega (arith, inside, many)));
      begun = λ j link within.
          subst (λ (ls : List L). SentPrefix (slice_index_or starts j None) (sent (slice_index_or ls j link)) (share_of D (x ∷ all) j)) (sym links)
          (subst (λ (bytes : List ℕ). SentPrefix (slice_index_or starts j None) (sent (slice_index_or (links_of old) j link)) bytes)
          (sym (lane_grows D j (x ∷ []) all))
          (prefix_longer (slice_index_or starts j None) (sent (slice_index_or (links_of old) j link)) (share_of D all j) (share_of D (x ∷ []) j)
          (carried.begun j link within)));
      counts = λ s within. ap (λ (cs : List ℕ). slice_index_or cs s 0) counted ∙ counts_more stream r all old.counts size few carried.counts s within;
    }
