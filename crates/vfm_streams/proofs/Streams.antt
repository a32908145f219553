-- Packets that bring what was sent, each once: each stream whose records stand is whole, and says what was sent.
use Rattle.std.proofs.Common.{◌≡◌, ℕ, suc, ◌+◌, ◌<◌, ◌≤◌, ◌==◌, true, false, if◌then◌else◌, List, [], ◌∷◌, length, map, reverse, get_or, None, refl, ap, sym, ◌∙◌, subst, arith, ⊎_elim, eqb-true}
use Rattle.std.specs.List.{AllByRecursion}
use Rattle.std.proofs.lemmas.List.{length-map, length-reverse, get_or_append_left, get_or_push}
use Rattle.std.proofs.lemmas.List.FromFn.{fill_by_all}
use Rattle.std.proofs.lemmas.Grind.{reverse_onto}
use Rattle.std.proofs.lemmas.Bool.{cases_lt}
use Rattle.std.proofs.lemmas.List.{get_or-map}
use Rattle.vfm_types.specs.declared.desc.Desc.{Desc}
use Rattle.vfm_packet.specs.Packet.{Packet}
use Rattle.vfm_record.specs.Record.{Record, Config}
use Rattle.vfm_record.specs.Tests.{record_at}
use Rattle.vfm_streams.specs.Sent.{Sent, IsNumbered, records_of}
use Rattle.vfm_streams.specs.Packets.{kind_of, packet_of}
use Rattle.vfm_streams.specs.Brought.{IsOfSent, BringsSent}
use Rattle.vfm_streams.specs.Whole.{stream_packets, is_config, gap_of, in_order}
use Rattle.vfm_streams.specs.Judged.{bad_record, said}
use Rattle.vfm_streams.proofs.Numbered.{by_bool, sent_of, in_turn, records_are, count_is, times_below, times_above, turn_of}
use Rattle.vfm_streams.proofs.Gaps.{Only, IsWhole, no_gap, ordered}
use Rattle.vfm_streams.proofs.Standing.{AllStand, says_of, none_bad, said_back}

-- the records of a stream, of which the newest alone is a digest
pub record IsClosed (D : Desc) (s : ℕ) (records : List Record) : Type 0 where
  pub digest : List ℕ
  pub older : List Record
  pub is : records ≡ Config digest ∷ older
  pub data_ : AllByRecursion (λ r. is_config (kind_of r) ≡ false) older
  pub stand : AllStand D s records

-- packets of an index, among those of a stream
only_of : (D : Desc) (s i : ℕ) (d : Sent) (all : List Sent) (packets : List Packet) → IsNumbered all → AllByRecursion (IsOfSent D all) packets
    → Only i (packet_of D (get_or (in_turn s all) i d)) (stream_packets s packets)
only_of D s i d all [] numbered each = tt
only_of D s i d all (p ∷ packets) numbered each =
    by_bool (p.head.stream == s)
    (λ b. (p.head.stream == s) ≡ b → Only i (packet_of D (get_or (in_turn s all) i d)) (if b then p ∷ stream_packets s packets else stream_packets s packets))
    (λ same e. ((λ index. (turn_of D s i d all p numbered each.0 (eqb-true p.head.stream s e) index).1), only_of D s i d all packets numbered each.1))
    (λ other e. only_of D s i d all packets numbered each.1) refl

-- what holds of each of a list holds at each place of it, reversed
all_at : (P : Sent → Type 0) (xs : List Sent) (i : ℕ) (d : Sent) → AllByRecursion P xs → i < length xs → P (get_or (reverse xs) i d)
all_at P [] i d all inside = absurd (omega arith)
all_at P (x ∷ xs) i d all inside =
    let whole = reverse_onto xs x [] in
    let len : length (reverse xs) ≡ length xs = length-reverse xs in
    ⊎_elim
    (λ (low : i < length (reverse xs)).
    subst P (sym (ap (λ (ys : List Sent). get_or ys i d) whole ∙ get_or_append_left (reverse xs) (x ∷ []) d i low)) (all_at P xs i d all.1 (omega arith)))
    (λ (high : length (reverse xs) ≤ i).
    let there : length (reverse xs) ≡ i = omega arith in
    subst P (sym (ap (λ (ys : List Sent). get_or ys i d) whole ∙ get_or_push (reverse xs) x d i there)) all.0) (cases_lt i (length (reverse xs)))

says_data : (xs : List Sent) → AllByRecursion (λ r. is_config (kind_of r) ≡ false) (says_of xs) → AllByRecursion (λ x. is_config (kind_of x.says) ≡ false) xs
says_data [] all = tt
says_data (x ∷ xs) all = (all.0, says_data xs all.1)

-- the kinds of packets in turn: the last is a config packet
kinds_in_turn : (xs : List Sent) (digest : List ℕ) (older : List Record) (d : Sent) → says_of xs ≡ Config digest ∷ older
    → AllByRecursion (λ r. is_config (kind_of r) ≡ false) older
    → ((i : ℕ) → i + 1 < length xs → is_config (kind_of (get_or (reverse xs) i d).says) ≡ false)
    × ((i : ℕ) → i + 1 ≡ length xs → is_config (kind_of (get_or (reverse xs) i d).says) ≡ true)
kinds_in_turn [] digest older d is data_ = absurd (cc)
kinds_in_turn (x ∷ xs) digest older d is data_ =
    let head : x.says ≡ Config digest = cc in
    let tail : says_of xs ≡ older = cc in
    let whole = reverse_onto xs x [] in
    let len : length (reverse xs) ≡ length xs = length-reverse xs in
    let all = says_data xs (subst (λ (rs : List Record). AllByRecursion (λ r. is_config (kind_of r) ≡ false) rs) (sym tail) data_) in (
      (λ i below.
          subst (λ (y : Sent). is_config (kind_of y.says) ≡ false)
          (sym (ap (λ (ys : List Sent). get_or ys i d) whole ∙ get_or_append_left (reverse xs) (x ∷ []) d i (omega arith)))
          (all_at (λ y. is_config (kind_of y.says) ≡ false) xs i d all (omega arith))),
      (λ i last.
          subst (λ (y : Sent). is_config (kind_of y.says) ≡ true)
          (sym (ap (λ (ys : List Sent). get_or ys i d) whole ∙ get_or_push (reverse xs) x d i (omega arith)))
          (ap (λ (r : Record). is_config (kind_of r)) head)),
    )

-- nothing, where a default is asked for
nowhere : Sent
nowhere = record { stream = 0; index = 0; says = Config [] }

module _ (D : Desc) (s : ℕ) (all : List Sent) (packets : List Packet) (numbered : IsNumbered all) (brings : BringsSent D all packets)
    (closed : IsClosed D s (records_of s all)) where
  abbrev n : ℕ
  n = length (in_turn s all)

  abbrev q : ℕ → Packet
  q i = packet_of D (get_or (in_turn s all) i nowhere)

  count : length (in_turn s all) ≡ length (records_of s all)
  count = count_is s all

  lengths : length (in_turn s all) ≡ length (sent_of s all)
  lengths = length-reverse (sent_of s all)

  kinds : ((i : ℕ) → i + 1 < length (sent_of s all) → is_config (kind_of (get_or (in_turn s all) i nowhere).says) ≡ false)
      × ((i : ℕ) → i + 1 ≡ length (sent_of s all) → is_config (kind_of (get_or (in_turn s all) i nowhere).says) ≡ true)
  kinds = kinds_in_turn (sent_of s all) closed.digest closed.older nowhere (sym (records_are s all) ∙ closed.is) closed.data_

  whole : IsWhole (stream_packets s packets) n q
  whole =
      record {
        some =
            let size : length (records_of s all) ≡ suc (length closed.older) = ap (length {A = Record}) closed.is in
            omega (arith, count, size);
        once = λ i below. brings.once s i ∙ times_below s i all numbered (omega (arith, count));
        none = λ i above. brings.once s i ∙ times_above s i all numbered (omega (arith, count));
        only = λ i below. only_of D s i nowhere all packets numbered brings.each;
        before = λ i below. kinds.0 i (omega (arith, lengths));
        last = λ i is. kinds.1 i (omega (arith, lengths));
      }

  stands : AllStand D s (says_of (sent_of s all))
  stands = subst (AllStand D s) (records_are s all) closed.stand

  turned : in_order (stream_packets s packets) ≡ map (packet_of D) (reverse (sent_of s all))
  turned =
      ordered (stream_packets s packets) n q whole
      ∙ sym (fill_by_all q (map (packet_of D) (in_turn s all)) n (packet_of D nowhere) (length-map (in_turn s all) (packet_of D))
      (λ k inside. get_or-map (packet_of D) (in_turn s all) k nowhere (packet_of D nowhere) inside))

  pub stream_whole : gap_of (stream_packets s packets) ≡ None
  stream_whole = no_gap (stream_packets s packets) n q whole

  pub stream_good : bad_record D s [] 0 (in_order (stream_packets s packets)) ≡ None
  stream_good = ap (bad_record D s [] 0) turned ∙ none_bad D s (sent_of s all) stands

  pub stream_says : said s (stream_packets s packets) ≡ records_of s all
  stream_says =
      ap (λ (ps : List Packet). reverse (map (λ (p : Packet). record_at s p.payload) ps)) turned
      ∙ said_back D s (sent_of s all) stands ∙ sym (records_are s all)
