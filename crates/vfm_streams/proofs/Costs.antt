-- How many bytes what is sent has at the most, packet by packet, and how many records pending requests make.
use Rattle.std.proofs.Common.{◌≡◌, ℕ, zero, suc, ◌+◌, ◌-◌, ◌*◌, ◌<◌, ◌≤◌, ◌==◌, if◌then◌else◌, List, [], ◌∷◌, ◌++◌, length, map, drop, refl, ap, ◌∙◌, arith, ⊎_elim, length-append}
use Rattle.std.specs.List.{AllByRecursion}
use Rattle.std.proofs.lemmas.Bool.{cases_lt}
use Rattle.std.proofs.lemmas.List.{append-nil, length-drop, drop_all}
use Rattle.std.proofs.lemmas.List.Concat.{flat_map-append}
use Rattle.vfm_types.specs.declared.desc.Desc.{Desc}
use Rattle.vfm_packet.specs.Packet.{Packet, seal_len, packet_bytes}
use Rattle.vfm_packet.specs.Channel.{all_bytes}
use Rattle.vfm_packet.proofs.Packets.{length-packet_bytes}
use Rattle.vfm_record.specs.Record.{Record, Pending, record_bytes, record_size}
use Rattle.vfm_record.proofs.Again.{encoded_len}
use Rattle.vfm_streams.specs.Sent.{Sent, IsNumbered, records_of, push, push_all, chunks}
use Rattle.vfm_streams.specs.Packets.{packet_of, lane_of, lane_packets}
use Rattle.vfm_streams.proofs.Numbered.{by_bool}
use Rattle.vfm_streams.proofs.LanesJoin.{lane_same, lane_other}
use Rattle.vfm_streams.proofs.Chunks.{joined}

-- the bytes of these as packets of either version, at the most
abbrev pub cost_of : List Sent → ℕ
cost_of [] = 0
cost_of (x ∷ all) = cost_of all + (72 + record_size x.says)

pub short_seal : (version : ℕ) → seal_len version ≤ 32
short_seal version = by_bool (version == 2) (λ b. (if b then 32 else 0) ≤ 32) (λ two. omega arith) (λ one. omega arith)

pub packet_cost : (D : Desc) (x : Sent) → length (packet_bytes (packet_of D x)) ≤ 72 + record_size x.says
packet_cost D x =
    let whole = length-packet_bytes (packet_of D x) refl in
    let record_ : length (record_bytes x.says) ≡ record_size x.says = encoded_len x.says in
    let seal : seal_len D.version ≤ 32 = short_seal D.version in omega arith

one_more : (first : List Packet) (p : Packet) → length (all_bytes (first ++ p ∷ [])) ≡ length (all_bytes first) + length (packet_bytes p)
one_more first p =
    ap (length {A = ℕ}) (flat_map-append packet_bytes first (p ∷ [])) ∙ length-append (all_bytes first) (packet_bytes p ++ [])
    ∙ ap (λ (xs : List ℕ). length (all_bytes first) + length xs) (append-nil (packet_bytes p))

pub lane_cost : (D : Desc) (k : ℕ) (all : List Sent) → length (all_bytes (lane_packets D k all)) ≤ cost_of all
lane_cost D k [] = omega arith
lane_cost D k (x ∷ all) =
    let before : length (all_bytes (lane_packets D k all)) ≤ cost_of all = lane_cost D k all in
    let here : length (packet_bytes (packet_of D x)) ≤ 72 + record_size x.says = packet_cost D x in
    by_bool (lane_of D x == k) (λ b. (lane_of D x == k) ≡ b → length (all_bytes (lane_packets D k (x ∷ all))) ≤ cost_of all + (72 + record_size x.says))
    (λ same e.
    let is : length (all_bytes (lane_packets D k (x ∷ all))) ≡ length (all_bytes (lane_packets D k all)) + length (packet_bytes (packet_of D x)) =
    ap (λ (ps : List Packet). length (all_bytes ps)) (lane_same D k x all e) ∙ one_more (lane_packets D k all) (packet_of D x) in omega arith)
    (λ other e.
    let is : length (all_bytes (lane_packets D k (x ∷ all))) ≡ length (all_bytes (lane_packets D k all)) =
    ap (λ (ps : List Packet). length (all_bytes ps)) (lane_other D k x all e) in omega arith) refl

-- ---- pieces

none_cut : (most size : ℕ) → length (chunks {X = ℕ × ℕ} most size []) ≡ 0
none_cut zero size = refl
none_cut (suc most) size = refl

pub few_chunks : (most size : ℕ) (xs : List (ℕ × ℕ)) → length (chunks most size xs) * size ≤ length xs + size
few_chunks zero size xs = omega arith
few_chunks (suc most) size [] = omega arith
few_chunks (suc most) size (x ∷ xs) =
    ⊎_elim
    (λ (short : length (x ∷ xs) < size).
    let none : length (chunks most size (drop size (x ∷ xs))) ≡ 0 =
    ap (λ (ys : List (ℕ × ℕ)). length (chunks most size ys)) (drop_all size (x ∷ xs) (omega arith)) ∙ none_cut most size in
    one_only (length (chunks most size (drop size (x ∷ xs)))) size (length (x ∷ xs)) none)
    (λ (long : size ≤ length (x ∷ xs)).
    let rest : length (chunks most size (drop size (x ∷ xs))) * size ≤ length (drop size (x ∷ xs)) + size = few_chunks most size (drop size (x ∷ xs)) in
    one_and_rest (length (chunks most size (drop size (x ∷ xs)))) size (length (x ∷ xs)) (length (drop size (x ∷ xs))) rest long (length-drop size (x ∷ xs)))
    (cases_lt (length (x ∷ xs)) size)
  where
    one_only : (n size len : ℕ) → n ≡ 0 → suc n * size ≤ len + size
    one_only n size len none = let once : suc n * size ≡ size + n * size = grind arith in let zero_ : n * size ≡ 0 = ap (λ (k : ℕ). k * size) none ∙ omega arith in omega arith

    one_and_rest : (n size len left : ℕ) → n * size ≤ left + size → size ≤ len → left ≡ len - size → suc n * size ≤ len + size
    one_and_rest n size len left rest long is = let once : suc n * size ≡ size + n * size = grind arith in omega arith

pub pieces_cost : (s : ℕ) (pieces : List (List (ℕ × ℕ))) (all : List Sent)
    → cost_of (push_all s (map Pending pieces) all) ≡ cost_of all + 75 * length pieces + 8 * length (joined pieces)
pieces_cost s [] all = omega arith
pieces_cost s (piece ∷ pieces) all =
    let rest : cost_of (push_all s (map Pending pieces) (push s (Pending piece) all)) ≡ cost_of all + (72 + (3 + 8 * length piece)) + 75 * length pieces + 8 * length (joined pieces) =
    pieces_cost s pieces (push s (Pending piece) all) in
    let both : length (piece ++ joined pieces) ≡ length piece + length (joined pieces) = length-append piece (joined pieces) in omega arith

pub pushed_length : (s : ℕ) (records : List Record) (all : List Sent) → length (push_all s records all) ≡ length all + length records
pushed_length s [] all = omega arith
pushed_length s (r ∷ records) all = let rest : length (push_all s records (push s r all)) ≡ suc (length all) + length records = pushed_length s records (push s r all) in omega arith

-- ---- indexes

few_of : (s : ℕ) (all : List Sent) → length (records_of s all) ≤ length all
few_of s [] = omega arith
few_of s (x ∷ all) =
    let rest : length (records_of s all) ≤ length all = few_of s all in
    by_bool (x.stream == s) (λ b. length (if b then x.says ∷ records_of s all else records_of s all) ≤ suc (length all)) (λ same. omega arith) (λ other. omega arith)

pub indexes_below : (most : ℕ) (all : List Sent) → IsNumbered all → length all ≤ most → AllByRecursion (λ x. x.index < most) all
indexes_below most [] numbered few = tt
indexes_below most (x ∷ all) numbered few =
    let index : x.index ≡ length (records_of x.stream all) = numbered.0 in
    let low : length (records_of x.stream all) ≤ length all = few_of x.stream all in
    (omega arith, indexes_below most all numbered.1 (omega arith))
