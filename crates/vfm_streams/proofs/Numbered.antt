-- What is sent is numbered: the records of a stream have the indexes from 0 on, in their order.
use Rattle.std.proofs.Common.{◌≡◌, ℕ, zero, suc, ◌+◌, ◌<◌, ◌≤◌, ◌==◌, Bool, true, false, ◌&&◌, inl, inr, if◌then◌else◌, List, [], ◌∷◌, ◌++◌, length, map, filter, reverse, get_or, refl, ap, sym, ◌∙◌, subst, arith, ⊎_elim, eqb-true, eq-eqb}
use Rattle.std.proofs.lemmas.Bool.{cond-true, cond-false, cases_lt, ne_eqb}
use Rattle.std.proofs.lemmas.List.{length-reverse, length_push, get_or_append_left, get_or_push}
use Rattle.std.proofs.lemmas.Grind.{reverse_onto}
use Rattle.vfm_types.specs.declared.desc.Desc.{Desc}
use Rattle.vfm_types.specs.declared.entry.Entry.{Entry}
use Rattle.vfm_types.specs.declared.entry.Entry.TheVariants.{Copy as CopyOf, Block as BlockOf}
use Rattle.vfm_types.specs.Desc.{device_count}
use Rattle.vfm_types.specs.Machine.{DeviceState, Machine, device_of}
use Rattle.vfm_types.specs.Deliveries.{joint_machine}
use Rattle.vfm_types.specs.Phases.{is_last_begun}
use Rattle.vfm_types.specs.Blocks.{is_no_pass_open}
use Rattle.vfm_packet.specs.Packet.{Packet}
use Rattle.vfm_record.specs.Record.{Record, Config}
use Rattle.vfm_record.specs.Shape.{shape_digest}
use Rattle.vfm_streams.specs.Sent.{Sent, IsNumbered, records_of, push, push_all, pending_records, engine_record, with_device_closed, with_devices_closed, with_all_closed, sent_in_passes, sent}
use Rattle.vfm_streams.specs.Packets.{packet_of}
use Rattle.vfm_streams.specs.Brought.{times_sent, IsOfSent}

-- a fact of a Bool, by its two values
pub by_bool : (b : Bool) (P : Bool → Type 0) → (b ≡ true → P true) → (b ≡ false → P false) → P b
by_bool true P yes_ no_ = yes_ refl
by_bool false P yes_ no_ = no_ refl

numbered_push : (s : ℕ) (r : Record) (all : List Sent) → IsNumbered all → IsNumbered (push s r all)
numbered_push s r all numbered = (refl, numbered)

numbered_push_all : (s : ℕ) (records : List Record) (all : List Sent) → IsNumbered all → IsNumbered (push_all s records all)
numbered_push_all s [] all numbered = numbered
numbered_push_all s (r ∷ records) all numbered = numbered_push_all s records (push s r all) (numbered_push s r all numbered)

numbered_device : (D : Desc) (d : ℕ) (device : DeviceState) (all : List Sent) → IsNumbered all → IsNumbered (with_device_closed D d device all)
numbered_device D d device all numbered =
    (refl, numbered_push_all (suc d) (pending_records device.pending) (push (suc d) (engine_record device) all) (numbered_push (suc d) (engine_record device) all numbered))

numbered_devices : (D : Desc) (m : Machine) (n : ℕ) (all : List Sent) → IsNumbered all → IsNumbered (with_devices_closed D m n all)
numbered_devices D m zero all numbered = numbered
numbered_devices D m (suc d) all numbered = numbered_device D d (device_of m d) (with_devices_closed D m d all) (numbered_devices D m d all numbered)

pub numbered_passes : (D : Desc) (past : List Entry) → IsNumbered (sent_in_passes D past)
numbered_passes D [] = tt
numbered_passes D (CopyOf p ∷ past) = (refl, numbered_passes D past)
numbered_passes D (BlockOf d b ∷ past) = (refl, numbered_passes D past)
numbered_passes D (entry ∷ past) = numbered_passes D past

pub numbered_sent : (D : Desc) (past : List Entry) → IsNumbered (sent D past)
numbered_sent D past =
    by_bool (is_last_begun past && is_no_pass_open D past)
    (λ b. IsNumbered (if b then with_all_closed D (joint_machine D past) (sent_in_passes D past) else sent_in_passes D past))
    (λ closed. numbered_devices D (joint_machine D past) (device_count D) (push 0 (Config (shape_digest D 0)) (sent_in_passes D past))
    (refl, numbered_passes D past))
    (λ open_. numbered_passes D past)

-- what was sent of a stream, newest first, and oldest first
abbrev pub sent_of : ℕ → List Sent → List Sent
sent_of s all = filter (λ x. x.stream == s) all

abbrev pub in_turn : ℕ → List Sent → List Sent
in_turn s all = reverse (sent_of s all)

pub records_are : (s : ℕ) (all : List Sent) → records_of s all ≡ map (λ x. x.says) (sent_of s all)
records_are s [] = refl
records_are s (x ∷ all) =
    by_bool (x.stream == s)
    (λ b. (if b then x.says ∷ records_of s all else records_of s all) ≡ map (λ y. y.says) (if b then x ∷ sent_of s all else sent_of s all))
    (λ same. ap (λ (rs : List Record). x.says ∷ rs) (records_are s all)) (λ other. records_are s all)

pub count_is : (s : ℕ) (all : List Sent) → length (in_turn s all) ≡ length (records_of s all)
count_is s all = length-reverse (sent_of s all) ∙ same s all
  where
    same : (t : ℕ) (xs : List Sent) → length (sent_of t xs) ≡ length (records_of t xs)
    same t [] = refl
    same t (x ∷ xs) =
        by_bool (x.stream == t) (λ b. length (if b then x ∷ sent_of t xs else sent_of t xs) ≡ length (if b then x.says ∷ records_of t xs else records_of t xs))
        (λ equal. ap suc (same t xs)) (λ other. same t xs)

in_turn_same : (s : ℕ) (x : Sent) (all : List Sent) → x.stream ≡ s → in_turn s (x ∷ all) ≡ in_turn s all ++ x ∷ []
in_turn_same s x all same =
    ap (reverse {A = Sent}) (cond-true (x.stream == s) (x ∷ sent_of s all) (sent_of s all) (eq-eqb x.stream s same)) ∙ reverse_onto (sent_of s all) x []

in_turn_other : (s : ℕ) (x : Sent) (all : List Sent) → (x.stream == s) ≡ false → in_turn s (x ∷ all) ≡ in_turn s all
in_turn_other s x all other = ap (reverse {A = Sent}) (cond-false (x.stream == s) (x ∷ sent_of s all) (sent_of s all) other)

-- ---- by index

-- an index above all of its stream was never sent, and one below once
pub times_above : (s i : ℕ) (all : List Sent) → IsNumbered all → length (records_of s all) ≤ i → times_sent s i all ≡ 0
times_above s i [] numbered above = refl
times_above s i (x ∷ all) numbered above =
    by_bool (x.stream == s)
    (λ b. (x.stream == s) ≡ b → length (if b then x.says ∷ records_of s all else records_of s all) ≤ i
    → times_sent s i all + (if b && x.index == i then 1 else 0) ≡ 0)
    (λ same e h.
    let rest : times_sent s i all ≡ 0 = times_above s i all numbered.1 (omega arith) in
    let number : x.index ≡ length (records_of s all) = numbered.0 ∙ ap (λ (t : ℕ). length (records_of t all)) (eqb-true x.stream s e) in
    ap (λ (b : Bool). times_sent s i all + (if b then 1 else 0)) (ne_eqb x.index i (λ equal. omega (arith, equal))) ∙ plus_none (times_sent s i all) rest)
    (λ other e h. plus_none (times_sent s i all) (times_above s i all numbered.1 h)) refl above
  where
    plus_none : (n : ℕ) → n ≡ 0 → n + 0 ≡ 0
    plus_none n none = omega arith

pub times_below : (s i : ℕ) (all : List Sent) → IsNumbered all → i < length (records_of s all) → times_sent s i all ≡ 1
times_below s i [] numbered below = absurd (omega arith)
times_below s i (x ∷ all) numbered below =
    by_bool (x.stream == s)
    (λ b. (x.stream == s) ≡ b → i < length (if b then x.says ∷ records_of s all else records_of s all)
    → times_sent s i all + (if b && x.index == i then 1 else 0) ≡ 1)
    (λ same e h.
    let number : x.index ≡ length (records_of s all) = numbered.0 ∙ ap (λ (t : ℕ). length (records_of t all)) (eqb-true x.stream s e) in
    ⊎_elim
    (λ (low : i < length (records_of s all)).
    ap (λ (b : Bool). times_sent s i all + (if b then 1 else 0)) (ne_eqb x.index i (λ equal. omega (arith, equal)))
    ∙ plus_zero (times_sent s i all) (times_below s i all numbered.1 low))
    (λ (high : length (records_of s all) ≤ i).
    ap (λ (b : Bool). times_sent s i all + (if b then 1 else 0)) (eq-eqb x.index i (omega arith))
    ∙ plus_one (times_sent s i all) (times_above s i all numbered.1 high)) (cases_lt i (length (records_of s all))))
    (λ other e h. plus_zero (times_sent s i all) (times_below s i all numbered.1 h)) refl below
  where
    plus_zero : (n : ℕ) → n ≡ 1 → n + 0 ≡ 1
    plus_zero n one = omega arith

    plus_one : (n : ℕ) → n ≡ 0 → n + 1 ≡ 1
    plus_one n none = omega arith

-- a packet of this stream and index that was sent is that of the record in its turn
pub turn_of : (D : Desc) (s i : ℕ) (d : Sent) (all : List Sent) (p : Packet) → IsNumbered all → IsOfSent D all p → p.head.stream ≡ s → p.head.index ≡ i
    → (i < length (in_turn s all)) × (p ≡ packet_of D (get_or (in_turn s all) i d))
turn_of D s i d [] p numbered among stream index = absurd among
turn_of D s i d (x ∷ all) p numbered (inl is) stream index =
    let of_stream : x.stream ≡ s = sym (ap (λ (q : Packet). q.head.stream) is) ∙ stream in
    let of_index : x.index ≡ i = sym (ap (λ (q : Packet). q.head.index) is) ∙ index in
    let number : x.index ≡ length (in_turn s all) = numbered.0 ∙ ap (λ (t : ℕ). length (records_of t all)) of_stream ∙ sym (count_is s all) in
    let there : length (in_turn s all) ≡ i = sym number ∙ of_index in
    let whole = in_turn_same s x all of_stream in
    let longer : length (in_turn s (x ∷ all)) ≡ length (in_turn s all) + 1 = ap (length {A = Sent}) whole ∙ length_push (in_turn s all) x in
    (omega arith, is ∙ ap (packet_of D) (sym (ap (λ (ys : List Sent). get_or ys i d) whole ∙ get_or_push (in_turn s all) x d i there)))
turn_of D s i d (x ∷ all) p numbered (inr among) stream index =
    let before = turn_of D s i d all p numbered.1 among stream index in
    by_bool (x.stream == s) (λ b. (x.stream == s) ≡ b → (i < length (in_turn s (x ∷ all))) × (p ≡ packet_of D (get_or (in_turn s (x ∷ all)) i d)))
    (λ same e.
    let whole = in_turn_same s x all (eqb-true x.stream s e) in
    let longer : length (in_turn s (x ∷ all)) ≡ length (in_turn s all) + 1 = ap (length {A = Sent}) whole ∙ length_push (in_turn s all) x in
    let low : i < length (in_turn s all) = before.0 in
    (omega arith, before.1 ∙ ap (packet_of D) (sym (ap (λ (ys : List Sent). get_or ys i d) whole ∙ get_or_append_left (in_turn s all) (x ∷ []) d i low))))
    (λ other e.
    let whole = in_turn_other s x all e in
    (subst (λ (ys : List Sent). i < length ys) (sym whole) before.0, before.1 ∙ ap (λ (ys : List Sent). packet_of D (get_or ys i d)) (sym whole))) refl
