-- Records that are read as themselves and can stand one behind another are refused nowhere.
use Rattle.std.proofs.Common.{◌≡◌, ℕ, ◌+◌, List, [], ◌∷◌, ◌++◌, map, reverse, Option, Some, None, refl, ap, ◌∙◌}
use Rattle.std.specs.Option.{option_or, option_map}
use Rattle.std.proofs.lemmas.List.{map-append, reverse-append}
use Rattle.std.proofs.lemmas.Grind.{reverse_onto}
use Rattle.vfm_types.specs.declared.desc.Desc.{Desc}
use Rattle.vfm_packet.specs.Packet.{Packet}
use Rattle.vfm_record.specs.Record.{Record, record_bytes}
use Rattle.vfm_record.specs.Tests.{record_fault, record_at}
use Rattle.vfm_streams.specs.Sent.{Sent}
use Rattle.vfm_streams.specs.Packets.{kind_of, packet_of}
use Rattle.vfm_streams.specs.Whole.{StreamFault, BadRecord}
use Rattle.vfm_streams.specs.Judged.{stand_fault, payload_fault, bad_record}

-- each of these records, newest first, is read as itself and can stand behind the older ones
abbrev pub AllStand : Desc → ℕ → List Record → Type 0
AllStand D s [] = Unit {0}
AllStand D s (r ∷ older) =
    (record_fault D s (record_bytes r) ≡ None) × (record_at s (record_bytes r) ≡ r) × (stand_fault D s (kind_of r) older r ≡ None)
    × AllStand D s older

-- what packets say, put before older records
abbrev read_onto : ℕ → List Packet → List Record → List Record
read_onto s [] older = older
read_onto s (p ∷ packets) older = read_onto s packets (record_at s p.payload ∷ older)

read_more : (s : ℕ) (packets : List Packet) (p : Packet) (older : List Record)
    → read_onto s (packets ++ p ∷ []) older ≡ record_at s p.payload ∷ read_onto s packets older
read_more s [] p older = refl
read_more s (q ∷ packets) p older = read_more s packets p (record_at s q.payload ∷ older)

some_none : (f : StreamFault) → Some f ≡ None → ⊥
some_none f e = cc

bad_parts : (i : ℕ) (o : Option ℕ) (rest : Option StreamFault) → option_or (option_map (BadRecord i) o) rest ≡ None → (o ≡ None) × (rest ≡ None)
bad_parts i None rest none = (refl, none)
bad_parts i (Some place) rest none = absurd (some_none (BadRecord i place) none)

bad_from : (i : ℕ) (o : Option ℕ) (rest : Option StreamFault) → o ≡ None → rest ≡ None → option_or (option_map (BadRecord i) o) rest ≡ None
bad_from i o rest is_o is_rest = ap (λ (x : Option ℕ). option_or (option_map (BadRecord i) x) rest) is_o ∙ is_rest

bad_more : (D : Desc) (s : ℕ) (older : List Record) (i : ℕ) (packets : List Packet) (p : Packet) → bad_record D s older i packets ≡ None
    → payload_fault D s (read_onto s packets older) p ≡ None → bad_record D s older i (packets ++ p ∷ []) ≡ None
bad_more D s older i [] p none fault = bad_from i (payload_fault D s older p) None fault refl
bad_more D s older i (q ∷ packets) p none fault =
    let parts = bad_parts i (payload_fault D s older q) (bad_record D s (record_at s q.payload ∷ older) (i + 1) packets) none in
    bad_from i (payload_fault D s older q) (bad_record D s (record_at s q.payload ∷ older) (i + 1) (packets ++ p ∷ [])) parts.0
    (bad_more D s (record_at s q.payload ∷ older) (i + 1) packets p parts.1 fault)

-- ---- what was sent, in turn

abbrev pub says_of : List Sent → List Record
says_of xs = map (λ x. x.says) xs

abbrev turned : Desc → List Sent → List Packet
turned D xs = map (packet_of D) (reverse xs)

turned_more : (D : Desc) (x : Sent) (xs : List Sent) → turned D (x ∷ xs) ≡ turned D xs ++ packet_of D x ∷ []
turned_more D x xs = ap (map (packet_of D)) (reverse_onto xs x []) ∙ map-append (packet_of D) (reverse xs) (x ∷ [])

-- they are read as what was sent
turned_read : (D : Desc) (s : ℕ) (xs : List Sent) → AllStand D s (says_of xs) → read_onto s (turned D xs) [] ≡ says_of xs
turned_read D s [] stand = refl
turned_read D s (x ∷ xs) stand =
    ap (λ (ps : List Packet). read_onto s ps []) (turned_more D x xs) ∙ read_more s (turned D xs) (packet_of D x) []
    ∙ ap (λ (r : Record). r ∷ read_onto s (turned D xs) []) stand.1 ∙ ap (λ (rs : List Record). x.says ∷ rs) (turned_read D s xs stand.3)

-- and none of them is refused
pub none_bad : (D : Desc) (s : ℕ) (xs : List Sent) → AllStand D s (says_of xs) → bad_record D s [] 0 (map (packet_of D) (reverse xs)) ≡ None
none_bad D s [] stand = refl
none_bad D s (x ∷ xs) stand =
    ap (bad_record D s [] 0) (turned_more D x xs)
    ∙ bad_more D s [] 0 (turned D xs) (packet_of D x) (none_bad D s xs stand.3)
    (ap (λ (rs : List Record). payload_fault D s rs (packet_of D x)) (turned_read D s xs stand.3)
    ∙ ap (λ (o : Option ℕ). option_or o (stand_fault D s (kind_of x.says) (says_of xs) (record_at s (record_bytes x.says)))) stand.0
    ∙ ap (stand_fault D s (kind_of x.says) (says_of xs)) stand.1 ∙ stand.2)

pub said_back : (D : Desc) (s : ℕ) (xs : List Sent) → AllStand D s (says_of xs)
    → reverse (map (λ (p : Packet). record_at s p.payload) (map (packet_of D) (reverse xs))) ≡ says_of xs
said_back D s [] stand = refl
said_back D s (x ∷ xs) stand =
    let read : Packet → Record = λ p. record_at s p.payload in
    ap (λ (ps : List Packet). reverse (map read ps)) (turned_more D x xs)
    ∙ ap (reverse {A = Record}) (map-append read (turned D xs) (packet_of D x ∷ []))
    ∙ reverse-append (map read (turned D xs)) (read (packet_of D x) ∷ [])
    ∙ ap (λ (r : Record). r ∷ reverse (map read (turned D xs))) stand.1 ∙ ap (λ (rs : List Record). x.says ∷ rs) (said_back D s xs stand.3)
