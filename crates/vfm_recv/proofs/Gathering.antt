-- What is gathered of a packet, until it is whole.
use Rattle.std.proofs.Common.{◌≡◌, ◌∙◌, sym, ap, ℕ, ◌+◌, ◌<◌, ◌≤◌, List, ◌++◌, length, arith, inl, inr}
use Rattle.std.specs.Int.{w32}
use Rattle.std.proofs.lemmas.List.{take-append-le}
use Rattle.vfm_base.specs.Words.{word_at}
use Rattle.vfm_packet.specs.declared.header.Header.{Header}
use Rattle.vfm_packet.specs.declared.answer.Expect.{Expect}
use Rattle.vfm_packet.specs.Packet.{packet_size, seal_len}
use Rattle.vfm_packet.specs.Answer.{HasHeader, IsPartial, IsCutShort}
use Rattle.vfm_packet.proofs.Decoding.{header_found}
use Rattle.vfm_recv.specs.Exact.{IsExact}

-- the size of the packet whose header stands at the start
abbrev pub announced : Expect → List ℕ → ℕ
announced e bytes = 40 + word_at w32 24 bytes + seal_len e.version

size_is : (e : Expect) (bytes : List ℕ) (h : Header) → HasHeader e bytes h → packet_size h ≡ announced e bytes
size_is e bytes h has =
    let len : word_at w32 24 bytes ≡ h.length = ap (λ (g : Header). g.length) (header_found e h bytes has).1 in
    omega (arith, len, ap seal_len has.sound.version)

cut-of : (e : Expect) (bytes : List ℕ) → 40 ≤ length bytes → IsPartial e bytes → IsCutShort e bytes
cut-of e bytes long (inl few) = absurd (omega (arith, few, long))
cut-of e bytes long (inr cut) = cut

-- more is wanted than is there
pub waits : (e : Expect) (held : List ℕ) → IsPartial e held → 40 ≤ length held → length held < announced e held
waits e held partial long =
    let cut = cut-of e held long partial in
    omega (arith, cut.short, size_is e held cut.head cut.header)

-- a header, and no byte after it
pub exact-head : (e : Expect) (bytes : List ℕ) → length bytes ≤ 40 → IsExact e bytes
exact-head e bytes short head begins = omega (arith, short, begins.whole)

-- a packet, and no byte after it
pub exact-rest : (e : Expect) (held more : List ℕ) → IsPartial e held → 40 ≤ length held
    → length (held ++ more) ≤ announced e held → IsExact e (held ++ more)
exact-rest e held more partial long short head begins =
    let cut = cut-of e held long partial in
    let header : HasHeader e (held ++ more) cut.head = record {
      sound = cut.header.sound;
      encoded = take-append-le 40 held more long ∙ cut.header.encoded;
    } in
    let same : head ≡ cut.head = sym (header_found e head (held ++ more) begins.header).1 ∙ (header_found e cut.head (held ++ more) header).1 in
    omega (arith, short, begins.whole, ap packet_size same, size_is e held cut.head cut.header)
