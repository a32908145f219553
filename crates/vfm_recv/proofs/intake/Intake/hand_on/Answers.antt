use Rattle.std.proofs.Common.{◌≡◌, ◌∙◌, refl, sym, ap, subst, ℕ, ◌+◌, ◌<◌, ◌≤◌, Bool, true, false, List, length, [], ◌∷◌, ◌++◌, take, drop, slice_set, rules, arith}
use Rattle.std.proofs.lemmas.List.{drop-take, length-take}
use Rattle.vfm_packet.specs.declared.header.Header.{Header}
use Rattle.vfm_packet.specs.Header.{HasHeaderShape, carries}
use Rattle.vfm_packet.specs.Packet.{Packet, packet_at}
use Rattle.vfm_mesh.specs.declared.parcel.Parcel.TheVariants as parcels
use Rattle.vfm_mesh.specs.Rows.{all_given, given}
use Rattle.vfm_recv.specs.Handed.{parcel_of}
use Rattle.vfm_recv.proofs.Stands.{handed-on, handed-more}
use Rattle.vfm_recv.proofs.intake.Intake.hand_on.Goals as goal

-- a payload has at most 65,536 bytes
few : (t : Bool) (head : Header) → HasHeaderShape t head → head.length ≤ 65536
few true head shape = shape.1
few false head shape = omega (arith, shape.2)

pub of-requires-clause-short : goal.of-requires-clause-short
of-requires-clause-short c =
    let i = c.args.self.now in
    let head = c.args.head in
    let list : c.replace-list.result.items ≡ i.held.items = search (rules, arith) in
    let payload : drop 40 c.truncate.new.self.items ≡ take head.length (drop 40 i.held.items) =
    ap (λ (l : List ℕ). drop 40 l) (c.truncate.ensures.items ∙ ap (λ (l : List ℕ). take (40 + head.length) l) list) ∙ drop-take 40 head.length i.held.items in
    let short : head.length ≤ 65536 = few (carries head.kind) head c.requires.packet.header.sound.header.shape in
    subst (λ (l : List ℕ). length l < 4294967296) (sym payload)
    (omega (arith, short, length-take head.length (drop 40 i.held.items)))

pub returns-clause-stands : goal.returns-clause-stands
returns-clause-stands c came before s =
    let i = c.args.self.now in
    let head = c.args.head in
    let p : Packet = packet_at head i.held.items in
    let list : c.replace-list.result.items ≡ i.held.items = search (rules, arith) in
    let payload : c.of.result ≡ take head.length (drop 40 i.held.items) =
    c.of.ensures ∙ ap (λ (l : List ℕ). drop 40 l) (c.truncate.ensures.items ∙ ap (λ (l : List ℕ). take (40 + head.length) l) list) ∙ drop-take 40 head.length i.held.items in
    let given_ : all_given c.offer.new.self ≡ slice_set (all_given c.args.fan.now) head.stream (given c.args.fan.now head.stream ++ parcel_of p ∷ []) =
    c.in-Ok.ensures.given ∙ ap (λ (l : List ℕ). slice_set (all_given c.args.fan.now) head.stream (given c.args.fan.now head.stream ++ parcels.Packet head l ∷ [])) payload in
    handed-on i _ came before c.args.fan.now c.offer.new.self head c.requires.open c.requires.open refl refl (search (rules, arith)) (search (rules, arith))
    c.requires.packet c.requires.exact c.requires.carries
    (λ packets handed. handed-more before c.args.fan.now c.offer.new.self packets p handed (search (rules, arith)) c.offer.ensures.streams given_) s
