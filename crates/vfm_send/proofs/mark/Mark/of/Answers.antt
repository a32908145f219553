use Rattle.std.proofs.Common.{◌≡◌, ◌∙◌, refl, sym, ap, ℕ, ◌+◌, List, [], ◌++◌, take, append-nil}
use Rattle.std.specs.Prelude.{replicate}
use borrow.Rule.Slice.PartMut.{put_mid}
use Rattle.sha2.specs.Sha256.{sha256}
use Rattle.vfm_packet.specs.Header.{head_bytes}
use Rattle.vfm_packet.specs.Packet.{packet_size, seal_len}
use Rattle.vfm_packet.proofs.Words.{length-head_bytes}
use Rattle.vfm_send.specs.Sends.{mark_of}
use Rattle.vfm_send.proofs.SendLemmas.{mark_is}
use Rattle.vfm_send.proofs.mark.Mark.of.Goals as goal

pub returns : goal.returns
returns c =
    let h = (mark_of c.args.abort c.args.session c.args.version).head in
    let n = seal_len c.args.version in
    let encoded : c.encode_head-encoded.result ≡ head_bytes (mark_of c.args.abort c.args.session c.args.version).head =
    c.encode_head-encoded.ensures ∙ ap head_bytes c.head_of-head.ensures in
    let digest : c.copy_from_slice-2.new.self ≡ sha256 (head_bytes h ++ []) =
    c.copy_from_slice-2.ensures.after ∙ c.seal.ensures ∙ ap (λ (l : List ℕ). sha256 (l ++ [])) encoded in
    let size : c.packet_size.result ≡ 40 + n = c.packet_size.ensures ∙ ap packet_size c.head_of-head.ensures in
    ap (λ (k : ℕ). take k (put_mid 40 32 (c.copy_from_slice.new.self ++ replicate 32 0) c.copy_from_slice-2.new.self)) size
    ∙ mark_is c.copy_from_slice.new.self (replicate 32 0) c.copy_from_slice-2.new.self (head_bytes h) n (length-head_bytes h) refl (c.copy_from_slice.ensures.after ∙ encoded)
    ∙ ap (λ (l : List ℕ). head_bytes h ++ take n l) (append-nil c.copy_from_slice-2.new.self ∙ digest)
    ∙ ap (λ (l : List ℕ). l ++ take n (sha256 (head_bytes h ++ []))) (sym (append-nil (head_bytes h)))
