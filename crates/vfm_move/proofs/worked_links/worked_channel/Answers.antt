-- The definitions compute; the digests aren't looked at.
use Rattle.std.proofs.Common.{refl}
use Rattle.sha2.specs.Sha256.{digest_bytes, sha256}
use Rattle.vfm_base.specs.Words.{word_at}
use Rattle.vfm_packet.specs.Header.{head_bytes}
use Rattle.vfm_packet.specs.Sound.{head_fault}
use Rattle.vfm_packet.specs.Answer.{decoded}
use Rattle.vfm_packet.specs.Channel.{channel_limit}
use Rattle.vfm_packet.specs.Reading.{reading_of}
use Rattle.vfm_record.specs.Record.{pairs_of}
use Rattle.vfm_record.specs.Shape.{shape_digest}
use Rattle.vfm_streams.specs.Sent.{pairs_of_a_record}
use Rattle.vfm_move.proofs.worked_links.worked_channel.Goals as goal

pub returns-clause-packets : goal.returns-clause-packets
unfolding reading_of decoded head_fault word_at channel_limit head_bytes digest_bytes sha256 pairs_of pairs_of_a_record shape_digest
returns-clause-packets c = refl

pub returns-clause-end : goal.returns-clause-end
unfolding reading_of decoded head_fault word_at channel_limit head_bytes digest_bytes sha256 pairs_of pairs_of_a_record shape_digest
returns-clause-end c = refl

pub returns-clause-cut : goal.returns-clause-cut
unfolding reading_of decoded head_fault word_at channel_limit head_bytes digest_bytes sha256 pairs_of pairs_of_a_record shape_digest
returns-clause-cut c = refl

pub returns-clause-piece : goal.returns-clause-piece
unfolding reading_of decoded head_fault word_at channel_limit head_bytes digest_bytes sha256 pairs_of pairs_of_a_record shape_digest
returns-clause-piece c = refl
