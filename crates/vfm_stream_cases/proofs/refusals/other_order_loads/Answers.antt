-- The definitions compute, the digests with them.
use Rattle.std.proofs.Common.{refl}
use Rattle.std.specs.Fmt.{digits}
use Rattle.hex.specs.Hex.{encode_with}
use Rattle.sha2.specs.Sha256.{first_words, schedule, rounds, compress, hash_after, digest_bytes, sha256}
use Rattle.vfm_base.specs.Words.{word_at}
use Rattle.vfm_packet.specs.Header.{head_bytes}
use Rattle.vfm_packet.specs.Sound.{head_fault}
use Rattle.vfm_packet.specs.Answer.{decoded}
use Rattle.vfm_packet.specs.Reading.{reading_of}
use Rattle.vfm_record.specs.Record.{pairs_of}
use Rattle.vfm_record.specs.Shape.{shape_digest, memory_line, device_line}
use Rattle.vfm_record.specs.Tests.{page_tests, block_tests, engine_tests, pending_tests, config_tests, record_fault}
use Rattle.vfm_streams.specs.Sent.{pairs_of_a_record}
use Rattle.vfm_stream_cases.proofs.refusals.other_order_loads.Goals as goal

pub returns : goal.returns
unfolding digits encode_with reading_of decoded head_fault word_at head_bytes first_words schedule rounds compress hash_after digest_bytes sha256 shape_digest memory_line device_line page_tests block_tests engine_tests pending_tests config_tests record_fault pairs_of pairs_of_a_record
returns c = refl
