-- The definitions compute, the digests with them.
use Rattle.std.proofs.Common.{refl}
use Rattle.std.specs.Fmt.{digits}
use Rattle.hex.specs.Hex.{encode_with}
use Rattle.sha2.specs.Sha256.{first_words, schedule, rounds, compress, hash_after, digest_bytes, sha256}
use Rattle.vfm_base.specs.Words.{word_at}
use Rattle.vfm_packet.specs.Header.{head_bytes}
use Rattle.vfm_packet.specs.Sound.{head_fault}
use Rattle.vfm_packet.specs.Answer.{decoded}
use Rattle.vfm_packet.specs.Reading.{reading_of}
use Rattle.vfm_record.specs.Record.{pairs_of}
use Rattle.vfm_record.specs.Shape.{shape_digest, memory_line, device_line}
use Rattle.vfm_record.specs.Tests.{page_tests, block_tests, engine_tests, pending_tests, config_tests, record_fault}
use Rattle.vfm_streams.specs.Sent.{pairs_of_a_record}
use Rattle.vfm_stream_cases.proofs.refusals.changed_streams_are_refused.Goals as goal

pub returns-clause-doubled : goal.returns-clause-doubled
unfolding digits encode_with reading_of decoded head_fault word_at head_bytes first_words schedule rounds compress hash_after digest_bytes sha256 shape_digest memory_line device_line page_tests block_tests engine_tests pending_tests config_tests record_fault pairs_of pairs_of_a_record
returns-clause-doubled c = refl

pub returns-clause-missing : goal.returns-clause-missing
unfolding digits encode_with reading_of decoded head_fault word_at head_bytes first_words schedule rounds compress hash_after digest_bytes sha256 shape_digest memory_line device_line page_tests block_tests engine_tests pending_tests config_tests record_fault pairs_of pairs_of_a_record
returns-clause-missing c = refl

pub returns-clause-no_config : goal.returns-clause-no_config
unfolding digits encode_with reading_of decoded head_fault word_at head_bytes first_words schedule rounds compress hash_after digest_bytes sha256 shape_digest memory_line device_line page_tests block_tests engine_tests pending_tests config_tests record_fault pairs_of pairs_of_a_record
returns-clause-no_config c = refl

pub returns-clause-past : goal.returns-clause-past
unfolding digits encode_with reading_of decoded head_fault word_at head_bytes first_words schedule rounds compress hash_after digest_bytes sha256 shape_digest memory_line device_line page_tests block_tests engine_tests pending_tests config_tests record_fault pairs_of pairs_of_a_record
returns-clause-past c = refl

pub returns-clause-above : goal.returns-clause-above
unfolding digits encode_with reading_of decoded head_fault word_at head_bytes first_words schedule rounds compress hash_after digest_bytes sha256 shape_digest memory_line device_line page_tests block_tests engine_tests pending_tests config_tests record_fault pairs_of pairs_of_a_record
returns-clause-above c = refl

pub returns-clause-not_whole : goal.returns-clause-not_whole
unfolding digits encode_with reading_of decoded head_fault word_at head_bytes first_words schedule rounds compress hash_after digest_bytes sha256 shape_digest memory_line device_line page_tests block_tests engine_tests pending_tests config_tests record_fault pairs_of pairs_of_a_record
returns-clause-not_whole c = refl

pub returns-clause-no_engine : goal.returns-clause-no_engine
unfolding digits encode_with reading_of decoded head_fault word_at head_bytes first_words schedule rounds compress hash_after digest_bytes sha256 shape_digest memory_line device_line page_tests block_tests engine_tests pending_tests config_tests record_fault pairs_of pairs_of_a_record
returns-clause-no_engine c = refl

pub returns-clause-no_page : goal.returns-clause-no_page
unfolding digits encode_with reading_of decoded head_fault word_at head_bytes first_words schedule rounds compress hash_after digest_bytes sha256 shape_digest memory_line device_line page_tests block_tests engine_tests pending_tests config_tests record_fault pairs_of pairs_of_a_record
returns-clause-no_page c = refl

pub returns-clause-second_engine : goal.returns-clause-second_engine
unfolding digits encode_with reading_of decoded head_fault word_at head_bytes first_words schedule rounds compress hash_after digest_bytes sha256 shape_digest memory_line device_line page_tests block_tests engine_tests pending_tests config_tests record_fault pairs_of pairs_of_a_record
returns-clause-second_engine c = refl

pub returns-clause-early_pending : goal.returns-clause-early_pending
unfolding digits encode_with reading_of decoded head_fault word_at head_bytes first_words schedule rounds compress hash_after digest_bytes sha256 shape_digest memory_line device_line page_tests block_tests engine_tests pending_tests config_tests record_fault pairs_of pairs_of_a_record
returns-clause-early_pending c = refl

pub returns-clause-other_shape : goal.returns-clause-other_shape
unfolding digits encode_with reading_of decoded head_fault word_at head_bytes first_words schedule rounds compress hash_after digest_bytes sha256 shape_digest memory_line device_line page_tests block_tests engine_tests pending_tests config_tests record_fault pairs_of pairs_of_a_record
returns-clause-other_shape c = refl
