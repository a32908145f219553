-- The definitions compute, the digests with them.
use Rattle.std.proofs.Common.{refl}
use Rattle.std.specs.Fmt.{digits}
use Rattle.hex.specs.Hex.{encode_with}
use Rattle.sha2.specs.Sha256.{first_words, schedule, rounds, compress, hash_after, digest_bytes, sha256}
use Rattle.vfm_base.specs.Words.{word_at}
use Rattle.vfm_packet.specs.Header.{head_bytes}
use Rattle.vfm_packet.specs.Sound.{head_fault}
use Rattle.vfm_packet.specs.Answer.{decoded}
use Rattle.vfm_packet.specs.Reading.{reading_of}
use Rattle.vfm_record.specs.Record.{pairs_of}
use Rattle.vfm_record.specs.Shape.{shape_digest, memory_line, device_line}
use Rattle.vfm_record.specs.Tests.{page_tests, block_tests, engine_tests, pending_tests, config_tests, record_fault}
use Rattle.vfm_streams.specs.Sent.{pairs_of_a_record}
use Rattle.vfm_stream_cases.proofs.refusals.changed_channels_are_refused.Goals as goal

pub returns-clause-no_header : goal.returns-clause-no_header
unfolding digits encode_with reading_of decoded head_fault word_at head_bytes first_words schedule rounds compress hash_after digest_bytes sha256 shape_digest memory_line device_line page_tests block_tests engine_tests pending_tests config_tests record_fault pairs_of pairs_of_a_record
returns-clause-no_header c = refl

pub returns-clause-cut : goal.returns-clause-cut
unfolding digits encode_with reading_of decoded head_fault word_at head_bytes first_words schedule rounds compress hash_after digest_bytes sha256 shape_digest memory_line device_line page_tests block_tests engine_tests pending_tests config_tests record_fault pairs_of pairs_of_a_record
returns-clause-cut c = refl

pub returns-clause-no_end : goal.returns-clause-no_end
unfolding digits encode_with reading_of decoded head_fault word_at head_bytes first_words schedule rounds compress hash_after digest_bytes sha256 shape_digest memory_line device_line page_tests block_tests engine_tests pending_tests config_tests record_fault pairs_of pairs_of_a_record
returns-clause-no_end c = refl

pub returns-clause-longer : goal.returns-clause-longer
unfolding digits encode_with reading_of decoded head_fault word_at head_bytes first_words schedule rounds compress hash_after digest_bytes sha256 shape_digest memory_line device_line page_tests block_tests engine_tests pending_tests config_tests record_fault pairs_of pairs_of_a_record
returns-clause-longer c = refl

pub returns-clause-empty : goal.returns-clause-empty
unfolding digits encode_with reading_of decoded head_fault word_at head_bytes first_words schedule rounds compress hash_after digest_bytes sha256 shape_digest memory_line device_line page_tests block_tests engine_tests pending_tests config_tests record_fault pairs_of pairs_of_a_record
returns-clause-empty c = refl

pub returns-clause-magic : goal.returns-clause-magic
unfolding digits encode_with reading_of decoded head_fault word_at head_bytes first_words schedule rounds compress hash_after digest_bytes sha256 shape_digest memory_line device_line page_tests block_tests engine_tests pending_tests config_tests record_fault pairs_of pairs_of_a_record
returns-clause-magic c = refl

pub returns-clause-version : goal.returns-clause-version
unfolding digits encode_with reading_of decoded head_fault word_at head_bytes first_words schedule rounds compress hash_after digest_bytes sha256 shape_digest memory_line device_line page_tests block_tests engine_tests pending_tests config_tests record_fault pairs_of pairs_of_a_record
returns-clause-version c = refl

pub returns-clause-kind : goal.returns-clause-kind
unfolding digits encode_with reading_of decoded head_fault word_at head_bytes first_words schedule rounds compress hash_after digest_bytes sha256 shape_digest memory_line device_line page_tests block_tests engine_tests pending_tests config_tests record_fault pairs_of pairs_of_a_record
returns-clause-kind c = refl

pub returns-clause-session : goal.returns-clause-session
unfolding digits encode_with reading_of decoded head_fault word_at head_bytes first_words schedule rounds compress hash_after digest_bytes sha256 shape_digest memory_line device_line page_tests block_tests engine_tests pending_tests config_tests record_fault pairs_of pairs_of_a_record
returns-clause-session c = refl

pub returns-clause-stream : goal.returns-clause-stream
unfolding digits encode_with reading_of decoded head_fault word_at head_bytes first_words schedule rounds compress hash_after digest_bytes sha256 shape_digest memory_line device_line page_tests block_tests engine_tests pending_tests config_tests record_fault pairs_of pairs_of_a_record
returns-clause-stream c = refl

pub returns-clause-length : goal.returns-clause-length
unfolding digits encode_with reading_of decoded head_fault word_at head_bytes first_words schedule rounds compress hash_after digest_bytes sha256 shape_digest memory_line device_line page_tests block_tests engine_tests pending_tests config_tests record_fault pairs_of pairs_of_a_record
returns-clause-length c = refl

pub returns-clause-spare : goal.returns-clause-spare
unfolding digits encode_with reading_of decoded head_fault word_at head_bytes first_words schedule rounds compress hash_after digest_bytes sha256 shape_digest memory_line device_line page_tests block_tests engine_tests pending_tests config_tests record_fault pairs_of pairs_of_a_record
returns-clause-spare c = refl

pub returns-clause-aborted : goal.returns-clause-aborted
unfolding digits encode_with reading_of decoded head_fault word_at head_bytes first_words schedule rounds compress hash_after digest_bytes sha256 shape_digest memory_line device_line page_tests block_tests engine_tests pending_tests config_tests record_fault pairs_of pairs_of_a_record
returns-clause-aborted c = refl
