-- The definitions compute, the digests with them.
use Rattle.std.proofs.Common.{refl}
use Rattle.sha2.specs.Sha256.{first_words, schedule, rounds, compress, hash_after, digest_bytes, sha256}
use Rattle.vfm_packet.specs.Header.{head_bytes}
use Rattle.vfm_base.specs.Words.{word_at}
use Rattle.vfm_packet.specs.Sound.{head_fault}
use Rattle.vfm_packet.specs.Answer.{decoded}
use Rattle.vfm_packet.specs.Reading.{reading_of}
use Rattle.vfm_packet.proofs.worked.refusals_of_sealed_channels.Goals as goal

pub returns-clause-sound : goal.returns-clause-sound
unfolding reading_of decoded head_fault word_at head_bytes first_words schedule rounds compress hash_after digest_bytes sha256
returns-clause-sound c = refl

pub returns-clause-changed_payload : goal.returns-clause-changed_payload
unfolding reading_of decoded head_fault word_at head_bytes first_words schedule rounds compress hash_after digest_bytes sha256
returns-clause-changed_payload c = refl

pub returns-clause-changed_seal : goal.returns-clause-changed_seal
unfolding reading_of decoded head_fault word_at head_bytes first_words schedule rounds compress hash_after digest_bytes sha256
returns-clause-changed_seal c = refl

pub returns-clause-end_without_seal : goal.returns-clause-end_without_seal
unfolding reading_of decoded head_fault word_at head_bytes first_words schedule rounds compress hash_after digest_bytes sha256
returns-clause-end_without_seal c = refl

pub returns-clause-aborted : goal.returns-clause-aborted
unfolding reading_of decoded head_fault word_at head_bytes first_words schedule rounds compress hash_after digest_bytes sha256
returns-clause-aborted c = refl

pub returns-clause-abort_without_seal : goal.returns-clause-abort_without_seal
unfolding reading_of decoded head_fault word_at head_bytes first_words schedule rounds compress hash_after digest_bytes sha256
returns-clause-abort_without_seal c = refl

pub returns-clause-changed_abort : goal.returns-clause-changed_abort
unfolding reading_of decoded head_fault word_at head_bytes first_words schedule rounds compress hash_after digest_bytes sha256
returns-clause-changed_abort c = refl

pub returns-clause-truncated_seal : goal.returns-clause-truncated_seal
unfolding reading_of decoded head_fault word_at head_bytes first_words schedule rounds compress hash_after digest_bytes sha256
returns-clause-truncated_seal c = refl

pub returns-clause-no_end : goal.returns-clause-no_end
unfolding reading_of decoded head_fault word_at head_bytes first_words schedule rounds compress hash_after digest_bytes sha256
returns-clause-no_end c = refl

pub returns-clause-after_end : goal.returns-clause-after_end
unfolding reading_of decoded head_fault word_at head_bytes first_words schedule rounds compress hash_after digest_bytes sha256
returns-clause-after_end c = refl

pub returns-clause-other_version : goal.returns-clause-other_version
unfolding reading_of decoded head_fault word_at head_bytes first_words schedule rounds compress hash_after digest_bytes sha256
returns-clause-other_version c = refl

pub returns-clause-too_long_seal : goal.returns-clause-too_long_seal
unfolding reading_of decoded head_fault word_at head_bytes first_words schedule rounds compress hash_after digest_bytes sha256
returns-clause-too_long_seal c = refl

pub returns-clause-corrupt_before_limit : goal.returns-clause-corrupt_before_limit
unfolding reading_of decoded head_fault word_at head_bytes first_words schedule rounds compress hash_after digest_bytes sha256
returns-clause-corrupt_before_limit c = refl

pub returns-clause-too_long_at_end : goal.returns-clause-too_long_at_end
unfolding reading_of decoded head_fault word_at head_bytes first_words schedule rounds compress hash_after digest_bytes sha256
returns-clause-too_long_at_end c = refl
