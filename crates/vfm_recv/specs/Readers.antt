-- What is known of a reader.
use Rattle.std.specs.Prelude.{ℕ}
use Rattle.vfm_packet.specs.declared.answer.Expect.{Expect}
use Rattle.vfm_recv.specs.declared.reader.Reader.{Reader}

-- its link
abbrev pub link_of : {L : Type 0} → Reader L → L
link_of reader = reader.link

-- the number of its channel
abbrev pub channel_of : {L : Type 0} → Reader L → ℕ
channel_of reader = reader.channel

-- what its channel has to say
abbrev pub expected_by : {L : Type 0} → Reader L → Expect
expected_by reader = reader.expect
