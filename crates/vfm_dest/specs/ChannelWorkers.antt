-- What the worker of a channel did.
use Rattle.std.specs.Prelude.{◌≡◌, ℕ, []}
use Rattle.vfm_packet.specs.declared.answer.Expect.{Expect}
use Rattle.vfm_mesh.specs.declared.fan.Fan.{Fan}
use Rattle.vfm_mesh.specs.Rows.{stream_count, fan_rings, given}
use Rattle.vfm_recv.specs.declared.channel_end.ChannelEnd.{ChannelEnd}
use Rattle.vfm_recv.specs.Readers.{link_of, expected_by}
use Rattle.vfm_dest.specs.Heards.{Told, OutWords, channel_of, WasRead}
use Rattle.vfm_dest.specs.declared.channel_worker.ChannelWorker.{ChannelWorker}

-- its link
abbrev pub link_in : {L : Type 0} → ChannelWorker L → L
link_in worker = link_of worker.reader

-- its fan
abbrev pub fan_in : {L : Type 0} → ChannelWorker L → Fan
fan_in worker = worker.fan

-- the answer about its channel
abbrev pub end_in : {L : Type 0} → ChannelWorker L → ChannelEnd
end_in worker = worker.end

-- what its channel has to say
abbrev pub expect_in : {L : Type 0} → ChannelWorker L → Expect
expect_in worker = expected_by worker.reader

-- its fan has each stream that is expected, and nothing was given to it
pub record IsFresh {L : Type 0} (worker : ChannelWorker L) : Type 0 where
  pub streams : stream_count worker.fan ≡ (expect_in worker).streams
  pub nothing : (s : ℕ) → given worker.fan s ≡ []

-- The channel was read, by what is told of what comes in; of what goes out its link tells what it told before.
pub record HasHeard {L : Type 0} (tell : L → Told) (words : OutWords L) (before now : ChannelWorker L) : Type 0 where
  pub read : WasRead (expect_in before) (tell (link_in before)) (channel_of (tell (link_in now)) (given now.fan) now.end)
  pub rings : fan_rings now.fan ≡ fan_rings before.fan
  pub sent : words.sent (link_in now) ≡ words.sent (link_in before)
  pub finished : words.finished (link_in now) ≡ words.finished (link_in before)
  pub failed_out : words.failed_out (link_in now) ≡ words.failed_out (link_in before)
