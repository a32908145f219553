-- What a writer that buffers its text before a sink has done.
use Rattle.std.specs.Prelude.{◌≡◌, ℕ, ◌≤◌, List, ◌++◌}
use Rattle.vfm_outside.specs.Counts.{Rose}
use Rattle.vfm_outside.specs.Told.{with_appended}
use Rattle.vfm_outside.specs.Tells.{SinkTells}

-- what such a writer is: the bytes in its buffer, and what its sink reports
pub record Buffered : Type 0 where
  pub bytes : List ℕ
  pub sink : SinkTells

abbrev pub buffered : List ℕ → SinkTells → Buffered
buffered bytes sink = record { bytes = bytes; sink = sink }

-- What was buffered, and this text after it, is what the sink was given and what is buffered now; no write failed.
pub record Buffers (before : Buffered) (text : List ℕ) (after : Buffered) : Type 0 where
  pub given : List ℕ
  pub whole : before.bytes ++ text ≡ given ++ after.bytes
  pub taken : after.sink.holds ≡ with_appended before.sink.holds given
  pub count : after.sink.faults ≡ before.sink.faults

-- The sink was given a prefix of what was buffered and this text after it, and a write failed.
pub record Spills (before : Buffered) (text : List ℕ) (now : SinkTells) : Type 0 where
  pub given : List ℕ
  pub lost : List ℕ
  pub whole : before.bytes ++ text ≡ given ++ lost
  pub taken : now.holds ≡ with_appended before.sink.holds given
  pub later : before.sink.faults ≤ now.faults
  pub rose : Rose before.sink.faults now.faults
