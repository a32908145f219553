-- What a call that prints a text to a sink does.
use Rattle.std.specs.Prelude.{◌≡◌, ℕ, List, ◌++◌, Option, Result, OnOk, OnErr}
use Rattle.vfm_outside.specs.Counts.{CountsFaults}
use Rattle.vfm_outside.specs.Told.{with_appended}
use Rattle.vfm_outside.specs.Tells.{SinkTells}

-- some prefix of the text was written
pub record IsCut (text : List ℕ) (held holds : Option (List ℕ)) : Type 0 where
  pub written : List ℕ
  pub lost : List ℕ
  pub whole : text ≡ written ++ lost
  pub taken : holds ≡ with_appended held written

-- Ok: the text was written after what the sink held. An error: a prefix of it was, and a write failed.
pub record Prints {T E : Type 0} (result : Result T E) (text : List ℕ) (before now : SinkTells) : Type 0 where
  pub count : CountsFaults result before.faults now.faults
  pub ok : OnOk result (now.holds ≡ with_appended before.holds text)
  pub failed : OnErr result (IsCut text before.holds now.holds)
