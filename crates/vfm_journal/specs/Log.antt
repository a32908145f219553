-- What a journal is seen as.
use Rattle.std.specs.Prelude.{ℕ, List}
use Rattle.vfm_types.specs.declared.entry.Entry.{Entry}

-- the entries made, oldest first, and how many there is room for in all
pub record Log : Type 0 where
  pub entries : List Entry
  pub room : ℕ
