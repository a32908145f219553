-- What a dirty log holds, and what a mark makes of it.
use Rattle.std.specs.Prelude.{ℕ, ◌==◌, ◌||◌, Bool, false, if◌then◌else◌, List, []}
use Rattle.vfm_base.specs.PageSet.{contains_page, pages_where}

-- whether the log is started, and the pages that are marked in it, in rising order
pub record Log : Type 0 where
  pub started : Bool
  pub marked : List ℕ

-- the log before it is started
abbrev pub empty_log : Log
empty_log = record { started = false; marked = [] }

-- the log with page p marked; one that isn't started marks nothing
abbrev pub with_mark : ℕ → Log → Log
with_mark p log =
    if log.started then record log { marked = pages_where (λ q. contains_page log.marked q || q == p) } else log
