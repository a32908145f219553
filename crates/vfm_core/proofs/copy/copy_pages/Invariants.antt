-- The pages before this one are copied.
use Rattle.std.proofs.Common.{◌≡◌, []}
use Rattle.vfm_core.proofs.Copies.{Replaced}
use Rattle.vfm_core.proofs.copy.copy_pages.Given as goal

abbrev pub invariant-loop-p : goal.invariant-loop-p
invariant-loop-p l = record { devices : l.into.devices ≡ l.fn.into.devices; pages : Replaced [] l.pages l.fn.into.pages l.into.pages l.p }
