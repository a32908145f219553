use Rattle.std.proofs.Common.{refl}
use Rattle.vfm_space.proofs.bar.Bar.unmark.Goals as goal

pub returns : goal.returns
returns c = rw (← c.self.view_is, c.remove.ensures.value, c.remove-2.ensures.value) refl
