use Rattle.std.proofs.Common.{arith}
use Rattle.std.proofs.lemmas.Grind.{common_steps}
use Rattle.vfm_outside.proofs.MemoryLemmas.{received-given}
use Rattle.vfm_outside.proofs.script_link.ScriptLinkLink.recv.Goals as goal

pub returns-else-n-eq0-clause-given : goal.returns-else-n-eq0-clause-given
returns-else-n-eq0-clause-given c = (
  grind (arith, common_steps),
  received-given c.args.self.now.inbox.items c.deref.result.now c.give-n.new.buf c.args.self.now.at c.give-n.result
      c.deref.ensures.value c.give-n.ensures.given,
)
