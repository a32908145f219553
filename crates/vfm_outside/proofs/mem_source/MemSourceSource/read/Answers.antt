use Rattle.std.proofs.Common.{◌≡◌, ◌-◌, length, min, arith}
use Rattle.std.proofs.lemmas.Grind.{common_steps}
use Rattle.vfm_outside.proofs.MemoryLemmas.{left-given, left-end}
use Rattle.vfm_outside.proofs.mem_source.MemSourceSource.read.Goals as goal

pub returns-clause-given : goal.returns-clause-given
returns-clause-given c =
    let bytes = c.args.self.now.bytes.items in
    let lent = c.deref.result.now in
    let at = c.args.self.now.at in
    let n = c.give-n.result in
    let most = c.part_of-most.result in
    let number : n ≡ min most (length lent - at) = omega arith in (
      grind (arith, common_steps),
      left-given bytes lent c.give-n.new.buf at n c.deref.ensures.value c.give-n.ensures.given,
      λ none some. left-end bytes lent at n most c.deref.ensures.value number (omega arith) none,
    )
