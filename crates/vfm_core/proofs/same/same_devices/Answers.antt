-- Two devices that differ are in lists that differ.
use Rattle.std.proofs.Common.{◌<◌, IsTrue, length, ap, sym, subst, ◌∙◌, arith}
use Rattle.std.proofs.lemmas.Bool.{false≢true}
use Rattle.vfm_core.specs.Machines.{plain_of}
use Rattle.vfm_core.proofs.Machines.{plain_at}
use Rattle.vfm_core.proofs.same.same_devices.Goals as goal

pub returns-then-not-same_device : goal.returns-then-not-same_device
returns-then-not-same_device c =
    let inside : c.loop-d.d < length c.args.one.now = omega arith in
    let within : c.loop-d.d < length c.args.other.now = omega arith in (
      λ no. absurd (false≢true no),
      λ same. subst IsTrue c.if-not-same_device.true (c.same_device.ensures.1
          (ap plain_of c.index-one-d.is
          ∙ plain_at c.args.one.now c.args.other.now c.loop-d.d c.index-one-d.result c.index-other-d.result inside within same
          ∙ sym (ap plain_of c.index-other-d.is))),
    )
