-- One device more in the walk over the flags.
use Rattle.std.proofs.Common.{sym, ◌∙◌, arith}
use Rattle.vfm_types.proofs.FormFault.{lacks_p2p_more, lacks_p2p_found}
use Rattle.vfm_types.proofs.desc.Desc.lacks_p2p.Goals as goal

pub returns-then-not-has_p2p : goal.returns-then-not-has_p2p
returns-then-not-has_p2p c =
    sym (lacks_p2p_found c.args.self.now.devices c.loop-d.d c.at.result.now (omega arith) (c.at.ensures.value c.at.result.now) (sym c.if-not-has_p2p.ensures))
    ∙ c.loop-d.invariant

pub loop-d-preserved : goal.loop-d-preserved
loop-d-preserved c =
    sym (lacks_p2p_more c.args.self.now.devices c.loop-d.d c.at.result.now (omega arith) (c.at.ensures.value c.at.result.now) (sym c.if-not-has_p2p.ensures))
    ∙ c.loop-d.invariant
