use Rattle.std.proofs.Common.{◌≡◌, ◌∙◌, ap, subst, ℕ, List, Bool, rules}
use Rattle.std.proofs.lemmas.List.{length-set}
use Rattle.std.proofs.lemmas.Result.{on_ok_weaker, on_err_weaker}
use Rattle.vfm_packet.specs.Packet.{Packet}
use Rattle.vfm_reorder.specs.Buffers.{IsPacket}
use Rattle.vfm_intake.proofs.Taking.{set-made, set-still, set-taken}
use Rattle.vfm_intake.proofs.intake.Intake.take_packet.Goals as goal

pub returns-clause-made : goal.returns-clause-made
returns-clause-made c = record {
  valid = c.requires.made.valid;
  count = length-set c.args.self.now.streams.items c.args.stream c.take.new.self ∙ c.requires.made.count;
  each = set-made c.args.desc.now c.args.self.now.streams.items c.args.stream c.index_mut.result.now c.take.new.self c.requires.known
      c.index_mut.ensures.value c.requires.made.each c.take.ensures.made;
}

pub returns-clause-taken : goal.returns-clause-taken
returns-clause-taken c =
    on_ok_weaker c.take.result
    (λ taken. set-taken c.args.desc.now c.args.self.now.streams.items c.args.stream c.index_mut.result.now c.take.new.self c.requires.known
    c.index_mut.ensures.value c.requires.made.each c.args.head c.args.payload
    (λ came p stands is. taken came p stands (record { index_is = is.index_is; config_is = is.config_is ∙ search rules; payload_is = is.payload_is })))
    c.take.ensures.taken

pub returns-clause-unchanged : goal.returns-clause-unchanged
returns-clause-unchanged c =
    on_err_weaker c.take.result
    (set-still c.args.desc.now c.args.self.now.streams.items c.args.stream c.index_mut.result.now c.take.new.self c.requires.known
    c.index_mut.ensures.value c.requires.made.each)
    c.take.ensures.unchanged
