use Rattle.std.proofs.Common.{◌≡◌, sym, ℕ, List, None, Vec, rules}
use Rattle.std.proofs.lemmas.Result.{IfOk-weaker}
use Rattle.vfm_types.specs.declared.desc.Desc.{Desc}
use Rattle.vfm_plain.specs.declared.part.Part.{Part}
use Rattle.vfm_packet.specs.Packet.{Packet}
use Rattle.vfm_intake.specs.Intakes.{AreStreamsOf, StandAfter, stream_count}
use Rattle.vfm_intake.specs.Finished.{AreFinished}
use Rattle.vfm_intake.specs.Verdicts.{first_end_refusal}
use Rattle.vfm_intake.proofs.Finishing.{verdict-refused, verdict-of}
use Rattle.vfm_intake.proofs.verdict.verdict_of.Goals as goal

pub returns-in-Some : goal.returns-in-Some
returns-in-Some c = record {
  verdict = λ readings taken.
      verdict-refused c.args.desc.now c.args.intake c.args.ends.now readings c.requires.made taken c.in-Some.refusal (sym c.in-Some.ensures);
}

pub returns : goal.returns
returns c =
    let unrefused : first_end_refusal 0 c.args.ends.now ≡ None = search rules in
    record {
      verdict = λ readings taken.
          verdict-of c.args.desc.now c.args.intake c.args.ends.now readings c.requires.made taken c.parts_of.result unrefused
          (c.parts_of.ensures.refusal c.args.desc.now taken.came taken.taken)
          (IfOk-weaker c.parts_of.result
          (λ parts. (D : Desc) (came : ℕ → List Packet) → AreStreamsOf D c.args.intake.streams.items → StandAfter D came c.args.intake.streams.items
          → AreFinished D came (stream_count c.args.intake) parts.items)
          (λ parts. AreFinished c.args.desc.now taken.came (stream_count c.args.intake) parts.items)
          (λ parts finished. finished c.args.desc.now taken.came c.requires.made.each taken.taken) c.parts_of.ensures.parts);
    }
