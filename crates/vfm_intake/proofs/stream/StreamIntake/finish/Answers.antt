use Rattle.std.proofs.Common.{◌≡◌, ◌∙◌, sym, ap, subst, ℕ, List, Option, Some, None, rules}
use Rattle.std.specs.Option.{option_or}
use Rattle.vfm_packet.specs.Packet.{Packet}
use Rattle.vfm_streams.specs.Whole.{StreamFault, top, in_order}
use Rattle.vfm_streams.specs.Judged.{load_fault}
use Rattle.vfm_reorder.specs.declared.buffer.ReorderBuf.{ReorderBuf}
use Rattle.vfm_reorder.specs.Buffers.{given, IsAfter}
use Rattle.vfm_load.specs.Loads.{records_of}
use Rattle.vfm_intake_laws.specs.Doubles.{IsLeastDoubled}
use Rattle.vfm_intake_laws.specs.Prefixes.{first_in_order}
use Rattle.vfm_intake_laws.proofs.Told.{doubled-gap}
use Rattle.vfm_intake.specs.Causes.{NamesDigests}
use Rattle.vfm_intake.proofs.Steps.{applied-all}
use Rattle.vfm_intake.proofs.stream.StreamIntake.finish.Goals as goal

pub returns-in-Some-clause-fault : goal.returns-in-Some-clause-fault
returns-in-Some-clause-fault c D s came stands =
    ap (λ (o : Option StreamFault). option_or o (load_fault D s came))
    (doubled-gap c.in-Some.index came (subst (λ (o : Option ℕ). IsLeastDoubled o came) c.in-Some.is stands.doubled))

pub returns-in-Err-finish-clause-digests : goal.returns-in-Err-finish-clause-digests
returns-in-Err-finish-clause-digests c D s came stands =
    let whole = stands.whole (search rules) in
    let after : IsAfter c.args.self.buffer came = subst (IsAfter c.args.self.buffer) whole stands.after in
    let order : first_in_order (given c.args.self.buffer) stands.put ≡ in_order came =
    applied-all stands.put came (given c.args.self.buffer) c.in-Ok.field-0 whole (c.in-Ok.ensures.count came after) c.in-Ok.ensures.given.0 in
    subst (λ (ps : List Packet). NamesDigests D s (records_of s ps) c.of_load.result) order
    (c.of_load.ensures.digests D s (records_of s (first_in_order (given c.args.self.buffer) stands.put))
    (c.in-Err-finish.ensures.digests D s (first_in_order (given c.args.self.buffer) stands.put) stands.loaded))
