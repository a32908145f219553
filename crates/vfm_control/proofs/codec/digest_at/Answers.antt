-- All that stands after the session.
use Rattle.std.proofs.Common.{◌∙◌, drop, arith, length-drop}
use Rattle.std.proofs.lemmas.List.{take_all}
use Rattle.vfm_control.proofs.codec.digest_at.Goals as goal

pub returns : goal.returns
returns c =
    let bytes = c.args.bytes.now in
    c.copy_from_slice.ensures.after ∙ take_all 32 (drop 12 bytes) (omega (arith, c.told-bytes, length-drop 12 bytes))
