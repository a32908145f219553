-- A failed write leaves a prefix of the text.
use Rattle.std.proofs.Common.{take, drop, refl, sym, inr}
use Rattle.std.proofs.lemmas.List.{take-append-drop}
use Rattle.vfm_main.proofs.print_text.Goals as goal

pub returns-in-Err : goal.returns-in-Err
returns-in-Err g c =
    let text = c.args.text.now in
    let cut = rw c.as_bytes.ensures.value at c.in-Err.ensures.failed in
    inr (
      refl,
      record {
        cut = record { written = take cut.0 text; lost = drop cut.0 text; whole = sym (take-append-drop cut.0 text); taken = cut.2 };
        rose = c.in-Err.ensures.count.failed;
      },
    )
