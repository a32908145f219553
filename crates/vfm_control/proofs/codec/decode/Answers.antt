-- A frame is answered exactly where it was encoded.
use Rattle.std.proofs.Common.{◌≡◌, ℕ, Option, Some, None, List, sym, ◌∙◌, refl}
use Rattle.std.specs.Prelude.{IsNone}
use Rattle.vfm_control.specs.declared.frame.Frame.{Frame}
use Rattle.vfm_base.specs.Words.{IsBytes}
use Rattle.vfm_control.specs.Frame.{IsNoFrame, frame_at}
use Rattle.vfm_control.proofs.Encoded.{found}
use Rattle.vfm_control.proofs.Decoded.{was_encoded}
use Rattle.vfm_control.proofs.codec.decode.Goals as goal

none_where : (o : Option Frame) (session : ℕ) (bytes : List ℕ) → IsBytes bytes → o ≡ frame_at session bytes → IsNoFrame session bytes → IsNone o
none_where None session bytes fits e absent = refl
none_where (Some f) session bytes fits e absent = absurd (absent f (was_encoded f session bytes fits (sym e)))

no_frame_where : (o : Option Frame) (session : ℕ) (bytes : List ℕ) → o ≡ frame_at session bytes → IsNone o → IsNoFrame session bytes
no_frame_where None session bytes e none f is =
    let some = found f session bytes is in
    absurd cc
no_frame_where (Some g) session bytes e none f is = absurd cc

pub returns-clause-frame : goal.returns-clause-frame
returns-clause-frame c f =
    let bytes = c.args.bytes.now in
    let fits : IsBytes bytes = λ i. c.fits-bytes i in (
      λ is. was_encoded f c.args.session bytes fits (sym c.answer.ensures ∙ is),
      λ is. c.answer.ensures ∙ found f c.args.session bytes is,
    )

pub returns-clause-none : goal.returns-clause-none
returns-clause-none c =
    let bytes = c.args.bytes.now in
    let fits : IsBytes bytes = λ i. c.fits-bytes i in (
      λ none. no_frame_where c.answer.result c.args.session bytes c.answer.ensures none,
      λ absent. none_where c.answer.result c.args.session bytes fits c.answer.ensures absent,
    )
