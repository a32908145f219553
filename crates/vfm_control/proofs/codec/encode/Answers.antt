-- Each kind of frame is found again in its bytes.
use Rattle.std.proofs.Common.{refl}
use Rattle.vfm_control.specs.declared.frame.Frame.TheVariants.{Staged, Refused, Go}
use Rattle.vfm_control.specs.Frame.{frame_bytes}
use Rattle.vfm_control.proofs.Encoded.{again_at}
use Rattle.vfm_control.proofs.codec.encode.Goals as goal

pub returns-in-Staged-clause-again : goal.returns-in-Staged-clause-again
unfolding frame_bytes
returns-in-Staged-clause-again c =
    let w = c.frame_with.ensures in
    again_at c.args.f.now (Staged c.in-Staged.session c.in-Staged.digest) c.frame_with.result c.in-Staged.is
    (record { session = w.session; body = w.body }) w.bytes

pub returns-in-Refused-clause-again : goal.returns-in-Refused-clause-again
unfolding frame_bytes
returns-in-Refused-clause-again c =
    let w = c.frame_with-in-Refused.ensures in
    again_at c.args.f.now (Refused c.in-Refused.session c.in-Refused.refusal) c.frame_with-in-Refused.result c.in-Refused.is
    (record { session = w.session; body = c.refusal_bytes.ensures.fits }) (rw (w.bytes, c.refusal_bytes.ensures.bytes) refl)

pub returns-in-Go-clause-again : goal.returns-in-Go-clause-again
unfolding frame_bytes
returns-in-Go-clause-again c =
    let w = c.frame_with-in-Go.ensures in
    again_at c.args.f.now (Go c.in-Go.session c.in-Go.digest) c.frame_with-in-Go.result c.in-Go.is
    (record { session = w.session; body = w.body }) w.bytes
