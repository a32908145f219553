-- A text that was buffered and then flushed is printed, or a prefix of it is.
use Rattle.std.proofs.Common.{◌≡◌, ℕ, List, [], ◌++◌, ap, sym, ◌∙◌, append_assoc, arith}
use Rattle.std.specs.Prelude.{Result, Ok, Err}
use Rattle.vfm_outside.specs.Told.{with_appended, with_appended-with_appended}
use Rattle.vfm_outside.specs.Tells.{SinkTells}
use Rattle.vfm_text.specs.Buffered.{Buffered, Buffers, Spills}
use Rattle.vfm_text.specs.Prints.{Prints}

pub printed : {T E : Type 0} {before after : Buffered} {now : SinkTells} {text : List ℕ} (r : Result T E) → before.bytes ≡ []
    → Buffers before text after → Prints r after.bytes after.sink now → Prints r text before.sink now
printed {T} {E} {before} {after} {now} {text} (Ok x) none p q =
    let whole = ap (λ t. t ++ text) (sym none) ∙ p.whole in
    record {
      count = record { never_falls = omega (arith, q.count.never_falls, p.count); ok = q.count.ok ∙ p.count; failed = tt };
      ok = q.ok ∙ (ap (λ t. with_appended t after.bytes) p.taken ∙ (with_appended-with_appended before.sink.holds p.given after.bytes ∙ ap (with_appended before.sink.holds) (sym whole)));
      failed = tt;
    }
printed {T} {E} {before} {after} {now} {text} (Err x) none p q =
    let whole = ap (λ t. t ++ text) (sym none) ∙ p.whole in
    let cut = q.failed in
    record {
      count = record { never_falls = omega (arith, q.count.never_falls, p.count); ok = tt; failed = omega (arith, q.count.failed, p.count) };
      ok = tt;
      failed = record {
        written = p.given ++ cut.written;
        lost = cut.lost;
        whole = whole ∙ (ap (λ t. p.given ++ t) cut.whole ∙ sym (append_assoc p.given cut.written cut.lost));
        taken = cut.taken ∙ (ap (λ t. with_appended t cut.written) p.taken ∙ with_appended-with_appended before.sink.holds p.given cut.written);
      };
    }

-- so is one of which the writer couldn't take all
pub spilled : {T E : Type 0} {before : Buffered} {now : SinkTells} {text : List ℕ} (r : Result T E) (x : E) → r ≡ Err x → before.bytes ≡ []
    → Spills before text now → Prints r text before.sink now
spilled {T} {E} {before} {now} {text} r x is none s =
    rw is (record {
      count = record { never_falls = s.later; ok = tt; failed = s.rose };
      ok = tt;
      failed = record { written = s.given; lost = s.lost; whole = ap (λ t. t ++ text) (sym none) ∙ s.whole; taken = s.taken };
    })
