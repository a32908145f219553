-- How buffered texts add up.
use Rattle.std.specs.Prelude.{ℕ, List, [], ◌++◌, refl}
use Rattle.std.proofs.Common.{ap, sym, ◌∙◌, append_assoc, append-nil, arith}
use Rattle.vfm_outside.specs.Told.{with_appended, with_appended-with_appended, with_appended-nil}
use Rattle.vfm_outside.specs.Tells.{SinkTells}
use Rattle.vfm_text.specs.Buffered.{Buffered, Buffers, Spills}

-- no text changes nothing
pub buffers_nothing : (before : Buffered) → Buffers before [] before
buffers_nothing before =
    record { given = []; whole = append-nil before.bytes; taken = sym (with_appended-nil before.sink.holds); count = refl }

-- two texts are one
pub buffers_more : {a b c : Buffered} {x y : List ℕ} → Buffers a x b → Buffers b y c → Buffers a (x ++ y) c
buffers_more {a} {b} {c} {x} {y} p q =
    record {
      given = p.given ++ q.given;
      whole = sym (append_assoc a.bytes x y) ∙ (ap (λ t. t ++ y) p.whole ∙ (append_assoc p.given b.bytes y ∙ (ap (λ t. p.given ++ t) q.whole ∙ sym (append_assoc p.given q.given c.bytes))));
      taken = q.taken ∙ (ap (λ t. with_appended t q.given) p.taken ∙ with_appended-with_appended a.sink.holds p.given q.given);
      count = q.count ∙ p.count;
    }

-- a text, and then one that fails
pub spills_after : {a b : Buffered} {x y : List ℕ} {now : SinkTells} → Buffers a x b → Spills b y now → Spills a (x ++ y) now
spills_after {a} {b} {x} {y} {now} p q =
    record {
      given = p.given ++ q.given;
      lost = q.lost;
      whole = sym (append_assoc a.bytes x y) ∙ (ap (λ t. t ++ y) p.whole ∙ (append_assoc p.given b.bytes y ∙ (ap (λ t. p.given ++ t) q.whole ∙ sym (append_assoc p.given q.given q.lost))));
      taken = q.taken ∙ (ap (λ t. with_appended t q.given) p.taken ∙ with_appended-with_appended a.sink.holds p.given q.given);
      later = omega (arith, q.later, p.count);
      rose = omega (arith, q.rose, p.count);
    }

-- a text that fails, and then more that isn't written
pub spills_before : {a : Buffered} {x : List ℕ} {now : SinkTells} (y : List ℕ) → Spills a x now → Spills a (x ++ y) now
spills_before {a} {x} y p =
    record {
      given = p.given;
      lost = p.lost ++ y;
      whole = sym (append_assoc a.bytes x y) ∙ (ap (λ t. t ++ y) p.whole ∙ append_assoc p.given p.lost y);
      taken = p.taken;
      later = p.later;
      rose = p.rose;
    }
