-- What becomes of a buffered text where the buffer is written out.
use Rattle.std.proofs.Common.{◌≡◌, ℕ, ◌<◌, ◌≤◌, List, [], ◌++◌, length, take, drop, ap, sym, ◌∙◌, append_assoc, append-nil, arith}
use Rattle.std.specs.Prelude.{Result, MatchResult, OnOk, OnErr, Ok, Err}
use Rattle.std.proofs.lemmas.List.{take-append-drop}
use Rattle.vfm_outside.specs.Counts.{Rose, CountsFaults}
use Rattle.vfm_outside.specs.Told.{with_appended, with_appended-with_appended}
use Rattle.vfm_outside.specs.Tells.{SinkTells}
use Rattle.vfm_text.specs.Buffered.{Buffered, Buffers, Spills}

-- a prefix of the buffer was written, and then a write failed
pub flush_spills : (before : Buffered) (now : SinkTells) (text : List ℕ) (n : ℕ) → now.holds ≡ with_appended before.sink.holds (take n before.bytes)
    → before.sink.faults ≤ now.faults → Rose before.sink.faults now.faults → Spills before text now
flush_spills before now text n e later rose =
    record {
      given = take n before.bytes;
      lost = drop n before.bytes ++ text;
      whole = ap (λ t. t ++ text) (sym (take-append-drop n before.bytes)) ∙ append_assoc (take n before.bytes) (drop n before.bytes) text;
      taken = e;
      later = later;
      rose = rose;
    }

-- what a flush did that went well: the buffer is empty, and the sink has what was in it
pub record IsFlushed (before after : Buffered) : Type 0 where
  pub empty : after.bytes ≡ []
  pub taken : after.sink.holds ≡ with_appended before.sink.holds before.bytes
  pub count : after.sink.faults ≡ before.sink.faults

-- the buffer was written, and then all of a long piece
pub long_buffers : (before flushed : Buffered) (now : SinkTells) (text : List ℕ) → IsFlushed before flushed
    → now.holds ≡ with_appended flushed.sink.holds text → now.faults ≡ flushed.sink.faults → Buffers before text (record { bytes = flushed.bytes; sink = now })
long_buffers before flushed now text is f d =
    record {
      given = before.bytes ++ text;
      whole = sym (append-nil (before.bytes ++ text)) ∙ ap (λ t. (before.bytes ++ text) ++ t) (sym is.empty);
      taken = f ∙ (ap (λ t. with_appended t text) is.taken ∙ with_appended-with_appended before.sink.holds before.bytes text);
      count = d ∙ is.count;
    }

-- the buffer was written, and then a prefix of a long piece, and a write failed
pub long_spills : (before flushed : Buffered) (now : SinkTells) (text : List ℕ) (n : ℕ) → IsFlushed before flushed
    → now.holds ≡ with_appended flushed.sink.holds (take n text) → flushed.sink.faults ≤ now.faults → Rose flushed.sink.faults now.faults → Spills before text now
long_spills before flushed now text n is f later rose =
    record {
      given = before.bytes ++ take n text;
      lost = drop n text;
      whole = ap (λ t. before.bytes ++ t) (sym (take-append-drop n text)) ∙ sym (append_assoc before.bytes (take n text) (drop n text));
      taken = f ∙ (ap (λ t. with_appended t (take n text)) is.taken ∙ with_appended-with_appended before.sink.holds before.bytes (take n text));
      later = omega (arith, later, is.count);
      rose = omega (arith, rose, is.count);
    }

-- the buffer was written, and then a long piece, as that went; a is what else is known
pub long_writes : {T E A : Type 0} (before flushed : Buffered) (now : SinkTells) (r : Result T E) (text : List ℕ) → A → IsFlushed before flushed
    → CountsFaults r flushed.sink.faults now.faults → OnOk r (now.holds ≡ with_appended flushed.sink.holds text)
    → OnErr r ((n : ℕ) × (n < length text) × (now.holds ≡ with_appended flushed.sink.holds (take n text)))
    → MatchResult r (λ _. A × Buffers before text (record { bytes = flushed.bytes; sink = now })) (λ _. A × Spills before text now)
long_writes before flushed now (Ok x) text a is count ok failed = (a, long_buffers before flushed now text is ok count.ok)
long_writes before flushed now (Err x) text a is count ok failed =
    (a, long_spills before flushed now text failed.0 is failed.2 count.never_falls count.failed)
