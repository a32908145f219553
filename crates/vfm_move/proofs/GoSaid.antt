-- While Go is said and heard, what the links carried before stands.
use Rattle.std.proofs.Common.{◌≡◌, ℕ, List, [], ◌++◌, map, Option, Some, None, unwrap_or, refl, sym, ap, ◌∙◌, subst}
use Rattle.vfm_outside.specs.Links.{Told, ToldEnds}
use Rattle.vfm_outside.specs.Told.{with_appended}
use Rattle.vfm_plain.specs.Report.{Made}
use Rattle.vfm_move.specs.Contact.{Line, Lines, Linked, told_line, told_lines}
use Rattle.vfm_move.specs.Table.{GoSent, NoGo}
use Rattle.vfm_move.specs.Carried.{HasSaidGo}
use Rattle.vfm_move.specs.Causes.{Attempt}
use Rattle.vfm_move.specs.Move.{CarriedState, IsConfirmed}
use Rattle.vfm_move.specs.Answered.{SaidOfGo}
use Rattle.vfm_move.proofs.Brought.{linked_once}

-- what a link told before more was put after it, where it tells now
record ToldBefore (before : Option (List ℕ)) (more now : List ℕ) : Type 0 where
  bytes : List ℕ
  is : before ≡ Some bytes
  whole : now ≡ bytes ++ more

told_before : (before : Option (List ℕ)) (more now : List ℕ) → Some now ≡ with_appended before more
    → ToldBefore before more now
told_before None more now same = absurd cc
told_before (Some bytes) more now same = record { bytes = bytes; is = refl; whole = ap (λ (o : Option (List ℕ)). unwrap_or o []) same }

-- a link is what it tells
as_told : (link : Told) (sent received : List ℕ) → link.sent ≡ Some sent → link.received ≡ Some received
    → link ≡ told_line (record {
      ended = link.ended;
      failed_out = link.failed_out;
      failed_in = link.failed_in;
      sent = sent;
      received = received;
    })
as_told link sent received out came = rw (sym out, sym came) refl

-- the lines before, where those now are told
record LinesBefore (said : List ℕ) (before now : ToldEnds) (lines : Lines) : Type 0 where
  source_control : Line
  dest_control : Line
  told : Linked before ≡ Linked (told_lines (record lines { source_control = source_control; dest_control = dest_control }))
  heard : source_control.received ≡ lines.source_control.received
  said_more : lines.source_control.sent ≡ source_control.sent ++ said
  answer : dest_control.sent ≡ lines.dest_control.sent

lines_before : (said : List ℕ) (before now : ToldEnds) (lines : Lines) → SaidOfGo said before now
    → now ≡ told_lines lines
    → LinesBefore said before now lines
lines_before said before now lines more told =
    let sent = told_before before.source_control.sent said lines.source_control.sent
    (sym (ap (λ (e : ToldEnds). e.source_control.sent) told) ∙ more.sent) in
    let came = told_before before.dest_control.received more.came lines.dest_control.received
    (sym (ap (λ (e : ToldEnds). e.dest_control.received) told) ∙ more.received) in
    let heard = sym more.heard ∙ ap (λ (e : ToldEnds). e.source_control.received) told in
    let answer = sym more.answer ∙ ap (λ (e : ToldEnds). e.dest_control.sent) told in
    let source = as_told before.source_control sent.bytes lines.source_control.received sent.is heard in
    let dest = as_told before.dest_control lines.dest_control.sent came.bytes answer came.is in
    let all = same_ends (sym more.source ∙ ap (λ (e : ToldEnds). e.source) told) (sym more.dest ∙ ap (λ (e : ToldEnds). e.dest) told) source dest in
    record {
      source_control = record {
        ended = before.source_control.ended;
        failed_out = before.source_control.failed_out;
        failed_in = before.source_control.failed_in;
        sent = sent.bytes;
        received = lines.source_control.received;
      };
      dest_control = record {
        ended = before.dest_control.ended;
        failed_out = before.dest_control.failed_out;
        failed_in = before.dest_control.failed_in;
        sent = lines.dest_control.sent;
        received = came.bytes;
      };
      told = ap Linked all;
      heard = refl;
      said_more = sent.whole;
      answer = refl;
    }
  where
    same_ends : {source_control dest_control : Line} → before.source ≡ map told_line lines.source
        → before.dest ≡ map told_line lines.dest
        → before.source_control ≡ told_line source_control → before.dest_control ≡ told_line dest_control
        → before ≡ told_lines (record lines { source_control = source_control; dest_control = dest_control })
    same_ends {source_control} {dest_control} source dest one other = rw (sym one, sym other, sym source, sym dest) refl

pub still_confirmed : (go : GoSent) (attempt : Attempt) (made : Made) (before now : ToldEnds) (said : List ℕ)
    → IsConfirmed NoGo attempt made before → SaidOfGo said before now → HasSaidGo go made said
    → IsConfirmed go attempt made now
still_confirmed go attempt made before now said is more says =
    record {
      stands = is.stands;
      copied = is.copied;
      unhindered = is.unhindered;
      frame = is.frame;
      carried = λ lines told. carried lines (linked_once now (told_lines lines) told);
    }
  where
    carried : (lines : Lines) → now ≡ told_lines lines → CarriedState go made lines
    carried lines told =
        let old = lines_before said before now lines more told in
        let was = is.carried (record lines { source_control = old.source_control; dest_control = old.dest_control }) old.told in
        record {
          channels = was.channels;
          state = was.state;
          answered = record { read_out = was.answered.read_out; answered = sym old.answer ∙ was.answered.answered };
          heard = sym old.heard ∙ was.heard;
          said = subst (λ (xs : List ℕ). HasSaidGo go made xs)
              (sym (old.said_more ∙ ap (λ (xs : List ℕ). xs ++ said) was.said)) says;
        }
