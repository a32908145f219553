-- What the definitions say of every move, case by case.
use Rattle.std.proofs.Common.{◌≡◌, ◌⊎◌, ℕ, ◌<◌, true, false, List, [], ◌∷◌, drop, map, slice_index_or, Option, Some, None, is_some, unwrap_or, refl, sym, ap, ◌∙◌, subst, inl, inr, IsFalse, arith, append-nil}
use Rattle.vfm_types.specs.declared.desc.Desc.{Desc}
use Rattle.vfm_outside.specs.Links.{Told, ToldEnds}
use Rattle.vfm_plain.specs.Report.{Made}
use Rattle.vfm_status.specs.declared.status.Doubt.{Doubt}
use Rattle.vfm_status.specs.declared.status.Status.{Status}
use Rattle.vfm_status.specs.declared.status.Status.TheVariants.{Moved, InDoubt, Aborted, NoMemory}
use Rattle.vfm_move.specs.Contact.{AreTold, Contact, Failed, Line, Lines, Linked, Untouched, told_line, told_lines}
use Rattle.vfm_move.specs.Table.{Front, HasParts, Neither, NoGo, TookOver, WentOn, Whole, FrontOfGo, WholeGo, channels_at, go_at, owner_at}
use Rattle.vfm_move.specs.Carried.{HasSaidGo, HasSent, IsFront, ended_due}
use Rattle.vfm_move.specs.Causes.{Attempt, Brings, HasCause, IsExplained, Story, YieldsTo, has_passed}
use Rattle.vfm_move.specs.Complete.{Delivers}

-- ---- fronts

pub all_is_front : (whole : List ℕ) → IsFront whole whole
all_is_front whole = record { rest = []; is = sym (append-nil whole) }

pub nothing_is_front : (whole : List ℕ) → IsFront [] whole
nothing_is_front whole = record { rest = whole; is = refl }

pub whole_front : (made : Made) (k : ℕ) (sent : List ℕ) → HasSent Whole made k sent → HasSent Front made k sent
whole_front made k sent all = inl (subst (λ (bytes : List ℕ). IsFront sent bytes) all (all_is_front sent))

pub nothing_front : (made : Made) (k : ℕ) → HasSent Front made k []
nothing_front made k = inl (nothing_is_front (ended_due made k))

pub go_front : (made : Made) (sent : List ℕ) → HasSaidGo WholeGo made sent → HasSaidGo FrontOfGo made sent
go_front made sent all = subst (λ (bytes : List ℕ). IsFront sent bytes) all (all_is_front sent)

-- ---- what links tell

pub untouched_none : AreTold Untouched → ⊥
untouched_none are = absurd cc

pub failed_none : AreTold Failed → ⊥
failed_none are = absurd cc

one_line : (one other : Line) → told_line one ≡ told_line other → one ≡ other
one_line one other same =
    let ended : one.ended ≡ other.ended = ap (λ (t : Told). t.ended) same in
    let out : one.failed_out ≡ other.failed_out = ap (λ (t : Told). t.failed_out) same in
    let coming : one.failed_in ≡ other.failed_in = ap (λ (t : Told). t.failed_in) same in
    let sent : one.sent ≡ other.sent = ap (λ (t : Told). unwrap_or t.sent []) same in
    let received : one.received ≡ other.received = ap (λ (t : Told). unwrap_or t.received []) same in
    rw (ended, out, coming, sent, received) refl

lines_alike : (ones others : List Line) → map told_line ones ≡ map told_line others → ones ≡ others
lines_alike [] [] same = refl
lines_alike [] (other ∷ others) same = absurd cc
lines_alike (one ∷ ones) [] same = absurd cc
lines_alike (one ∷ ones) (other ∷ others) same =
    let first = one_line one other (ap (λ (links : List Told). slice_index_or links 0 (told_line one)) same) in
    let rest = lines_alike ones others (ap (λ (links : List Told). drop 1 links) same) in
    rw (first, rest) refl

pub lines_once : (one other : Lines) → told_lines one ≡ told_lines other → one ≡ other
lines_once one other same =
    let source_control = one_line one.source_control other.source_control (ap (λ (e : ToldEnds). e.source_control) same) in
    let source = lines_alike one.source other.source (ap (λ (e : ToldEnds). e.source) same) in
    let dest_control = one_line one.dest_control other.dest_control (ap (λ (e : ToldEnds). e.dest_control) same) in
    let dest = lines_alike one.dest other.dest (ap (λ (e : ToldEnds). e.dest) same) in
    rw (source_control, source, dest_control, dest) refl

-- ---- tables

pub silent : (status : Status) → owner_at status ≡ WentOn → go_at status ≡ NoGo
silent Moved on = absurd cc
silent (InDoubt doubt) on = absurd cc
silent status on = refl

pub over_whole : (status : Status) → owner_at status ≡ TookOver → channels_at status ≡ Whole
over_whole Moved over = refl
over_whole (InDoubt doubt) over = absurd cc
over_whole status over = absurd cc

pub doubt_whole : (status : Status) → owner_at status ≡ Neither → channels_at status ≡ Whole
doubt_whole Moved none = absurd cc
doubt_whole (InDoubt doubt) none = refl
doubt_whole status none = absurd cc

absent : {X : Type 0} (o : Option X) → is_some o ≡ false → o ≡ None
absent None no_one = refl
absent (Some x) no_one = absurd cc

pub moved_parts : (made : Made) → HasParts Moved made → (is_some made.destination ≡ true) × (is_some made.final ≡ true)
moved_parts made parts = (ap (λ p. p.destination) parts, ap (λ p. p.final) parts)

pub doubt_parts : (made : Made) (doubt : Doubt) → HasParts (InDoubt doubt) made → (made.destination ≡ None) × (made.final ≡ None)
doubt_parts made doubt parts = (absent made.destination (ap (λ p. p.destination) parts), absent made.final (ap (λ p. p.final) parts))

-- ---- causes

pub to_memory : (brought : Status) → YieldsTo brought NoMemory
to_memory (Aborted pass) = tt
to_memory brought = tt

pub not_to_moved : (brought : Status) → YieldsTo brought Moved → ⊥
not_to_moved (Aborted pass) yields = yields
not_to_moved brought yields = yields

moved_not_brought : (attempt : Attempt) (story : Story) → Brings Moved attempt story → ⊥
moved_not_brought attempt story brings = brings

disputed : (attempt : Attempt) (story : Story) (brought : Status) → story.status ≡ Moved → Brings brought attempt story
    → (story.status ≡ brought) ⊎ YieldsTo brought story.status → ⊥
disputed attempt story brought moved brings (inl same) =
    moved_not_brought attempt story (subst (λ (s : Status). Brings s attempt story) (sym same ∙ moved) brings)
disputed attempt story brought moved brings (inr yields) =
    not_to_moved brought (subst (λ (s : Status). YieldsTo brought s) moved yields)

pub undisputed : (attempt : Attempt) (story : Story) (brought : Status) → story.status ≡ Moved → IsExplained attempt story
    → Brings brought attempt story → ⊥
undisputed attempt story brought moved is brings = disputed attempt story brought moved brings (is.exact brought brings)

asked_in : (attempt : Attempt) (story : Story) (pass : ℕ) (made : Option Made) (contact : Contact) → story.made ≡ made → story.contact ≡ contact
    → HasCause (Aborted pass) attempt story → (attempt.abort_after ≡ pass) × (0 < pass)
asked_in attempt story pass None contact is on cause = absurd (rw is at cause)
asked_in attempt story pass (Some made) Untouched is on cause = absurd (rw (is, on) at cause)
asked_in attempt story pass (Some made) Failed is on cause = absurd (rw (is, on) at cause)
asked_in attempt story pass (Some made) (Linked ends) is on cause = let due = rw (is, on) at cause in (due.asked, due.some)

pub asked : (attempt : Attempt) (story : Story) (pass : ℕ) → HasCause (Aborted pass) attempt story → (attempt.abort_after ≡ pass) × (0 < pass)
asked attempt story pass cause = asked_in attempt story pass story.made story.contact refl refl cause

-- ---- the beginning

pub none_passed : (D : Desc) (n : ℕ) → 0 < n → IsFalse (has_passed D n [])
none_passed D n some = grind arith

pub unread : (sender receiver : Line) → receiver.received ≡ [] → IsFalse receiver.ended → Delivers sender receiver
unread sender receiver none going =
    record {
      front = subst (λ (bytes : List ℕ). IsFront bytes sender.sent) (sym none) (nothing_is_front sender.sent);
      all = λ ended. absurd cc;
    }
