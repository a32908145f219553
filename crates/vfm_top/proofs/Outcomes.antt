-- What a call that asks for a move or an audit comes to, each way that it can end.
use Rattle.std.proofs.Common.{◌≡◌, ℕ, List, [], take, drop, Option, Some, None, IfSome, Result, Ok, Err, IsOk, refl, sym, ◌∙◌, ap, ◌++◌, subst, ◌<◌, ◌≤◌, arith, ◌^◌, Contains}
use Rattle.std.specs.Prelude.{IfErr, IfOk, option_map, unwrap_or}
use Rattle.std.proofs.lemmas.List.{take-append-drop, append_cancel_left}
use Rattle.std.proofs.lemmas.List.Elements.{Contains-append_left}
use Rattle.vfm_types.specs.declared.desc.DevShape.{DevShape}
use Rattle.vfm_types.specs.declared.entry.Entry.TheVariants.{Fail}
use Rattle.vfm_types.specs.declared.state.MigState.{MigState}
use Rattle.vfm_types.specs.declared.desc.Desc.{Desc}
use Rattle.vfm_types.specs.declared.fault.DescFault.{DescFault}
use Rattle.vfm_types.specs.declared.fault.DescFault.TheVariants.{NoMemory as Memory}
use Rattle.vfm_types.specs.Desc.{device_count}
use Rattle.vfm_types.specs.Valid.{IsValid}
use Rattle.vfm_plain.specs.Legal.{IsLegal}
use Rattle.vfm_loads.specs.Generated.{generated, load_shape}
use Rattle.vfm_loads.proofs.Parts.{devices_are, shape_is}
use Rattle.vfm_source.specs.Offers.{NeverFails}
use Rattle.vfm_source.proofs.Fails.{from_reverse, in_reverse, never_fails}
use Rattle.vfm_outside.specs.Told.{with_prepended}
use Rattle.vfm_outside.specs.Tells.{SourceTells, WiresTell}
use Rattle.vfm_plain.specs.Report.{Made, journal, past, source_past}
use Rattle.vfm_desc.specs.Reading.{Gives}
use Rattle.vfm_desc.specs.Described.{description_of}
use Rattle.vfm_top.specs.declared.words.Form.{Form}
use Rattle.vfm_top.specs.declared.words.Form.TheVariants.{Run, Load}
use Rattle.vfm_status.specs.declared.status.Status.{Status}
use Rattle.vfm_status.specs.declared.status.Status.TheVariants.{Printed, BadWords, BadDescription, ReadFault, WriteFault, PathRefused, Broken, BadReport, StateDiffers, NoMemory}
use Rattle.vfm_move.specs.Contact.{Contact, Untouched}
use Rattle.vfm_move.specs.Causes as migrating
use Rattle.vfm_move.specs.Causes.{Attempt, Story}
use Rattle.vfm_move.specs.Move as migrating_move
use Rattle.vfm_core.specs.CoreState.{CoreState}
use Rattle.vfm_source.specs.Source.{MoverState}
use Rattle.vfm_dest.specs.StagedCores.{StagedState}
use Rattle.vfm_migrate.specs.declared.migration.Migration.{Migration}
use Rattle.vfm_migrate.specs.Migrations.{CameTo, IsMigrated, IsSourceOf, attempt_of, made_by, made_in, story_of}
use Rattle.vfm_top.specs.Call.{Call, attempt_in, first_bytes, read_limit, report_limit, IsReadTo}
use Rattle.vfm_top.specs.Causes.{CauseOf, HasCause, IsAsked, MoveCause, OfDescription}
use Rattle.vfm_top.specs.Form.{form_of}
use Rattle.vfm_top.specs.Table.{Reached}
use Rattle.vfm_top.specs.Answers.{IsMoveOf}
use Rattle.vfm_top.specs.Outcome.{HasOutcome, IsCallOver, IsLoadOver, IsOfOneMachine, IsPrintableMigration, MoveTells, nothing_made}
use Rattle.vfm_top.specs.Sources.{status_of, IsRefusal, IsDescribed, IsUndescribed, IsBadReport, IsNoReport, IsUnreported}
use Rattle.vfm_top.proofs.Causes.{HasNoFail, explained, explained_load, explained_move}

-- ---- reading

-- what is said of the bytes that were read is said of those that were to be read, where the source shows them
of_first : (most : ℕ) (P : List ℕ → Type 0) (given : List ℕ) (left : Option (List ℕ)) → IfSome left (λ all. given ≡ take most all) → P given
    → IfSome (option_map (take most) left) P
of_first most P given None first p = tt
of_first most P given (Some all) first p = subst P first p

rest_is : (most : ℕ) (given : List ℕ) (left now : Option (List ℕ)) → IfSome left (λ all. given ≡ take most all) → left ≡ with_prepended given now
    → now ≡ option_map (drop most) left
rest_is most given None None first read = refl
rest_is most given None (Some rest) first read = absurd cc
rest_is most given (Some all) None first read = absurd cc
rest_is most given (Some all) (Some rest) first read =
    let all_is = ap (λ told. unwrap_or told []) read in
    ap Some (append_cancel_left given rest (drop most all) (sym all_is ∙ (sym (take-append-drop most all) ∙ ap (λ t. t ++ drop most all) (sym first))))

pub read_to : (most : ℕ) (P : List ℕ → Type 0) (items : List ℕ) (old new : SourceTells) → IfSome old.left (λ all. items ≡ take most all)
    → old.left ≡ with_prepended items new.left → new.faults ≡ old.faults → P items → IsReadTo most P old new
read_to most P items old new first read quiet p =
    record {
      bytes = of_first most P items old.left first p;
      rest = rest_is most items old.left new.left first read;
      no_fault = quiet;
    }

-- the same of other words for what a source shows
pub read_over : (most : ℕ) (P : List ℕ → Type 0) (old new before now : SourceTells) → before ≡ old → now ≡ new → IsReadTo most P old new
    → IsReadTo most P before now
read_over most P old new before now was is read = rw (was, is) read

pub refusal : (bytes : List ℕ) (fault : DescFault) → Gives (λ (desc : Desc). desc) (Err fault) (description_of bytes) → IsRefusal bytes (status_of fault)
refusal bytes Memory gives = tt
refusal bytes fault gives = gives

-- why bytes are no description is why their source is none
pub undescribed : (items : List ℕ) (old new : SourceTells) (status : Status) → IfSome old.left (λ all. items ≡ take read_limit all)
    → old.left ≡ with_prepended items new.left → new.faults ≡ old.faults → IsRefusal items status → IsUndescribed old new status
undescribed items old new (BadDescription fault) first read quiet is =
    read_to read_limit (λ bytes. description_of bytes ≡ Err fault) items old new first read quiet is
undescribed items old new NoMemory first read quiet is = quiet
undescribed items old new status first read quiet is = absurd is

pub unreported : (D : Desc) (items : List ℕ) (old new : SourceTells) (status : Status) → IfSome old.left (λ all. items ≡ take report_limit all)
    → old.left ≡ with_prepended items new.left → new.faults ≡ old.faults → IsNoReport D items status → IsUnreported D old new status
unreported D items old new (BadReport line) first read quiet is =
    read_to report_limit (IsBadReport D line) items old new first read quiet is
unreported D items old new NoMemory first read quiet is = quiet
unreported D items old new status first read quiet is = absurd is

-- what holds of an answer, by what follows from it
pub ok_so : {A E : Type 0} (P Q : A → Type 0) (answer : Result A E) → ((x : A) → P x → Q x) → IfOk answer P → IfOk answer Q
ok_so P Q (Ok x) more holds = more x holds
ok_so P Q (Err e) more holds = tt

pub ok_both : {A E : Type 0} (P O Q : A → Type 0) (answer : Result A E) → ((x : A) → P x → O x → Q x) → IfOk answer P → IfOk answer O
    → IfOk answer Q
ok_both P O Q (Ok x) more p o = more x p o
ok_both P O Q (Err e) more p o = tt

pub err_so : {A E : Type 0} (P Q : E → Type 0) (answer : Result A E) → ((e : E) → P e → Q e) → IfErr answer P → IfErr answer Q
err_so P Q (Ok x) more holds = tt
err_so P Q (Err e) more holds = more e holds

-- ---- a move

pub cause_of : (call : Call) (form : Option Form) (story : Story) → form_of call.words ≡ form → CauseOf form story.status call story
    → HasCause call story
cause_of call form story is cause = subst (λ (f : Option Form). CauseOf f story.status call story) (sym is) cause

-- an outcome at which nothing was made
unmade : (pass : ℕ) (old new : MoveTells) (call : Call) (status : Status) → IsCallOver pass old new call → new.wires ≡ old.wires
    → Reached status None Untouched → MoveCause pass status call (nothing_made status)
    → ((status ≡ ReadFault → ⊥) → new.desc.faults ≡ old.desc.faults) → HasOutcome call status None
unmade pass old new call status over same reached cause quiet =
    record {
      contact = Untouched;
      outcome = record {
        reached = reached;
        explained = explained call status (cause_of call (Some (Run pass)) (nothing_made status) over.asked cause);
        move_of = tt;
        untouched = λ none. rw (over.wires_before, over.wires_now) same;
        no_read_failed = λ other. (rw (over.before, over.now) (quiet other), rw over.unaudited refl);
      };
    }

-- a description that is none
pub refused : (pass : ℕ) (old new : MoveTells) (call : Call) (status : Status) → IsCallOver pass old new call → new.wires ≡ old.wires
    → IsUndescribed old.desc new.desc status → HasOutcome call status None
refused pass old new call (BadDescription fault) over same is =
    unmade pass old new call (BadDescription fault) over same tt
    (read_over _ _ old.desc new.desc call.before.desc call.now.desc over.before over.now is) (λ other. is.no_fault)
refused pass old new call ReadFault over same is =
    unmade pass old new call ReadFault over same tt (rw (over.before, over.now) is) (λ other. absurd (other refl))
refused pass old new call NoMemory over same is = unmade pass old new call NoMemory over same tt tt (λ other. is)
refused pass old new call status over same is = absurd is

-- a migration comes to no other status
reached_move : (status : Status) (made : Option Made) (contact : Contact) (attempt : Attempt) (story : Story)
    → migrating.HasCause status attempt story → CameTo status made contact → Reached status made contact
reached_move Printed made contact attempt story cause came = absurd cause
reached_move BadWords made contact attempt story cause came = absurd cause
reached_move (BadDescription fault) made contact attempt story cause came = absurd cause
reached_move ReadFault made contact attempt story cause came = absurd cause
reached_move WriteFault made contact attempt story cause came = absurd cause
reached_move (PathRefused fault) made contact attempt story cause came = absurd cause
reached_move (Broken place rule) made contact attempt story cause came = absurd cause
reached_move (BadReport line) made contact attempt story cause came = absurd cause
reached_move (StateDiffers section) made contact attempt story cause came = absurd cause
reached_move status made contact attempt story cause came = came

well : (D : Desc) (bytes : Option (List ℕ)) → IfSome bytes (λ read. description_of read ≡ Ok D) → IfSome bytes (λ read. IsOk (description_of read))
well D None is = tt
well D (Some bytes) is = rw is refl

described_well : (call : Call) (D : Desc) → OfDescription call (λ answer. answer ≡ Ok D) → OfDescription call (λ answer. IsOk answer)
described_well call D read =
    record { bytes = well D (first_bytes read_limit call.before.desc) read.bytes; rest = read.rest; no_fault = read.no_fault }

-- what was made is of the machine that was asked for
asked_move : (call : Call) (pass : ℕ) (D : Desc) (story : Story) (status : Status) (source : Option MoverState) (loaded : Option StagedState)
    (taken_over : Option CoreState) → form_of call.words ≡ Some (Run pass) → IsAsked call D → IfSome source (λ source. IsSourceOf D source)
    → IfSome (option_map (λ source. made_by status source loaded taken_over) source)
    (λ made. migrating_move.IsMoveOf (attempt_in call pass) story made)
    → IfSome (option_map (λ source. made_by status source loaded taken_over) source) (λ made. IsMoveOf call story made)
asked_move call pass D story status None loaded taken_over form asked same moves = tt
asked_move call pass D story status (Some source) loaded taken_over form asked same moves =
    record { asked = rw same.desc asked; move_of = rw form moves }

-- a machine that was described, and migrated or not
pub migrated : (pass : ℕ) (old new : MoveTells) (call : Call) (D : Desc) (migration : Migration) → IsCallOver pass old new call
    → IsDescribed old.desc new.desc D → IsMigrated (attempt_of pass old.wires new.wires) D migration
    → HasOutcome call migration.status (made_in migration)
migrated pass old new call D migration over is moves =
    let read = read_over read_limit (λ bytes. description_of bytes ≡ Ok D) old.desc new.desc call.before.desc call.now.desc over.before over.now is.read in
    let here : IsMigrated (attempt_in call pass) D migration = rw (over.wires_before, over.wires_now) moves in
    let story = story_of migration here.contact in
    record {
      contact = here.contact;
      outcome = record {
        reached = reached_move migration.status (made_in migration) here.contact (attempt_in call pass) story here.explained.cause here.reached;
        explained = explained_move call pass story over.asked (described_well call D read) here.explained;
        move_of = asked_move call pass D story migration.status migration.source migration.loaded migration.taken_over over.asked (rw over.asked read.bytes)
            here.source here.move_of;
        untouched = here.untouched;
        no_read_failed = λ other. (read.no_fault, rw over.unaudited refl);
      };
    }

-- a byte numbers the devices of a valid description
few_devices : (D : Desc) → IsValid D → device_count D < 256
few_devices D valid =
    let few : device_count D ≤ 8 = valid.in_range.count_high in
    omega arith

-- what it made can be printed
pub printable : (attempt : Attempt) (D : Desc) (migration : Migration) → IsValid D → IsMigrated attempt D migration → IsPrintableMigration migration
printable attempt D migration valid moves =
    parts_of migration.source migration.loaded migration.taken_over moves.source moves.loaded moves.taken_over
  where
    same_desc : {X : Type 0} (desc_in : X → Desc) (there : Option X) (E : Desc) → E ≡ D → IfSome there (λ x. desc_in x ≡ D)
        → IfSome there (λ x. desc_in x ≡ E)
    same_desc desc_in None E is all = tt
    same_desc desc_in (Some x) E is all = all ∙ sym is

    parts_of : (source : Option MoverState) (loaded : Option StagedState) (taken_over : Option CoreState)
        → IfSome source (λ source. IsSourceOf D source) → IfSome loaded (λ staged. staged.core.desc ≡ D)
        → IfSome taken_over (λ core. core.desc ≡ D) → IfSome source (λ source. IsOfOneMachine source loaded taken_over)
    parts_of None loaded taken_over same staged taken = tt
    parts_of (Some source) loaded taken_over same staged taken =
        record {
          moves = same.moves;
          few = rw same.desc (few_devices D valid);
          loaded = same_desc (λ (staged : StagedState). staged.core.desc) loaded source.core.desc same.desc staged;
          taken_over = same_desc (λ (core : CoreState). core.desc) taken_over source.core.desc same.desc taken;
        }

-- ---- a generated load

never_fails_load : (N : ℕ) → NeverFails (generated N)
unfolding load_shape
never_fails_load N d inside =
    ap (λ (shape : DevShape). shape.fails) (shape_is N d (subst (λ (k : ℕ). d < k) (devices_are N) inside))

-- in a run of a load no arc fails
no_fail : (N : ℕ) (made : Made) → made.desc ≡ generated N → IsLegal made.desc (past made) → (d : ℕ) (to : MigState)
    → Contains (source_past made) (Fail d to) → ⊥
no_fail N made is legal d to found =
    let all : Contains (journal made) (Fail d to) =
    Contains-append_left made.source (unwrap_or made.destination []) (Fail d to) (from_reverse made.source (Fail d to) found) in
    never_fails (generated N) (past made) (subst (λ (D : Desc). IsLegal D (past made)) is legal) (never_fails_load N) d to
    (in_reverse (journal made) (Fail d to) all)

none_fails : (N : ℕ) (D : Desc) (attempt : Attempt) (story : Story) (status : Status) (source : Option MoverState) (loaded : Option StagedState)
    (taken_over : Option CoreState) → D ≡ generated N → IfSome source (λ source. IsSourceOf D source)
    → IfSome (option_map (λ source. made_by status source loaded taken_over) source) (λ made. migrating_move.IsMoveOf attempt story made)
    → IfSome (option_map (λ source. made_by status source loaded taken_over) source)
    (λ made. (d : ℕ) (to : MigState) → Contains (source_past made) (Fail d to) → ⊥)
none_fails N D attempt story status None loaded taken_over is same moves = tt
none_fails N D attempt story status (Some source) loaded taken_over is same moves =
    no_fail N (made_by status source loaded taken_over) (same.desc ∙ is) moves.safe.run.legal

asked_load : (call : Call) (N : ℕ) (D : Desc) (story : Story) (status : Status) (source : Option MoverState) (loaded : Option StagedState)
    (taken_over : Option CoreState) → form_of call.words ≡ Some (Load N) → D ≡ generated N → IfSome source (λ source. IsSourceOf D source)
    → IfSome (option_map (λ source. made_by status source loaded taken_over) source)
    (λ made. migrating_move.IsMoveOf (attempt_in call 0) story made)
    → IfSome (option_map (λ source. made_by status source loaded taken_over) source) (λ made. IsMoveOf call story made)
asked_load call N D story status None loaded taken_over form is same moves = tt
asked_load call N D story status (Some source) loaded taken_over form is same moves =
    record { asked = rw form (same.desc ∙ is); move_of = rw form moves }

-- a load that was generated, and migrated or not
pub load_migrated : (N : ℕ) (old new : WiresTell) (call : Call) (D : Desc) (migration : Migration) → IsLoadOver N old new call
    → D ≡ generated N → IsMigrated (attempt_of 0 old new) D migration → HasOutcome call migration.status (made_in migration)
load_migrated N old new call D migration over is moves =
    let here : IsMigrated (attempt_in call 0) D migration = rw (over.wires_before, over.wires_now) moves in
    let story = story_of migration here.contact in
    record {
      contact = here.contact;
      outcome = record {
        reached = reached_move migration.status (made_in migration) here.contact (attempt_in call 0) story here.explained.cause here.reached;
        explained = explained_load call N story over.asked
            (none_fails N D (attempt_in call 0) story migration.status migration.source migration.loaded migration.taken_over is here.source here.move_of)
            here.explained;
        move_of = asked_load call N D story migration.status migration.source migration.loaded migration.taken_over over.asked is
            here.source here.move_of;
        untouched = here.untouched;
        no_read_failed = λ other. (rw over.unread refl, rw over.unaudited refl);
      };
    }

-- memory ran out before it was generated
pub load_refused : (N : ℕ) (old new : WiresTell) (call : Call) → IsLoadOver N old new call → new ≡ old → HasOutcome call NoMemory None
load_refused N old new call over same =
    record {
      contact = Untouched;
      outcome = record {
        reached = tt;
        explained = explained call NoMemory (cause_of call (Some (Load N)) (nothing_made NoMemory) over.asked tt);
        move_of = tt;
        untouched = λ none. rw (over.wires_before, over.wires_now) same;
        no_read_failed = λ other. (rw over.unread refl, rw over.unaudited refl);
      };
    }
