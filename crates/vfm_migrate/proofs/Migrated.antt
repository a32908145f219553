-- What a migration came to, once its source gave up or the destination took over.
use Rattle.std.proofs.Common.{◌≡◌, List, [], ◌∷◌, length, Option, Some, None, IfSome, Result, Ok, Err, refl, sym, ◌∙◌, ap, subst, inr}
use Rattle.std.specs.Prelude.{option_map}
use Rattle.std.proofs.lemmas.List.{reverse-reverse}
use Rattle.vfm_types.specs.declared.desc.Desc.{Desc}
use Rattle.vfm_types.specs.declared.entry.Entry.{Entry}
use Rattle.vfm_types.specs.declared.fault.LinkPlace.TheVariants.{Connect}
use Rattle.vfm_types.specs.Valid.{IsValid}
use Rattle.vfm_outside.specs.Links.{ToldEnds}
use Rattle.vfm_outside.specs.Tells.{WiresTell}
use Rattle.vfm_outside.specs.Told.{with_appended, with_appended-nil}
use Rattle.vfm_plain.specs.Report.{Made}
use Rattle.vfm_core.specs.CoreState.{CoreState, first_core}
use Rattle.vfm_core.specs.Machines.{machine_in}
use Rattle.vfm_dest.specs.StagedCores.{StagedState}
use Rattle.vfm_source.specs.Moving.{past_in}
use Rattle.vfm_source.specs.Source.{MoverState, Moves}
use Rattle.vfm_status.specs.declared.status.Status.{Status}
use Rattle.vfm_status.specs.declared.status.Doubt.{Doubt}
use Rattle.vfm_status.specs.declared.status.Status.TheVariants.{InDoubt, LinkFault, Moved, NoMemory}
use Rattle.vfm_move_laws.specs.Copies.{KeepsCopies}
use Rattle.vfm_move.specs.Contact.{Failed, Linked, Untouched}
use Rattle.vfm_move.specs.Table.{Owner, WentOn, owner_at}
use Rattle.vfm_move.specs.Causes.{Attempt, HasCause, IsExplained}
use Rattle.vfm_move.specs.Move.{GoesOn, HasEnded, IsDecided, IsMoveOf, WiresDid, came_to, gone_on, joint_in}
use Rattle.vfm_move.specs.Answered.{gone_alone, without_links}
use Rattle.vfm_move.proofs.Cases.{to_memory}
use Rattle.vfm_move.proofs.Ended.{failed_wires_explain, failed_wires_move, is_explained, is_move, no_memory_explains, no_memory_moves}
use Rattle.vfm_move.proofs.GivenUp.{ended, kept}
use Rattle.vfm_migrate.specs.Carrying.{machine_of_staged}
use Rattle.vfm_migrate.specs.Committing.{Commits}
use Rattle.vfm_migrate.specs.Outcomes.{concluded}
use Rattle.vfm_migrate.specs.Concluding.{HasConnected, HasTakenBack, IsGoneHome}
use Rattle.vfm_migrate.specs.Migrations.{CameTo, IsMigrated, IsSourceOf, last_core, made_by}
use Rattle.vfm_migrate.specs.Offered.{made_so_far}

-- the same parts are one
pub same_made : (a b : Made) → a.desc ≡ b.desc → a.source ≡ b.source → a.joint ≡ b.joint → a.loaded ≡ b.loaded
    → a.destination ≡ b.destination → a.final ≡ b.final → a ≡ b
same_made a b desc source joint loaded destination final = e
  where
    e : record {
      desc = a.desc;
      source = a.source;
      joint = a.joint;
      loaded = a.loaded;
      destination = a.destination;
      final = a.final;
    } ≡ b
    e = rw (desc, source, joint, loaded, destination, final) refl

-- ---- a source that gave up

joint_kept : (D : Desc) (past later : List Entry) → KeepsCopies D past later → joint_in D later ≡ joint_in D past
joint_kept D past later keeps = rw (keeps.joint, keeps.machine) refl

last_gone : (owner : Owner) (source : CoreState) → owner ≡ WentOn → option_map (λ core. machine_in core.world) (last_core owner source None) ≡ Some (machine_in source.world)
last_gone owner source is = rw is refl

made_gone : (status : Status) (old new : MoverState) (loaded : Option StagedState) → owner_at status ≡ WentOn → IsGoneHome old new
    → made_by status new loaded None
    ≡ gone_on (made_so_far old.core (option_map machine_of_staged loaded)) (past_in new.core) (machine_in new.core.world)
made_gone status old new loaded on home =
    same_made _ (gone_on (made_so_far old.core (option_map machine_of_staged loaded)) (past_in new.core) (machine_in new.core.world))
    home.desc (sym (reverse-reverse new.core.entries))
    (ap (λ (D : Desc). joint_in D (past_in new.core)) home.desc
    ∙ joint_kept old.core.desc (past_in old.core) (past_in new.core)
    (kept old.core.desc (past_in old.core) (past_in new.core) (machine_in new.core.world) home.on))
    refl refl (last_gone (owner_at status) new.core on)

-- what was decided has ended then
pub decided_ends : (attempt : Attempt) (status : Status) (old new : MoverState) (loaded : Option StagedState) (ends : ToldEnds)
    → IsValid old.core.desc → owner_at status ≡ WentOn → IsGoneHome old new
    → IsDecided attempt status (made_so_far old.core (option_map machine_of_staged loaded)) ends
    → HasEnded attempt status (made_by status new loaded None) ends
decided_ends attempt status old new loaded ends valid on home decided =
    let made = made_so_far old.core (option_map machine_of_staged loaded) in
    subst (λ (made : Made). HasEnded attempt status made ends) (sym (made_gone status old new loaded on home))
    (ended attempt status made ends (past_in new.core) (machine_in new.core.world) valid on decided home.on)

-- ---- over links

-- over links a move doesn't come to wires that failed
came_linked : (status : Status) (attempt : Attempt) (made : Made) (ends : ToldEnds) → HasCause status attempt (came_to status made ends)
    → CameTo status (Some made) (Linked ends)
came_linked (LinkFault Connect) attempt made ends cause = absurd (linked_failed ends cause.0)
  where
    linked_failed : (ends : ToldEnds) → Linked ends ≡ Failed → ⊥
    linked_failed ends is = cc
came_linked status attempt made ends cause = tt

pub migrated : (attempt : Attempt) (D : Desc) (status : Status) (source : MoverState) (loaded : Option StagedState) (taken : Option CoreState)
    (ends : ToldEnds) (middle : WiresTell) → IsValid D → IsSourceOf D source → IfSome loaded (λ staged. staged.core.desc ≡ D)
    → IfSome taken (λ core. core.desc ≡ D) → HasConnected D.channels attempt.before middle → HasTakenBack ends middle attempt.now
    → length ends.source ≡ D.channels → length ends.dest ≡ D.channels → HasEnded attempt status (made_by status source loaded taken) ends
    → IsMigrated attempt D (record { status = status; source = Some source; loaded = loaded; taken_over = taken })
migrated attempt D status source loaded taken ends middle valid of_desc staged over connected back sources dests has =
    let made = made_by status source loaded taken in
    let wires : WiresDid (Linked ends) D.channels attempt.before attempt.now =
    (back.carried, rw connected.faults at back.faults, sources, dests) in
    let asked : attempt.now.asked ≡ with_appended attempt.before.asked (D.channels ∷ []) = back.asked ∙ connected.asked in
    record {
      contact = Linked ends;
      reached = came_linked status attempt made ends has.explained.cause;
      explained = is_explained attempt status made ends has;
      move_of = is_move attempt status made ends (rw of_desc.desc valid) (rw of_desc.desc wires) (rw of_desc.desc asked) has;
      source = of_desc;
      loaded = staged;
      taken_over = over;
      untouched = λ none. absurd cc;
    }

-- ---- without links

-- a source that had made nothing gave up
alone_made : (status : Status) (D : Desc) (old new : MoverState) → owner_at status ≡ WentOn → old.core ≡ first_core D → IsGoneHome old new
    → made_by status new None None ≡ gone_alone D (past_in new.core) (machine_in new.core.world)
alone_made status D old new on fresh home =
    made_gone status old new None on home
    ∙ ap (λ (core : CoreState). gone_on (made_so_far core None) (past_in new.core) (machine_in new.core.world)) fresh

goes_alone : (D : Desc) (old new : MoverState) → old.core ≡ first_core D → IsGoneHome old new
    → GoesOn D [] (past_in new.core) (machine_in new.core.world)
goes_alone D old new fresh home =
    subst (λ (core : CoreState). GoesOn core.desc (past_in core) (past_in new.core) (machine_in new.core.world)) fresh home.on

source_alone : (D : Desc) (old new : MoverState) → old.core ≡ first_core D → IsGoneHome old new → IsSourceOf D new
source_alone D old new fresh home =
    record { desc = home.desc ∙ ap (λ (core : CoreState). core.desc) fresh; moves = home.moves }

pub not_connected : (attempt : Attempt) (D : Desc) (old new : MoverState) → IsValid D → old.core ≡ first_core D → IsGoneHome old new
    → WiresDid Failed D.channels attempt.before attempt.now
    → attempt.now.asked ≡ with_appended attempt.before.asked (D.channels ∷ [])
    → IsMigrated attempt D (record { status = LinkFault Connect; source = Some new; loaded = None; taken_over = None })
not_connected attempt D old new valid fresh home wires asked =
    let later = past_in new.core in
    let final = machine_in new.core.world in
    let status : Status = LinkFault Connect in
    let same = sym (alone_made status D old new refl fresh home) in
    let goes = goes_alone D old new fresh home in
    record {
      contact = Failed;
      reached = tt;
      explained = subst (λ (made : Made). IsExplained attempt (without_links status made Failed)) same
          (failed_wires_explain attempt D later final wires goes);
      move_of = subst (λ (made : Made). IsMoveOf attempt (without_links status made Failed) made) same
          (failed_wires_move attempt D later final valid wires asked goes);
      source = source_alone D old new fresh home;
      loaded = tt;
      taken_over = tt;
      untouched = λ none. absurd cc;
    }

pub no_links : (attempt : Attempt) (D : Desc) (old new : MoverState) → IsValid D → old.core ≡ first_core D → IsGoneHome old new
    → attempt.now ≡ attempt.before
    → IsMigrated attempt D (record { status = NoMemory; source = Some new; loaded = None; taken_over = None })
no_links attempt D old new valid fresh home still =
    let later = past_in new.core in
    let final = machine_in new.core.world in
    let same = sym (alone_made NoMemory D old new refl fresh home) in
    let wires : WiresDid Untouched D.channels attempt.before attempt.now =
    (ap (λ (wires : WiresTell). wires.carried) still, ap (λ (wires : WiresTell). wires.faults) still) in
    let asked : attempt.now.asked ≡ with_appended attempt.before.asked [] =
    ap (λ (wires : WiresTell). wires.asked) still ∙ sym (with_appended-nil attempt.before.asked) in
    record {
      contact = Untouched;
      reached = tt;
      explained = subst (λ (made : Made). IsExplained attempt (without_links NoMemory made Untouched)) same
          (no_memory_explains attempt D later final);
      move_of = subst (λ (made : Made). IsMoveOf attempt (without_links NoMemory made Untouched) made) same
          (no_memory_moves attempt D later final valid wires asked (goes_alone D old new fresh home));
      source = source_alone D old new fresh home;
      loaded = tt;
      taken_over = tt;
      untouched = λ none. still;
    }

-- memory ran out before a source stood
pub no_source : (attempt : Attempt) (D : Desc) → attempt.now ≡ attempt.before
    → IsMigrated attempt D (record { status = NoMemory; source = None; loaded = None; taken_over = None })
no_source attempt D still =
    record {
      contact = Untouched;
      reached = tt;
      explained = record { cause = tt; exact = λ brought brings. inr (to_memory brought) };
      move_of = tt;
      source = tt;
      loaded = tt;
      taken_over = tt;
      untouched = λ none. still;
    }

-- ---- once Go was said

pub committed_ends : (attempt : Attempt) (D : Desc) (source : MoverState) (answer : Result CoreState Doubt) (ends : ToldEnds) (middle : WiresTell)
    → IsValid D → IsSourceOf D source → HasConnected D.channels attempt.before middle → HasTakenBack ends middle attempt.now
    → length ends.source ≡ D.channels → length ends.dest ≡ D.channels → Commits attempt source.core ends answer
    → IsMigrated attempt D (concluded source answer)
committed_ends attempt D source (Ok taken) ends middle valid of_desc connected back sources dests commits =
    migrated attempt D Moved source None (Some taken) ends middle valid of_desc tt (commits.1 ∙ of_desc.desc) connected back sources dests commits.0
committed_ends attempt D source (Err doubt) ends middle valid of_desc connected back sources dests commits =
    migrated attempt D (InDoubt doubt) source None None ends middle valid of_desc tt tt connected back sources dests commits

-- how far a source has come doesn't count for what it moves
pub moved_as : (old new : MoverState) → new.core ≡ old.core → new.joint ≡ old.joint → Moves (past_in old.core) old → Moves (past_in new.core) new
moved_as old new core joint moves = record { run = rw core moves.run; joint = rw (core, joint) moves.joint }

-- wires that tell the same
pub wires_same : (a b : WiresTell) → a.asked ≡ b.asked → a.carried ≡ b.carried → a.faults ≡ b.faults → a ≡ b
wires_same a b asked carried faults = e
  where
    e : record { asked = a.asked; carried = a.carried; faults = a.faults } ≡ b
    e = rw (asked, carried, faults) refl
