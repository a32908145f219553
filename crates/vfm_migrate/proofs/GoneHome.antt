-- A source that gave up, and went on until every device was RUNNING and idle.
use Rattle.std.proofs.Common.{◌≡◌, List, [], ◌∷◌, ◌++◌, reverse, None, sym, ◌∙◌, ap}
use Rattle.std.proofs.lemmas.List.{reverse-append, reverse-reverse}
use Rattle.vfm_types.specs.declared.entry.Entry.{Entry}
use Rattle.vfm_types.specs.declared.entry.Entry.TheVariants.{Abort}
use Rattle.vfm_core.specs.CoreState.{FitsDesc}
use Rattle.vfm_drive.specs.Endings.{HasGivenUp}
use Rattle.vfm_source.specs.Moving.{past_in}
use Rattle.vfm_source.specs.Source.{MoverState, Moves}
use Rattle.vfm_source.proofs.Moves.{machine_now}
use Rattle.vfm_migrate.specs.Concluding.{IsGoneHome}

-- the journal behind an entry and more, newest first
behind : (entries more all : List Entry) (entry : Entry) → all ≡ (entries ++ entry ∷ []) ++ reverse more
    → reverse all ≡ more ++ entry ∷ reverse entries
behind entries more all entry is =
    ap reverse is ∙ reverse-append (entries ++ entry ∷ []) (reverse more)
    ∙ ap (λ (first : List Entry). first ++ reverse (entries ++ entry ∷ [])) (reverse-reverse more)
    ∙ ap (λ (last : List Entry). more ++ last) (reverse-append entries (entry ∷ []))

pub gone_home : (old new : MoverState) → FitsDesc new.core.desc new.core.world → (given : HasGivenUp old.core new.core None (past_in old.core))
    → Moves (given.on.more ++ Abort ∷ past_in old.core) new → IsGoneHome old new
gone_home old new fits given moves =
    let D = old.core.desc in
    let more = given.on.more in
    let later = more ++ Abort ∷ past_in old.core in
    let journal : past_in new.core ≡ later = behind old.core.entries more new.core.entries Abort given.on.journal in
    let desc : new.core.desc ≡ D = given.on.desc in
    record {
      desc = desc;
      on = record {
        more = more;
        journal = journal;
        legal = rw (journal, ← desc) given.on.run.legal;
        went_on = rw (journal, ← desc) given.went_on;
        machine = rw (journal, ← desc) (sym (machine_now new.core.desc later new.core.world fits given.on.run));
      };
      moves = rw journal moves;
    }
