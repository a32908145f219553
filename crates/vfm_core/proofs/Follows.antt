-- A core whose parts are those of a list goes on as the list does; so does one that was staged after a list.
use Rattle.std.proofs.Common.{◌≡◌, ◌≤◌, true, false, List, [], ◌∷◌, ◌++◌, Option, None, Some, is_none, IsTrue, refl, ap, sym, subst, ◌∙◌, arith}
use Rattle.std.proofs.lemmas.Bool.{false≢true}
use Rattle.std.proofs.lemmas.List.{length-map, length-replicate}
use Rattle.vfm_types.specs.declared.desc.Desc.{Desc}
use Rattle.vfm_types.specs.declared.entry.Entry.{Entry}
use Rattle.vfm_types.specs.declared.entry.Rule.{Rule}
use Rattle.vfm_types.specs.Valid.{IsValid}
use Rattle.vfm_plain.specs.Legal.{IsLegal, is_entry_of}
use Rattle.vfm_plain.specs.Rules.{fault_of}
use Rattle.vfm_laws.proofs.Rising.{by_bool}
use Rattle.vfm_parts.specs.Parts.{World, parts_in}
use Rattle.vfm_parts.specs.PartsOf.{world_of}
use Rattle.vfm_parts.specs.Start.{first_dev, first_world}
use Rattle.vfm_parts.specs.Steps.{after_on, fault_on}
use Rattle.vfm_parts.proofs.Faults.{fault_told}
use Rattle.vfm_parts.proofs.Worlds.{world_after, world_first, world_tells}
use Rattle.vfm_parts_laws.specs.EntriesLeft.{PartsStand, entries_left, room_of_run}
use Rattle.vfm_parts_laws.specs.StagedParts.{IsStagedAfter}
use Rattle.vfm_parts_laws.proofs.FittingWorlds.{first_fits}
use Rattle.vfm_parts_laws.proofs.RoomWorlds.{first_room, list_stands}
use Rattle.vfm_parts_laws.proofs.StagedWorlds.{staged_allowed, staged_legal, staged_follows}
use Rattle.vfm_parts_laws.proofs.SealedSteps.{is_refused, refused}
use Rattle.vfm_core.proofs.Counted.{counted_on}
use Rattle.vfm_core.specs.CoreState.{CoreState, IsAfter, IsKept, IsStagedOn, with_entry}

-- the parts judge as the list does
pub rule_is : (D : Desc) (w : World) (entry : Entry) (past : List Entry) → IsTrue (is_entry_of D entry) → w ≡ world_of D past → fault_on D w entry ≡ fault_of D past entry
rule_is D w entry past named told =
    ap (λ (v : World). fault_on D v entry) told ∙ fault_told D past (parts_in (world_of D past)) (world_tells D past) entry named

-- the parts after an allowed entry are those of the longer list, which is legal
pub follows : (old new : CoreState) (entry : Entry) (past : List Entry) → IsValid old.desc → IsTrue (is_entry_of old.desc entry)
    → IsAfter old.desc past old.world → fault_on old.desc old.world entry ≡ None → new ≡ with_entry entry (after_on old.desc old.world entry) old
    → IsAfter new.desc (entry ∷ past) new.world
follows old new entry past valid named is fine made =
    let longer : IsLegal old.desc (entry ∷ past) = (named, sym (rule_is old.desc old.world entry past named is.told) ∙ fine, is.legal) in
    subst (λ (s : CoreState). IsAfter s.desc (entry ∷ past) s.world) (sym made) record {
      legal = longer;
      told = ap (λ (v : World). after_on old.desc v entry) is.told ∙ world_after old.desc past entry valid longer;
    }

-- no fault is no fault
none_of : {X : Type 0} (o : Option X) → is_none o ≡ true → o ≡ None
none_of None e = refl
none_of (Some x) e = absurd (false≢true e)

-- staged parts allow what the joined list allows
pub staged_fine : (D : Desc) (w : World) (entry : Entry) (past : List Entry) → IsTrue (is_entry_of D entry) → IsStagedAfter D past w
    → fault_on D w entry ≡ None → fault_of D past entry ≡ None
staged_fine D w entry past named after fine =
    none_of (fault_of D past entry) (sym (staged_allowed D past w entry after named) ∙ ap is_none fine)

pub staged_refused : (D : Desc) (w : World) (entry : Entry) (past : List Entry) (rule : Rule) → IsTrue (is_entry_of D entry) → IsStagedAfter D past w
    → fault_on D w entry ≡ Some rule → is_none (fault_of D past entry) ≡ false
staged_refused D w entry past rule named after broken =
    sym (staged_allowed D past w entry after named) ∙ ap is_none broken

pub staged_goes_on : (old new : CoreState) (entry : Entry) (before mine : List Entry) → IsValid old.desc → IsTrue (is_entry_of old.desc entry)
    → IsStagedOn old.desc before mine old.world → fault_on old.desc old.world entry ≡ None
    → new ≡ with_entry entry (after_on old.desc old.world entry) old → IsStagedOn new.desc before (entry ∷ mine) new.world
staged_goes_on old new entry before mine valid named is fine made =
    subst (λ (s : CoreState). IsStagedOn s.desc before (entry ∷ mine) s.world) (sym made) record {
      legal = staged_legal old.desc (mine ++ before) old.world entry is.legal is.after named fine;
      after = staged_follows old.desc (mine ++ before) old.world entry valid is.legal is.after named fine;
      counted = counted_on old.desc old.world entry before mine valid is.legal going is.counted;
    }
  where
    going : is_refused entry ≡ false
    going =
        by_bool (is_refused entry) (λ b. is_refused entry ≡ b → b ≡ false)
        (λ barred e. absurd (refused old.desc (parts_in old.world) is.after.own entry e fine)) (λ allowed e. refl) refl

-- what the core of the described machine keeps
pub first_kept : (D : Desc) → IsValid D → IsKept D [] (room_of_run D) (first_world D)
first_kept D valid =
    record {
      fit = record { valid = valid; devs = length-map D.devices first_dev; pages = length-replicate D.pages _; fits = first_fits D valid };
      stand = subst (λ (w : World). PartsStand D (parts_in w)) (world_first D) (list_stands D [] valid tt);
      roomy = let room = subst (λ (w : World). entries_left D (parts_in w) ≤ room_of_run D) (world_first D) (first_room D valid) in omega arith;
    }
