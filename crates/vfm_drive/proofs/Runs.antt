-- One entry more of a run.
use Rattle.std.proofs.Common.{◌≡◌, ◌||◌, Bool, List, [], ◌∷◌, ◌++◌, reverse, Option, None, Some, is_none, IsTrue, refl, ap, ap₂, sym, ◌∙◌, subst, arith}
use Rattle.std.proofs.lemmas.List.{append-nil, append_assoc, length-append, reverse-append}
use Rattle.vfm_types.specs.declared.desc.Desc.{Desc}
use Rattle.vfm_types.specs.declared.entry.Entry.{Entry}
use Rattle.vfm_types.specs.declared.state.MigState.TheVariants.{Error}
use Rattle.vfm_types.specs.Desc.{device_count}
use Rattle.vfm_types.specs.Paths.{same_state}
use Rattle.vfm_types.specs.Valid.{IsValid}
use Rattle.vfm_plain.specs.Legal.{IsLegal, is_entry_of}
use Rattle.vfm_laws.specs.Standing.{is_hold_step}
use Rattle.vfm_parts.specs.Parts.{Dev, World, parts_in}
use Rattle.vfm_parts.specs.PartsOf.{world_of}
use Rattle.vfm_parts.specs.Steps.{after_on, dev_after, fault_on, page_after}
use Rattle.vfm_parts.proofs.Allowed.{none_is}
use Rattle.vfm_parts.proofs.Listed.{length-listed}
use Rattle.vfm_parts_laws.specs.EntriesLeft.{DevStands, PartsStand}
use Rattle.vfm_parts_laws.proofs.FittingWorlds.{step_world_fits}
use Rattle.vfm_parts_laws.proofs.RoomWorlds.{list_stands, world_falls}
use Rattle.vfm_parts_laws.proofs.StagedWorlds.{staged_allowed}
use Rattle.vfm_order.specs.Coordinator.{MayMake}
use Rattle.vfm_core.specs.CoreState.{CoreState, FitsDesc, with_entry}
use Rattle.vfm_core.proofs.Follows.{follows, rule_is, staged_fine, staged_goes_on}
use Rattle.vfm_drive.specs.Rounds.{with_made}
use Rattle.vfm_drive.specs.Runs.{GoesOn, HasRun, IsOn, whole}

-- all entries of a run are a legal list
pub legal_on : (D : Desc) (origin : Option (List Entry)) (mine : List Entry) (w : World) → IsOn D origin mine w → IsLegal D (whole origin mine)
legal_on D None mine w is = is.legal
legal_on D (Some before) mine w is = is.0.legal

-- no device is in ERROR, and each is held as it should be
pub stands_on : (D : Desc) (origin : Option (List Entry)) (mine : List Entry) (w : World) → IsValid D → IsOn D origin mine w → PartsStand D (parts_in w)
stands_on D None mine w valid is = subst (λ (v : World). PartsStand D (parts_in v)) (sym is.told) (list_stands D mine valid is.legal)
stands_on D (Some before) mine w valid is = λ d inside.
    let past = mine ++ before in
    let agrees = is.0.after.agrees in
    let stands : DevStands (parts_in (world_of D past)).lead ((parts_in (world_of D past)).dev d) = list_stands D past valid is.0.legal d inside in
    record {
      known = ap (λ (dev : Dev). same_state dev.state Error) (agrees.dev d) ∙ stands.known;
      held = λ moving to held.
          ap (λ (dev : Dev). is_hold_step dev.state to) (agrees.dev d)
          ∙ stands.held (sym (ap₂ (λ (a r : Bool). a || r) agrees.aborted agrees.resumed) ∙ moving) to
          (sym (ap (λ (dev : Dev). dev.hold) (agrees.dev d)) ∙ held);
    }

-- what may be made after a run breaks no rule on its parts
pub fine_on : (D : Desc) (origin : Option (List Entry)) (mine : List Entry) (w : World) (entry : Entry) → IsOn D origin mine w
    → MayMake D (whole origin mine) entry → fault_on D w entry ≡ None
fine_on D None mine w entry is may = rule_is D w entry mine may.0 is.told ∙ may.1
fine_on D (Some before) mine w entry is may =
    none_is (fault_on D w entry) (staged_allowed D (mine ++ before) w entry is.0.after may.0 ∙ ap is_none may.1)

-- and what breaks none may be made
pub may_on : (D : Desc) (origin : Option (List Entry)) (mine : List Entry) (w : World) (entry : Entry) → IsOn D origin mine w
    → IsTrue (is_entry_of D entry) → fault_on D w entry ≡ None → MayMake D (whole origin mine) entry
may_on D None mine w entry is named fine = (named, sym (rule_is D w entry mine named is.told) ∙ fine)
may_on D (Some before) mine w entry is named fine = (named, staged_fine D w entry (mine ++ before) named is.0.after fine)

-- ---- an entry that breaks no rule

module _ (core : CoreState) (entry : Entry) (fit : FitsDesc core.desc core.world) (named : IsTrue (is_entry_of core.desc entry))
    (fine : fault_on core.desc core.world entry ≡ None) where
  pub fits_after : FitsDesc core.desc (after_on core.desc core.world entry)
  fits_after =
      record {
        valid = fit.valid;
        devs = length-listed (device_count core.desc) (dev_after core.desc (parts_in core.world) entry);
        pages = length-listed core.desc.pages (page_after core.desc (parts_in core.world) entry);
        fits = step_world_fits core.desc core.world entry fit.valid fit.fits named fine;
      }

  pub run_after : (origin : Option (List Entry)) (mine : List Entry) → IsOn core.desc origin mine core.world
      → IsOn core.desc origin (entry ∷ mine) (after_on core.desc core.world entry)
  run_after None mine is =
      follows core (with_entry entry (after_on core.desc core.world entry) core) entry mine fit.valid named is fine refl
  run_after (Some before) mine is =
      (staged_goes_on core (with_entry entry (after_on core.desc core.world entry) core) entry before mine fit.valid named is.0 fine refl, is.1)

  pub one_made : (origin : Option (List Entry)) (mine : List Entry) → IsOn core.desc origin mine core.world
      → GoesOn core (with_made (Some entry) core) origin mine
  one_made origin mine is =
      record {
        more = entry ∷ [];
        desc = refl;
        journal = refl;
        run = run_after origin mine is;
        room =
            let less = world_falls core.desc core.world entry fit.valid fit.fits (stands_on core.desc origin mine core.world fit.valid is) named fine in
            omega (arith, less);
      }

-- ---- runs that go on

pub none_made : (core : CoreState) (origin : Option (List Entry)) (mine : List Entry) → IsOn core.desc origin mine core.world → GoesOn core core origin mine
none_made core origin mine is =
    record { more = []; desc = refl; journal = sym (append-nil core.entries); run = is; room = omega arith }

pub then_on : (old mid new : CoreState) (origin : Option (List Entry)) (mine : List Entry) (first : GoesOn old mid origin mine)
    → GoesOn mid new origin (first.more ++ mine) → GoesOn old new origin mine
then_on old mid new origin mine first second =
    record {
      more = second.more ++ first.more;
      desc = second.desc ∙ first.desc;
      journal =
          second.journal ∙ ap (λ (entries : List Entry). entries ++ reverse second.more) first.journal
          ∙ append_assoc old.entries (reverse first.more) (reverse second.more)
          ∙ ap (λ (entries : List Entry). old.entries ++ entries) (sym (reverse-append second.more first.more));
      run = subst (λ (list : List Entry). IsOn new.desc origin list new.world) (sym (append_assoc second.more first.more mine)) second.run;
      room =
          let all = length-append second.more first.more in
          let one = first.room in
          let two = second.room in
          omega (arith, all, one, two);
    }

-- it is on a run still
pub has_run : (old new : CoreState) (origin : Option (List Entry)) (mine : List Entry) → GoesOn old new origin mine → HasRun new.desc new.world
has_run old new origin mine on = record { origin = origin; mine = on.more ++ mine; run = on.run }
