-- A seat after a call.
use Rattle.std.proofs.Common.{◌≡◌, ℕ, ◌+◌, ◌≤◌, List, [], ◌∷◌, ◌++◌, map, reverse, length, append-nil, refl, ap, ap₂, sym, subst, ◌∙◌, arith, inl, inr, length-append}
use Rattle.std.proofs.lemmas.List.{length-reverse, reverse-append}
use Rattle.vfm_types.specs.declared.entry.Entry.{Entry}
use Rattle.vfm_turn.specs.declared.seen.Drawn.{Drawn}
use Rattle.vfm_turn.specs.Seen.{Seen}
use Rattle.vfm_cells.specs.Cells.{Cell}
use Rattle.vfm_cells.specs.WholeRun.{AreSteps}
use Rattle.vfm_plant.specs.declared.seat.Made.{Made}
use Rattle.vfm_plant.specs.declared.stepped.Stepped.{Stepped}
use Rattle.vfm_plant.specs.declared.stepped.Stepped.TheVariants as stepped
use Rattle.vfm_plant.specs.Outcome.{Attempt, IsOutcome}
use Rattle.vfm_plant.specs.Seat.{kept_of, made_of}

abbrev made_at : ℕ → Entry → Made
made_at p e = record { place = p; entry = e }

-- what a call leaves
pub record After (a : Attempt) (before after : List Made) : Type 0 where
  pub rest : a.new.holds ≡ []
  pub steps : AreSteps a.desc a.new.records
  pub made : map (made_of a.base) a.new.records ≡ reverse after
  pub few : length after ≤ length before + 1

same_made : (made : List Made) (all : List Made) → all ≡ reverse made → all ≡ reverse (made ++ [])
same_made made all is = is ∙ ap reverse (sym (append-nil made))

pub seat_after : (a : Attempt) (r : Stepped) (made after : List Made) → IsOutcome a r → after ≡ made ++ kept_of r → AreSteps a.desc a.old.records
    → map (made_of a.base) a.old.records ≡ reverse made → After a made after
seat_after a (stepped.Did place entry) made after o are steps is =
    subst (After a made) (sym are)
    record {
      rest = ap (λ (s : Seen Cell). s.holds) o.seen;
      steps = subst (λ (s : Seen Cell). AreSteps a.desc s.records) (sym o.seen) (o.step, steps);
      made =
          ap (λ (s : Seen Cell). map (made_of a.base) s.records) o.seen
          ∙ (ap₂ (λ (m : Made) (ms : List Made). m ∷ ms) (ap (λ (p : ℕ). made_at p entry) (sym o.placed)) is
          ∙ sym (reverse-append made (made_at place entry ∷ [])));
      few = (let len = length-append made (made_at place entry ∷ []) in omega arith);
    }
seat_after a (stepped.Nothing at seen) made after o are steps is =
    subst (After a made) (sym are)
    record {
      rest = ap (λ (s : Seen Cell). s.holds) o.noted;
      steps = subst (λ (s : Seen Cell). AreSteps a.desc s.records) (sym o.noted) steps;
      made = ap (λ (s : Seen Cell). map (made_of a.base) s.records) o.noted ∙ same_made made _ is;
      few = (let len = ap (λ (ms : List Made). length ms) (append-nil made) in omega arith);
    }
seat_after a (stepped.Busy cell holder) made after o are steps is =
    subst (After a made) (sym are)
    (elim o.met [
      | inl x ↦ record {
        rest = ap (λ (s : Seen Cell). s.holds) x.seen;
        steps = subst (λ (s : Seen Cell). AreSteps a.desc s.records) (sym x.seen) steps;
        made = ap (λ (s : Seen Cell). map (made_of a.base) s.records) x.seen ∙ same_made made _ is;
        few = (let len = ap (λ (ms : List Made). length ms) (append-nil made) in omega arith);
      }
      | inr x ↦ record {
        rest = ap (λ (s : Seen Cell). s.holds) x.seen;
        steps = subst (λ (s : Seen Cell). AreSteps a.desc s.records) (sym x.seen) steps;
        made = ap (λ (s : Seen Cell). map (made_of a.base) s.records) x.seen ∙ same_made made _ is;
        few = (let len = ap (λ (ms : List Made). length ms) (append-nil made) in omega arith);
      }
    ])

pub count_same : (base : ℕ) (records : List (Drawn Cell)) (made : List Made) → map (made_of base) records ≡ reverse made → length records ≡ length made
count_same base records made is = sym (length_made base records) ∙ (ap (λ (ms : List Made). length ms) is ∙ length-reverse made)
  where
    length_made : (b : ℕ) (rs : List (Drawn Cell)) → length (map (made_of b) rs) ≡ length rs
    length_made b [] = refl
    length_made b (r ∷ rs) = let rest = length_made b rs in omega arith
