-- An engine's steps as those of the device's part.
use Rattle.std.proofs.Common.{◌≡◌, ℕ, ◌+◌, ◌||◌, Bool, true, false, if◌then◌else◌, nat_lt, List, [], ◌∷◌, ◌++◌, refl}
use Rattle.vfm_base.specs.Tests.{first_failed}
use Rattle.vfm_types.specs.declared.desc.Desc.{Desc}
use Rattle.vfm_types.specs.declared.desc.DevShape.{DevShape}
use Rattle.vfm_types.specs.declared.entry.Rule.TheVariants.{Barred, Start, Turn}
use Rattle.vfm_types.specs.Machine.{with_accepted_request}
use Rattle.vfm_parts.specs.Parts.{Dev, one_more}
use Rattle.vfm_parts.specs.DeliverStep.{rung}
use Rattle.vfm_parts.specs.IssueStep.{is_next_to_issue_in, is_request_allowed_in, issue_conditions_in}
use Rattle.vfm_device.specs.EngineState.{EngineState, is_accepted, part_of, plain_with, with_engine, with_rung}

-- whether the log is started or the device was released makes no difference
pub barred_by_part : (D : Desc) (d n : ℕ) (e : EngineState) (dev : Dev)
    → first_failed (issue_conditions_in D d n (with_engine e dev))
    ≡ first_failed (issue_conditions_in D d n (part_of (dev.logging || dev.released) e))
barred_by_part D d n e dev = go dev.logging dev.released
  where
    turn : Bool
    turn = is_next_to_issue_in D d n (part_of true e)

    allowed : Bool
    allowed = is_request_allowed_in D d n (part_of true e)

    go : (logging released : Bool)
        → first_failed ((turn, Turn) ∷ (allowed, Barred) ∷ (logging || released || nat_lt e.issues D.begin, Start) ∷ [])
        ≡ first_failed ((turn, Turn) ∷ (allowed, Barred) ∷ ((logging || released) || false || nat_lt e.issues D.begin, Start) ∷ [])
    go true released = refl
    go false true = refl
    go false false = refl

pub rung_plain : (shape : DevShape) (number : ℕ) (bar : List ℕ) (e : EngineState) → rung shape (plain_with bar e) number ≡ plain_with bar (with_rung shape number e)
rung_plain shape number bar e = go (is_accepted shape number e)
  where
    go : (b : Bool) → (if b then with_accepted_request (plain_with bar e) number else record (plain_with bar e) { lost = one_more e.lost })
        ≡ plain_with bar (if b
        then record e { pending = e.pending ++ (e.accepted, number) ∷ []; accepted = e.accepted + 1 }
        else record e { lost = one_more e.lost })
    go true = refl
    go false = refl
