-- What the bytes that came decide.
use Rattle.std.proofs.Common.{◌≡◌, ◌∙◌, refl, sym, ap, ap₂, subst, ℕ, suc, ◌<◌, true, List, [], ◌∷◌, length, slice_index_or, arith, Option, Some, None, is_some, Result, Ok, Err}
use Rattle.std.proofs.lemmas.List.{append_cancel_left}
use Rattle.std.specs.Prelude.{unwrap_or}
use Rattle.vfm_types.specs.declared.desc.Desc.{Desc}
use Rattle.vfm_outside.specs.Told.{with_appended}
use Rattle.vfm_streams.specs.Verdict.{Refuses, Loads, verdict}
use Rattle.vfm_dest.specs.StagedCores.{StagedState}
use Rattle.vfm_dest.specs.declared.judging.StageFault.{StageFault}
use Rattle.vfm_dest.specs.declared.judging.StageFault.TheVariants as faults
use Rattle.vfm_dest.specs.Staging.{Links, HaveBrought, AllTell, NoneFailed, AreWhole, IsVerdictOn, IsStagedOrShort, IsJudged, Judges, NamesFailed, SaysVerdict, before_at}

-- bytes behind what was told
same-appended : (told : Option (List ℕ)) (a b : List ℕ) → is_some told ≡ true → with_appended told a ≡ with_appended told b → a ≡ b
same-appended None a b tells same = absurd cc
same-appended (Some bytes) a b tells same =
    append_cancel_left bytes a b (ap (λ (o : Option (List ℕ)). unwrap_or o []) same)

-- lists that are the same place by place
same-lists : (xs ys : List (List ℕ)) → length xs ≡ length ys → ((k : ℕ) → k < length xs → slice_index_or xs k [] ≡ slice_index_or ys k []) → xs ≡ ys
same-lists [] [] count each = refl
same-lists [] (y ∷ ys) count each = absurd (omega (arith, count))
same-lists (x ∷ xs) [] count each = absurd (omega (arith, count))
same-lists (x ∷ xs) (y ∷ ys) count each =
    ap₂ (λ (z : List ℕ) (zs : List (List ℕ)). z ∷ zs) (each 0 (omega arith))
    (same-lists xs ys (omega (arith, count)) (λ k low. each (suc k) (omega (arith, low))))

brought-once : (links : Links) (came other : List (List ℕ)) → AllTell links → HaveBrought links came → HaveBrought links other → came ≡ other
brought-once links came other tell one two =
    same-lists came other (omega (arith, one.count, two.count))
    (λ k low.
    let inside : k < length links.before = omega (arith, low, one.count) in
    same-appended (before_at links k).received (slice_index_or came k []) (slice_index_or other k []) (tell k inside)
    (sym (one.each k inside) ∙ two.each k inside))

judged-on : (D : Desc) (links : Links) (came : List (List ℕ)) (result : Result StagedState StageFault) → AllTell links → HaveBrought links came
    → (judged : IsJudged D links result) → SaysVerdict D (verdict D judged.expect came) result
judged-on D links came result tell brought judged =
    subst (λ (x : List (List ℕ)). SaysVerdict D (verdict D judged.expect x) result) (brought-once links judged.came came tell judged.brought brought)
    judged.says

pub verdict-on : (D : Desc) (links : Links) (came : List (List ℕ)) (result : Result StagedState StageFault) → Judges D links result → AllTell links
    → HaveBrought links came → IsVerdictOn D came result
verdict-on D links came (Ok staged) judged tell brought = (judged.expect, judged.expects, judged-on D links came (Ok staged) tell brought judged)
verdict-on D links came (Err (faults.Refusal refusal)) judged tell brought =
    (judged.expect, judged.expects, judged-on D links came (Err (faults.Refusal refusal)) tell brought judged)
verdict-on D links came (Err (faults.Link channel)) judged tell brought = (judged.expect, judged.expects, tt)
verdict-on D links came (Err faults.NoMemory) judged tell brought = tt

pub whole-staged : (D : Desc) (links : Links) (came : List (List ℕ)) (result : Result StagedState StageFault) → Judges D links result
    → NamesFailed links result → AllTell links → HaveBrought links came → NoneFailed links → AreWhole D came → IsStagedOrShort result
whole-staged D links came (Ok staged) judged names tell brought none whole = tt
whole-staged D links came (Err (faults.Refusal refusal)) judged names tell brought none whole =
    let refuses : verdict D judged.expect came ≡ Refuses refusal = judged-on D links came (Err (faults.Refusal refusal)) tell brought judged in
    let loads : verdict D judged.expect came ≡ Loads (whole judged.expect judged.expects).0 = (whole judged.expect judged.expects).1 in
    absurd cc
whole-staged D links came (Err (faults.Link channel)) judged names tell brought none whole = absurd (none channel names)
whole-staged D links came (Err faults.NoMemory) judged names tell brought none whole = tt
