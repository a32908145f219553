-- Channels that were given nothing yet.
use Rattle.std.proofs.Common.{◌≡◌, ◌∙◌, refl, ap, ap₂, ℕ, ◌+◌, Option, List, [], ◌∷◌, length, map, drop, replicate, slice_index_or}
use Rattle.vfm_types.specs.declared.desc.Desc.{Desc}
use Rattle.vfm_outside.specs.Told.{with_appended, with_appended-nil}
use Rattle.vfm_send.specs.declared.sender.Sender.{Sender}
use Rattle.vfm_send.specs.Sends.{given, left, link_of}
use Rattle.vfm_outlets.specs.Carrying.{with_shares}

-- a share of nothing is nothing
pub no_shares : (D : Desc) (k : ℕ) (starts : List (Option (List ℕ))) → with_shares D [] k starts ≡ starts
no_shares D k [] = refl
no_shares D k (start ∷ starts) =
    ap₂ (λ (o : Option (List ℕ)) (rest : List (Option (List ℕ))). o ∷ rest) (with_appended-nil start) (no_shares D (k + 1) starts)

-- senders in which nothing waits were given what their links say that they sent
pub given_none : {L : Type 0} (sent : L → Option (List ℕ)) (senders : List (Sender L)) → map left senders ≡ replicate (length senders) []
    → map (given sent) senders ≡ map sent (map link_of senders)
given_none sent [] none = refl
given_none sent (s ∷ senders) none =
    ap₂ (λ (o : Option (List ℕ)) (rest : List (Option (List ℕ))). o ∷ rest)
    (ap (with_appended (sent (link_of s))) (ap (λ (xs : List (List ℕ)). slice_index_or xs 0 []) none) ∙ with_appended-nil (sent (link_of s)))
    (given_none sent senders (ap (λ (xs : List (List ℕ)). drop 1 xs) none))
