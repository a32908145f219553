-- What a list of links tells, link by link.
use Rattle.std.proofs.Common.{◌≡◌, ℕ, ◌<◌, ◌≤◌, false, Some, List, [], ◌∷◌, length, map, slice_index_or, ◌∙◌, arith}
use Rattle.std.proofs.lemmas.List.{get_or-map, get_or_default}
use Rattle.vfm_send.specs.declared.sender.Sender.{Sender}
use Rattle.vfm_send.specs.Sends.{has_failed}
use Rattle.vfm_outlets.specs.Carrying.{FirstFailed}

-- the place of a list at which something is, and what a function says of it
pub record At {L T : Type 0} (f : L → T) (xs : List L) (k : ℕ) (none : T) : Type 0 where
  pub here : L
  pub told : slice_index_or (map f xs) k none ≡ f here
  pub there : (d : L) → slice_index_or xs k d ≡ here

pub at : {L T : Type 0} (f : L → T) (xs : List L) (k : ℕ) (none : T) → k < length xs → At f xs k none
at f [] k none inside = absurd (omega (arith, inside))
at f (x ∷ xs) k none inside =
    record {
      here = slice_index_or (x ∷ xs) k x;
      told = get_or-map f (x ∷ xs) k x none inside;
      there = λ d. get_or_default (x ∷ xs) k d x inside;
    }

-- ---- the flags of senders

flag_at : {L : Type 0} (senders : List (Sender L)) (k : ℕ) → k < length senders → ((d : Sender L) → has_failed (slice_index_or senders k d) ≡ false)
    → slice_index_or (map has_failed senders) k false ≡ false
flag_at [] k inside is = absurd (omega (arith, inside))
flag_at (x ∷ xs) k inside is = get_or-map has_failed (x ∷ xs) k x false inside ∙ is x

-- the senders below the first that failed haven't
pub below_first : {L : Type 0} (senders : List (Sender L)) (n least : ℕ) → n ≤ length senders → FirstFailed senders n (Some least) → (k : ℕ) → k < least
    → slice_index_or (map has_failed senders) k false ≡ false
below_first senders n least within first k below =
    flag_at senders k (omega (arith, within, first.0, below)) (λ d. first.2 k d below)
