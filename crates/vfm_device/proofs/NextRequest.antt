-- The requests that are yet to be issued are what stands behind the waiting ones.
use Rattle.std.proofs.Common.{◌≡◌, ℕ, ◌+◌, ◌<◌, ◌≤◌, ◌==◌, ◌||◌, Bool, true, false, if◌then◌else◌, List, [], ◌∷◌, ◌++◌, length, slice_index_or, suc, zero, Some, None, refl, sym, ap, ◌∙◌, subst, eq-eqb, arith}
use Rattle.std.proofs.lemmas.Bool.{or_left, or_parts, or_right, false≢true}
use Rattle.std.proofs.lemmas.Option.{none-some, same_Some}
use Rattle.std.proofs.lemmas.List.{append_assoc, length-append, append-nil}
use Rattle.std.proofs.lemmas.List.Folds.{list_any-append}
use Rattle.vfm_types.specs.declared.desc.Desc.{Desc}
use Rattle.vfm_types.specs.Machine.{DeviceState}
use Rattle.vfm_types.specs.Outstanding.{Outstanding, is_outstanding, undelivered_count, unissued}
use Rattle.vfm_plain.specs.IssueRules.{first_number}
use Rattle.vfm_laws.specs.Queues.{waiting, is_listed, IsRising, IsGone, QueueKept}
use Rattle.vfm_laws.proofs.Rising.{unlisted_front, listed_behind}
use Rattle.vfm_laws.proofs.Waiting.{not_outstanding, unissued_waiting, unissued_head}
use Rattle.vfm_device.specs.EngineState.{first_item, item_at}

-- as many wait as are undelivered
pub waiting_count : (requests : List Outstanding) → length (waiting requests) ≡ undelivered_count requests
waiting_count [] = refl
waiting_count (r ∷ requests) = go r.is_delivered (waiting_count requests)
  where
    go : (b : Bool) → length (waiting requests) ≡ undelivered_count requests → length (if b then waiting requests else (r.number, r.job) ∷ waiting requests) ≡ undelivered_count requests + (if b then 0 else 1)
    go true rest = omega arith
    go false rest = omega arith

-- none of those behind the waiting ones is outstanding
pub unissued_rest : (D : Desc) (d : ℕ) (device : DeviceState) (requests : List Outstanding) → QueueKept D d device requests
    → (before rest : List (ℕ × ℕ)) → device.pending ≡ (waiting requests ++ before) ++ rest → unissued requests rest ≡ rest
unissued_rest D d device requests kept before [] split = refl
unissued_rest D d device requests kept before (p ∷ rest) split =
    let front : List (ℕ × ℕ) = waiting requests ++ before in
    let rising : IsRising 0 (front ++ p ∷ rest) device.accepted = subst (λ (xs : List (ℕ × ℕ)). IsRising 0 xs device.accepted) split kept.rising in
    let unlisted : is_listed p.0 front ≡ false = unlisted_front 0 front p rest device.accepted rising in
    let parts = or_parts (is_listed p.0 (waiting requests)) (is_listed p.0 before) (sym (list_any-append (λ (r : ℕ × ℕ). r.0 == p.0) (waiting requests) before) ∙ unlisted) in
    let listed : is_listed p.0 device.pending ≡ true = ap (is_listed p.0) split ∙ listed_behind front p rest in
    let out : is_outstanding p.0 requests ≡ false =
    not_outstanding (IsGone device) p.0 requests kept.gone (λ (gone : IsGone device p.0). false≢true (sym gone.1 ∙ listed)) parts.0 in
    let next : device.pending ≡ (waiting requests ++ (before ++ p ∷ [])) ++ rest =
    split ∙ sym (append_assoc front (p ∷ []) rest) ∙ ap (λ (xs : List (ℕ × ℕ)). xs ++ rest) (append_assoc (waiting requests) before (p ∷ [])) in
    unissued_head requests p rest out
    ∙ ap (λ (xs : List (ℕ × ℕ)). p ∷ xs) (unissued_rest D d device requests kept (before ++ p ∷ []) rest next)

-- those that are yet to be issued
pub unissued_is : (D : Desc) (d : ℕ) (device : DeviceState) (requests : List Outstanding) → (kept : QueueKept D d device requests)
    → unissued requests device.pending ≡ kept.rest
unissued_is D d device requests kept =
    ap (unissued requests) kept.pending ∙ unissued_waiting requests kept.rest
    ∙ unissued_rest D d device requests kept [] kept.rest (kept.pending ∙ ap (λ (xs : List (ℕ × ℕ)). xs ++ kept.rest) (sym (append-nil (waiting requests))))

-- how many are yet to be issued
pub unissued_length : (D : Desc) (d : ℕ) (device : DeviceState) (requests : List Outstanding) → QueueKept D d device requests
    → length device.pending ≡ undelivered_count requests + length (unissued requests device.pending)
unissued_length D d device requests kept =
    ap (length {A = ℕ × ℕ}) kept.pending ∙ length-append (waiting requests) kept.rest
    ∙ ap (λ (n : ℕ). n + length kept.rest) (waiting_count requests)
    ∙ ap (λ (xs : List (ℕ × ℕ)). undelivered_count requests + length xs) (sym (unissued_is D d device requests kept))

-- an item stands at each place below the length, and none beyond
pub item_there : (requests : List (ℕ × ℕ)) (k : ℕ) → k < length requests → item_at requests k ≡ Some (slice_index_or requests k (0, 0))
item_there [] k within = absurd (omega arith)
item_there (r ∷ requests) zero within = refl
item_there (r ∷ requests) (suc k) within = item_there requests k (omega arith)

pub item_beyond : (requests : List (ℕ × ℕ)) (k : ℕ) → length requests ≤ k → item_at requests k ≡ None
item_beyond [] k beyond = refl
item_beyond (r ∷ requests) zero beyond = absurd (omega arith)
item_beyond (r ∷ requests) (suc k) beyond = item_beyond requests k (omega arith)

-- the item behind some others is the first of the rest
item_behind : (front rest : List (ℕ × ℕ)) → item_at (front ++ rest) (length front) ≡ first_item rest
item_behind [] [] = refl
item_behind [] (p ∷ rest) = refl
item_behind (x ∷ front) rest = item_behind front rest

-- the next one stands behind the waiting ones
pub next_item : (D : Desc) (d : ℕ) (device : DeviceState) (requests : List Outstanding) → QueueKept D d device requests
    → item_at device.pending (undelivered_count requests) ≡ first_item (unissued requests device.pending)
next_item D d device requests kept =
    ap (λ (xs : List (ℕ × ℕ)). item_at xs (undelivered_count requests)) kept.pending
    ∙ ap (item_at (waiting requests ++ kept.rest)) (sym (waiting_count requests))
    ∙ item_behind (waiting requests) kept.rest
    ∙ ap first_item (sym (unissued_is D d device requests kept))

-- the first that is yet to be issued is pending
pub unissued_listed : (n : ℕ) (requests : List Outstanding) (pending : List (ℕ × ℕ)) → first_number (unissued requests pending) ≡ Some n
    → is_listed n pending ≡ true
unissued_listed n requests [] first = absurd (none-some n first)
unissued_listed n requests (p ∷ pending) first =
    go (is_outstanding p.0 requests) (unissued_listed n requests pending) first
  where
    go : (b : Bool) → (first_number (unissued requests pending) ≡ Some n → is_listed n pending ≡ true)
        → first_number (if b then unissued requests pending else p ∷ unissued requests pending) ≡ Some n → (p.0 == n || is_listed n pending) ≡ true
    go true later h = or_right (p.0 == n) (is_listed n pending) (later h)
    go false later h = or_left (p.0 == n) (is_listed n pending) (eq-eqb p.0 n (same_Some p.0 n h))
