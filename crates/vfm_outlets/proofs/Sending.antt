-- One channel more in a loop over all of them.
use Rattle.std.proofs.Common.{◌≡◌, ◌∙◌, refl, sym, ap, subst, ℕ, ◌+◌, ◌<◌, ◌≤◌, Bool, true, false, Option, None, Some, List, [], length, slice_index_or, slice_set, arith, ⊎_elim}
use Rattle.std.specs.Prelude.{◌≢◌}
use Rattle.std.proofs.lemmas.List.{get_or-set_same, get_or-set_other}
use Rattle.std.proofs.lemmas.Bool.{cases_eq}
use Rattle.vfm_send.specs.declared.sender.Sender.{Sender}
use Rattle.vfm_send.specs.Sends.{has_failed, left}
use Rattle.vfm_outlets.specs.Carrying.{EachChanged, FirstFailed, OneChanged, sooner}

-- channel j where channel k was put anew
pub at_same : {L : Type 0} (senders : List (Sender L)) (k : ℕ) (x d : Sender L) → k < length senders
    → slice_index_or (slice_set senders k x) k d ≡ x
at_same senders k x d inside = get_or-set_same senders k x d inside

pub at_other : {L : Type 0} (senders : List (Sender L)) (k j : ℕ) (x d : Sender L) → j ≢ k
    → slice_index_or (slice_set senders k x) j d ≡ slice_index_or senders j d
at_other senders k j x d other = get_or-set_other senders k j x d other

-- the answer with one channel more: it has not failed
pub none_more : {L : Type 0} (senders : List (Sender L)) (k : ℕ) (x : Sender L) → k < length senders → has_failed x ≡ false → left x ≡ []
    → FirstFailed senders k None → FirstFailed (slice_set senders k x) (k + 1) None
none_more {L} senders k x inside fine all none j d below =
    ⊎_elim
    (λ (this : j ≡ k).
    let same : slice_index_or (slice_set senders k x) j d ≡ x =
    ap (λ (i : ℕ). slice_index_or (slice_set senders k x) i d) this ∙ at_same senders k x d inside in
    (ap has_failed same ∙ fine, ap left same ∙ all))
    (λ (other : j ≡ k → ⊥).
    let same : slice_index_or (slice_set senders k x) j d ≡ slice_index_or senders j d = at_other senders k j x d other in
    (ap has_failed same ∙ (none j d (omega (arith, below, other))).0, ap left same ∙ (none j d (omega (arith, below, other))).1))
    (cases_eq j k)

-- it is the first that has
pub some_first : {L : Type 0} (senders : List (Sender L)) (k : ℕ) (x : Sender L) → k < length senders → has_failed x ≡ true
    → FirstFailed senders k None → FirstFailed (slice_set senders k x) (k + 1) (Some k)
some_first {L} senders k x inside bad none = (
  omega arith,
  λ d. ap has_failed (at_same senders k x d inside) ∙ bad,
  λ j d below. ap has_failed (at_other senders k j x d (λ e. omega (arith, below, e))) ∙ (none j d below).0,
)

-- one below it has
pub some_stays : {L : Type 0} (senders : List (Sender L)) (k least : ℕ) (x : Sender L) → FirstFailed senders k (Some least)
    → FirstFailed (slice_set senders k x) (k + 1) (Some least)
some_stays {L} senders k least x some = (
  omega (arith, some.0),
  λ d. ap has_failed (at_other senders k least x d (λ e. omega (arith, some.0, e))) ∙ some.1 d,
  λ j d below. ap has_failed (at_other senders k j x d (λ e. omega (arith, some.0, below, e))) ∙ some.2 j d below,
)

-- the answer with one channel more, whatever became of it
pub first_more : {L : Type 0} (senders : List (Sender L)) (k : ℕ) (x : Sender L) (least : Option ℕ) (failed : Bool) → k < length senders
    → failed ≡ has_failed x → (failed ≡ false → left x ≡ []) → FirstFailed senders k least
    → FirstFailed (slice_set senders k x) (k + 1) (sooner least k failed)
first_more senders k x (Some least) failed inside flag all first = some_stays senders k least x first
first_more senders k x None true inside flag all first = some_first senders k x inside (sym flag) first
first_more senders k x None false inside flag all first = none_more senders k x inside (sym flag) (all refl) first

-- what holds of each channel before this one, and of this one as it is changed, holds of one channel more
pub changed_more : {L : Type 0} (P : Sender L → Sender L → Type 0) (before senders now : List (Sender L)) (k : ℕ) → k < length senders
    → ((j : ℕ) (d : Sender L) → k ≤ j → slice_index_or senders j d ≡ slice_index_or before j d)
    → EachChanged P before senders k → OneChanged P senders k now → EachChanged P before now (k + 1)
changed_more {L} P before senders now k inside untouched each one j d below =
    ⊎_elim
    (λ (this : j ≡ k).
    let is : slice_index_or now j d ≡ one.sender =
    ap (λ (xs : List (Sender L)). slice_index_or xs j d) one.place
    ∙ ap (λ (i : ℕ). slice_index_or (slice_set senders k one.sender) i d) this ∙ at_same senders k one.sender d inside in
    let was : slice_index_or before j d ≡ one.was =
    ap (λ (i : ℕ). slice_index_or before i d) this ∙ sym (untouched k d (omega arith)) ∙ one.there d in
    subst (λ (s : Sender L). P s (slice_index_or now j d)) (sym was) (subst (λ (s : Sender L). P one.was s) (sym is) one.changed))
    (λ (other : j ≡ k → ⊥).
    let same : slice_index_or now j d ≡ slice_index_or senders j d =
    ap (λ (xs : List (Sender L)). slice_index_or xs j d) one.place ∙ at_other senders k j one.sender d other in
    subst (λ (s : Sender L). P (slice_index_or before j d) s) (sym same) (each j d (omega (arith, below, other))))
    (cases_eq j k)

-- the channels after this one stay as they were
pub untouched_more : {L : Type 0} (P : Sender L → Sender L → Type 0) (before senders now : List (Sender L)) (k : ℕ)
    → ((j : ℕ) (d : Sender L) → k ≤ j → slice_index_or senders j d ≡ slice_index_or before j d) → OneChanged P senders k now
    → (j : ℕ) (d : Sender L) → k + 1 ≤ j → slice_index_or now j d ≡ slice_index_or before j d
untouched_more {L} P before senders now k untouched one j d above =
    ap (λ (xs : List (Sender L)). slice_index_or xs j d) one.place
    ∙ at_other senders k j one.sender d (λ e. omega (arith, above, e))
    ∙ untouched j d (omega (arith, above))

-- the same of other names for both lists
pub each_named : {L : Type 0} (P : Sender L → Sender L → Type 0) (before other_before now other_now : List (Sender L)) → before ≡ other_before
    → now ≡ other_now → EachChanged P before now (length before) → EachChanged P other_before other_now (length other_before)
each_named {L} P before other_before now other_now was is each =
    subst (λ (xs : List (Sender L)). EachChanged P xs other_now (length xs)) was
    (subst (λ (xs : List (Sender L)). EachChanged P before xs (length before)) is each)
