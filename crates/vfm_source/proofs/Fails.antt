-- The arc that failed, among the entries of a source.
use Rattle.std.proofs.Common.{◌≡◌, ℕ, zero, suc, ◌+◌, ◌-◌, ◌<◌, ◌==◌, ◌&&◌, ◌||◌, ◌⊎◌, not, Bool, true, false, nat_lt, List, [], ◌∷◌, length, reverse, slice_index_or, Contains, Option, None, Some, IfSome, IfNone, IsTrue, refl, ap, ap₂, sym, ◌∙◌, subst, arith, ⊎_elim, inl, inr, ltb-true}
use Rattle.std.proofs.lemmas.Bool.{and_parts, not-true, or_parts, false≢true, true≢false}
use Rattle.std.proofs.lemmas.List.{get_or-reverse, length-reverse, reverse-reverse}
use Rattle.vfm_types.specs.declared.desc.Desc.{Desc}
use Rattle.vfm_types.specs.declared.entry.Entry.{Entry}
use Rattle.vfm_types.specs.declared.entry.Entry.TheVariants.{Abort, Fail, Resume}
use Rattle.vfm_types.specs.declared.entry.Rule.TheVariants.{Order, Path, Quiet}
use Rattle.vfm_types.specs.declared.state.MigState.{MigState}
use Rattle.vfm_types.specs.Arcs.{arc_count}
use Rattle.vfm_types.specs.Desc.{device_count, shape_at}
use Rattle.vfm_types.specs.Phases.{is_aborted, is_begun, is_failed, is_joint, is_on, is_resumed}
use Rattle.vfm_types.specs.Words.{is_way_open}
use Rattle.vfm_plain.specs.ArcRules.{is_quiet_for_arc, may_take_arcs}
use Rattle.vfm_plain.specs.FailRules.{is_right_fail}
use Rattle.vfm_plain.specs.Legal.{IsLegal, is_entry_of}
use Rattle.vfm_plain.specs.Rules.{fault_of}
use Rattle.vfm_laws.proofs.Conditions.{met}
use Rattle.vfm_order.specs.LookAfter.{is_over}
use Rattle.vfm_source.specs.declared.ending.FailedArc.{FailedArc}
use Rattle.vfm_source.specs.Offers.{NeverFails}

-- what stands in a list stands in it reversed
pub in_reverse : {X : Type 0} (xs : List X) (x : X) → Contains xs x → Contains (reverse xs) x
in_reverse {X} xs x found =
    let n = length xs in
    let k = found.0 in
    let same = length-reverse xs in
    let inside : n - 1 - k < n = omega (arith, found.1) in
    let back : n - 1 - (n - 1 - k) ≡ k = omega (arith, found.1) in (
      n - 1 - k,
      omega (arith, inside, same),
      get_or-reverse xs (n - 1 - k) x inside ∙ ap (λ (j : ℕ). slice_index_or xs j x) back ∙ found.2,
    )

pub from_reverse : {X : Type 0} (xs : List X) (x : X) → Contains (reverse xs) x → Contains xs x
from_reverse {X} xs x found = subst (λ (list : List X). Contains list x) (reverse-reverse xs) (in_reverse (reverse xs) x found)

-- what stands in a longer list is its first or stands behind it
place_of : {X : Type 0} (x y : X) (xs : List X) → Contains (y ∷ xs) x → (y ≡ x) ⊎ Contains xs x
place_of {X} x y xs found = by found.0 found.1 found.2
  where
    by : (k : ℕ) → k < length (y ∷ xs) → slice_index_or (y ∷ xs) k x ≡ x → (y ≡ x) ⊎ Contains xs x
    by zero inside is = inl is
    by (suc k) inside is = inr (k, omega (arith, inside), is)

further : {X : Type 0} (x y : X) (xs : List X) → Contains xs x → Contains (y ∷ xs) x
further {X} x y xs found = (suc found.0, omega (arith, found.1), found.2)

-- ---- an arc that failed

-- a fail that is told stands in the list
pub some_fail : (past : List Entry) → is_failed past ≡ true → (d : ℕ) × (to : MigState) × Contains past (Fail d to)
some_fail [] failed = absurd (false≢true failed)
some_fail (Fail d to ∷ past) failed = (d, to, (0, omega arith, refl))
some_fail (Abort ∷ past) failed = absurd (false≢true failed)
some_fail (entry ∷ past) failed =
    let behind = some_fail past failed in (behind.0, behind.1, further (Fail behind.0 behind.1) entry past behind.2)

-- the answer of a search of a journal, in the words of its entries newest first
pub told_some : (entries : List Entry) (r : Option FailedArc) → IfSome r (λ arc. Contains entries (Fail arc.d arc.to))
    → IfSome r (λ arc. Contains (reverse entries) (Fail arc.d arc.to))
told_some entries None found = tt
told_some entries (Some arc) found = in_reverse entries (Fail arc.d arc.to) found

pub told_none : (entries : List Entry) (r : Option FailedArc) → IfNone r ((d : ℕ) (to : MigState) → Contains entries (Fail d to) → ⊥)
    → is_failed (reverse entries) ≡ true → IfNone r (is_failed (reverse entries) ≡ false)
told_none entries (Some arc) none failed = tt
told_none entries None none failed =
    let found = some_fail (reverse entries) failed in
    absurd (none found.0 found.1 (from_reverse entries (Fail found.0 found.1) found.2))

-- no arc failed before one that fails
unfailed_before : (D : Desc) (past : List Entry) (d : ℕ) (to : MigState) → fault_of D past (Fail d to) ≡ None → is_over past ≡ false
    → is_failed past ≡ false
unfailed_before D past d to fine going =
    let order = met (may_take_arcs past) Order ((is_right_fail D d to past, Path) ∷ (is_quiet_for_arc D d to past, Quiet) ∷ []) fine in
    let open_ = or_parts (is_aborted past) (is_resumed past) going in
    let on_ : (is_on past && not (is_joint past)) ≡ true =
    or_left_only (is_on past && not (is_joint past)) (is_aborted past) (is_resumed past) open_.0 open_.1 order.0 in
    not-true (is_failed past)
    (and_parts (is_begun past && not (is_aborted past) && not (is_resumed past)) (not (is_failed past)) (and_parts (is_on past) (not (is_joint past)) on_).0).1
  where
    or_left_only : (x a r : Bool) → a ≡ false → r ≡ false → (x || a || r) ≡ true → x ≡ true
    or_left_only true a r aborted resumed all = refl
    or_left_only false a r aborted resumed all = absurd (true≢false (sym all ∙ ap₂ (λ (b c : Bool). b || c) aborted resumed))

-- the entry is an arc that failed
abbrev is_fail : Entry → Bool
is_fail (Fail d to) = true
is_fail entry = false

-- while the move goes on, an arc that failed stays told
pub still_failed : (past : List Entry) → is_over past ≡ false → (d : ℕ) (to : MigState) → Contains past (Fail d to) → is_failed past ≡ true
still_failed [] going d to found = absurd (omega (arith, found.1))
still_failed (Fail e s ∷ past) going d to found = refl
still_failed (Abort ∷ past) going d to found = absurd (true≢false going)
still_failed (Resume ∷ past) going d to found = absurd (true≢false (or_parts (is_aborted past) true going).1)
still_failed (entry ∷ past) going d to found =
    ⊎_elim (λ (same : entry ≡ Fail d to). absurd (false≢true (ap is_fail same))) (λ (behind : Contains past (Fail d to)). still_failed past going d to behind)
    (place_of (Fail d to) entry past found)

-- and it is the only one
head_fail : (D : Desc) (past : List Entry) (x : ℕ) (y : MigState) → fault_of D past (Fail x y) ≡ None → is_over past ≡ false
    → (d : ℕ) (to : MigState) → Contains (Fail x y ∷ past) (Fail d to) → Fail x y ≡ Fail d to
head_fail D past x y fine going d to found =
    ⊎_elim (λ (same : Fail x y ≡ Fail d to). same)
    (λ (behind : Contains past (Fail d to)).
    absurd (true≢false (sym (still_failed past going d to behind) ∙ unfailed_before D past x y fine going)))
    (place_of (Fail d to) (Fail x y) past found)

pub one_fail : (D : Desc) (past : List Entry) → IsLegal D past → is_over past ≡ false → (d : ℕ) (to : MigState) → Contains past (Fail d to)
    → (e : ℕ) (other : MigState) → Contains past (Fail e other) → Fail d to ≡ Fail e other
one_fail D [] legal going d to found e other also = absurd (omega (arith, found.1))
one_fail D (Fail x y ∷ past) legal going d to found e other also =
    sym (head_fail D past x y legal.1 going d to found) ∙ head_fail D past x y legal.1 going e other also
one_fail D (Abort ∷ past) legal going d to found e other also = absurd (true≢false going)
one_fail D (Resume ∷ past) legal going d to found e other also = absurd (true≢false (or_parts (is_aborted past) true going).1)
one_fail D (entry ∷ past) legal going d to found e other also =
    ⊎_elim (λ (same : entry ≡ Fail d to). absurd (false≢true (ap is_fail same)))
    (λ (behind : Contains past (Fail d to)).
    ⊎_elim (λ (same : entry ≡ Fail e other). absurd (false≢true (ap is_fail same)))
    (λ (after : Contains past (Fail e other)). one_fail D past legal.2 going d to behind e other after)
    (place_of (Fail e other) entry past also))
    (place_of (Fail d to) entry past found)

-- where no device is to fail an arc, none does
may_fail : (D : Desc) (past : List Entry) (d : ℕ) (to : MigState) → fault_of D past (Fail d to) ≡ None → nat_lt 0 (shape_at D d).fails ≡ true
may_fail D past d to fine =
    let order = met (may_take_arcs past) Order ((is_right_fail D d to past, Path) ∷ (is_quiet_for_arc D d to past, Quiet) ∷ []) fine in
    let right = met (is_right_fail D d to past) Path ((is_quiet_for_arc D d to past, Quiet) ∷ []) order.1 in
    let open_ = not (is_aborted past) && not (is_resumed past) && is_way_open D d to past in
    (and_parts open_ (nat_lt 0 (shape_at D d).fails)
    (and_parts (open_ && nat_lt 0 (shape_at D d).fails) (arc_count d past + 1 == (shape_at D d).fails) right.0).0).1

pub never_fails : (D : Desc) (past : List Entry) → IsLegal D past → NeverFails D → (d : ℕ) (to : MigState) → Contains past (Fail d to) → ⊥
never_fails D [] legal never d to found = omega (arith, found.1)
never_fails D (entry ∷ past) legal never d to found =
    ⊎_elim
    (λ (same : entry ≡ Fail d to).
    let named : nat_lt d (device_count D) ≡ true = subst (λ (x : Entry). IsTrue (is_entry_of D x)) same legal.0 in
    let fine : fault_of D past (Fail d to) ≡ None = subst (λ (x : Entry). fault_of D past x ≡ None) same legal.1 in
    true≢false
    (sym (may_fail D past d to fine) ∙ ap (λ (k : ℕ). nat_lt 0 k) (never d (ltb-true d (device_count D) named))))
    (λ (behind : Contains past (Fail d to)). never_fails D past legal.2 never d to behind)
    (place_of (Fail d to) entry past found)
