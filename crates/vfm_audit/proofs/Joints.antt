-- What stands before the first Joint of a journal.
use Rattle.std.proofs.Common.{◌≡◌, ℕ, ◌+◌, ◌<◌, ◌≤◌, Bool, true, false, ◌||◌, List, [], ◌∷◌, ◌++◌, length, take, drop, reverse, slice_index_or, refl, ap, sym, ◌∙◌, subst}
use Rattle.std.proofs.lemmas.Bool.{true≢false}
use Rattle.std.proofs.lemmas.Grind.{reverse_onto}
use Rattle.std.proofs.lemmas.List.{append-nil, take_all, take_more}
use Rattle.vfm_types.specs.declared.entry.Entry.{Entry}
use Rattle.vfm_types.specs.declared.entry.Entry.TheVariants.{Joint}
use Rattle.vfm_types.specs.Deliveries.{before_joint}
use Rattle.vfm_types.specs.Phases.{is_joint}
use Rattle.vfm_audit.proofs.Making.{around}

-- a Joint among the entries of two lists, or of a reversed one
joint_append : (first second : List Entry) → is_joint (first ++ second) ≡ (is_joint first || is_joint second)
joint_append [] second = refl
joint_append (Joint ∷ first) second = refl
joint_append (entry ∷ first) second = joint_append first second

or_true : (b : Bool) → (b || true) ≡ true
or_true true = refl
or_true false = refl

or_false : (b : Bool) → (b || false) ≡ b
or_false true = refl
or_false false = refl

joint_onto : (past : List Entry) (entry : Entry) → is_joint (reverse (entry ∷ past)) ≡ (is_joint (reverse past) || is_joint (entry ∷ []))
joint_onto past entry = ap is_joint (reverse_onto past entry []) ∙ joint_append (reverse past) (entry ∷ [])

joint_reverse : (past : List Entry) → is_joint (reverse past) ≡ is_joint past
joint_reverse [] = refl
joint_reverse (Joint ∷ past) = joint_onto past Joint ∙ or_true (is_joint (reverse past))
joint_reverse (entry ∷ past) = joint_onto past entry ∙ or_false (is_joint (reverse past)) ∙ joint_reverse past

-- of a list with a Joint that no other one stands before
before_here : (first second : List Entry) → is_joint first ≡ false → before_joint (first ++ Joint ∷ second) ≡ first
before_here [] second none = refl
before_here (Joint ∷ first) second none = absurd (true≢false none)
before_here (entry ∷ first) second none = ap (λ (entries : List Entry). entry ∷ entries) (before_here first second none)

-- of a list without one
before_none : (entries : List Entry) → is_joint entries ≡ false → before_joint entries ≡ entries
before_none [] none = refl
before_none (Joint ∷ entries) none = absurd (true≢false none)
before_none (entry ∷ entries) none = ap (λ (list : List Entry). entry ∷ list) (before_none entries none)

only_joint : (entry : Entry) → is_joint (entry ∷ []) ≡ true → entry ≡ Joint
only_joint Joint is = refl
only_joint entry is = absurd cc

-- the list is what stands before place i, the Joint there, and the rest
split_at : (entries : List Entry) (i : ℕ) (x : Entry) → i < length entries → is_joint (slice_index_or entries i x ∷ []) ≡ true
    → take i entries ++ (Joint ∷ (drop (i + 1) entries ++ [])) ≡ entries
split_at entries i x inside is =
    ap (λ (entry : Entry). take i entries ++ (entry ∷ (drop (i + 1) entries ++ []))) (sym (only_joint (slice_index_or entries i x) is))
    ∙ around entries i x [] inside ∙ append-nil entries

pub stands_at : (entries : List Entry) (i : ℕ) (x : Entry) → i < length entries → is_joint (take i entries) ≡ false
    → is_joint (slice_index_or entries i x ∷ []) ≡ true → take i entries ≡ before_joint entries
stands_at entries i x inside none is =
    sym (before_here (take i entries) (drop (i + 1) entries ++ []) none) ∙ ap before_joint (split_at entries i x inside is)

pub stands : (entries : List Entry) (i : ℕ) (x : Entry) → i < length entries → is_joint (slice_index_or entries i x ∷ []) ≡ true
    → is_joint (reverse entries) ≡ true
stands entries i x inside is =
    joint_reverse entries
    ∙ ap is_joint (sym (split_at entries i x inside is))
    ∙ joint_append (take i entries) (Joint ∷ (drop (i + 1) entries ++ []))
    ∙ or_true (is_joint (take i entries))

-- no Joint stands before the next place either
pub none_more : (entries : List Entry) (i : ℕ) (x : Entry) → i < length entries → is_joint (take i entries) ≡ false
    → is_joint (slice_index_or entries i x ∷ []) ≡ false → is_joint (take (i + 1) entries) ≡ false
none_more entries i x inside none other =
    ap is_joint (take_more entries i x inside)
    ∙ joint_append (take i entries) (slice_index_or entries i x ∷ [])
    ∙ ap (λ (b : Bool). b || is_joint (slice_index_or entries i x ∷ [])) none ∙ other

pub none_before : (entries : List Entry) → is_joint entries ≡ false → entries ≡ before_joint entries
none_before entries none = sym (before_none entries none)

pub none_stands : (entries : List Entry) → is_joint entries ≡ false → is_joint (reverse entries) ≡ false
none_stands entries none = joint_reverse entries ∙ none

-- an entry by its two names
pub is_at : (e f : Entry) (b : Bool) → e ≡ f → is_joint (e ∷ []) ≡ b → is_joint (f ∷ []) ≡ b
is_at e f b same is = subst (λ (entry : Entry). is_joint (entry ∷ []) ≡ b) same is

-- at the end of the list no Joint stands in it
pub none_at : (entries : List Entry) (i : ℕ) → length entries ≤ i → is_joint (take i entries) ≡ false → is_joint entries ≡ false
none_at entries i all none = ap is_joint (sym (take_all i entries all)) ∙ none
