-- The sizes of a printed state, and what is there of a report that is lent.
use Rattle.std.proofs.Common.{◌≡◌, ℕ, zero, suc, ◌+◌, List, [], ◌∷◌, length, Option, Some, None, IfSome, IsTrue, Bool, ◌↔◌, Bor, refl, ap, subst}
use Rattle.std.specs.Prelude.{unwrap_or, option_map}
use Rattle.std.specs.Option.{option_copied}
use Rattle.vfm_types.specs.declared.desc.Desc.{Desc}
use Rattle.vfm_types.specs.declared.entry.Entry.{Entry}
use Rattle.vfm_types.specs.Deliveries.{delivers}
use Rattle.vfm_types.specs.Machine.{Machine}
use Rattle.vfm_types.specs.Requests.{plain}
use Rattle.vfm_journal.specs.Log.{Log}
use Rattle.vfm_audit.specs.Audited.{IsJointState}
use Rattle.vfm_report.specs.Printed.{EachOf}

-- so many are there
pub each_count : {X : Type 0} (ok : ℕ → X → Type 0) (n k : ℕ) (xs : List X) → EachOf ok n k xs → length xs ≡ n
each_count ok zero k [] each = refl
each_count ok zero k (x ∷ xs) each = absurd each
each_count ok (suc n) k [] each = absurd each
each_count ok (suc n) k (x ∷ xs) each = ap suc (each_count ok n (k + 1) xs each.1)

-- what holds of one that is there
pub of_some : {X : Type 0} (P : X → Type 0) (o : Option X) (x : X) → o ≡ Some x → IfSome o P → P x
of_some P (Some y) x is holds = subst P (ap (λ o. unwrap_or o y) is) holds
of_some P None x is holds = absurd cc

-- what holds of what a reference that is there lends
lent : {X : Type 0} (Q : X → Type 0) (o : Option (Bor X)) → IfSome o (λ m. Q m.now) → IfSome (option_copied o) Q
lent Q None holds = tt
lent Q (Some m) holds = holds

unlent : {X : Type 0} (Q : X → Type 0) (o : Option (Bor X)) → IfSome (option_copied o) Q → IfSome o (λ m. Q m.now)
unlent Q None holds = tt
unlent Q (Some m) holds = holds

lent_so : {X : Type 0} (T : Type 0) (Q : X → Type 0) (o : Option (Bor X)) (p : Option X) → option_copied o ≡ p → T ↔ IfSome o (λ m. Q m.now)
    → T ↔ IfSome p Q
lent_so T Q o p is so = subst (λ r. T ↔ IfSome r Q) is (λ t. lent Q o (so.0 t), λ q. so.1 (unlent Q o q))

pub joint_so : (D E : Desc) (xs ys : List Entry) (o : Option (Bor Machine)) (p : Option Machine) (b : Bool) → D ≡ E → xs ≡ ys
    → option_copied o ≡ p → IsTrue b ↔ IfSome o (λ m. IsJointState D xs m.now) → IsTrue b ↔ IfSome p (IsJointState E ys)
joint_so D E xs ys o p b desc list is so =
    subst (λ (F : Desc). IsTrue b ↔ IfSome p (IsJointState F ys)) desc
    (subst (λ (zs : List Entry). IsTrue b ↔ IfSome p (IsJointState D zs)) list (lent_so (IsTrue b) (IsJointState D xs) o p is so))

pub final_so : (D E : Desc) (xs ys : List Entry) (o : Option (Bor Machine)) (p : Option Machine) (b : Bool) → D ≡ E → xs ≡ ys
    → option_copied o ≡ p → IsTrue b ↔ IfSome o (λ m. plain D (delivers xs) ≡ Some m.now) → IsTrue b ↔ IfSome p (λ m. plain E (delivers ys) ≡ Some m)
final_so D E xs ys o p b desc list is so =
    subst (λ (F : Desc). IsTrue b ↔ IfSome p (λ m. plain F (delivers ys) ≡ Some m)) desc
    (subst (λ (zs : List Entry). IsTrue b ↔ IfSome p (λ m. plain D (delivers zs) ≡ Some m)) list
    (lent_so (IsTrue b) (λ m. plain D (delivers xs) ≡ Some m) o p is so))

-- the entries of a journal that is lent
lent_entries : (o : Option (Bor Log)) → option_map (λ j. j.now.entries) o ≡ option_map (λ j. j.entries) (option_copied o)
lent_entries None = refl
lent_entries (Some j) = refl

pub entries_lent : (o : Option (Bor Log)) (p : Option Log) → option_copied o ≡ p
    → unwrap_or (option_map (λ j. j.now.entries) o) [] ≡ unwrap_or (option_map (λ j. j.entries) p) []
entries_lent o p is =
    subst (λ (r : Option Log). unwrap_or (option_map (λ j. j.now.entries) o) [] ≡ unwrap_or (option_map (λ j. j.entries) r) []) is
    (ap (λ (r : Option (List Entry)). unwrap_or r []) (lent_entries o))
