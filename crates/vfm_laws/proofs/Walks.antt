-- Legal lists against the walk of `broken`.
use Rattle.std.proofs.Common.{◌≡◌, ℕ, ◌+◌, true, List, [], ◌∷◌, ◌++◌, length, reverse, Option, Some, None, refl, ap, sym, ◌∙◌, add-one, ◌<◌, suc, take, get_or, arith, ◌⊎◌, inl, inr, ⊎_elim, subst}
use Rattle.std.specs.List.{list_all}
use Rattle.std.proofs.lemmas.List.{append-nil, append_assoc}
use Rattle.std.proofs.lemmas.Grind.{reverse_onto}
use Rattle.std.proofs.lemmas.Bool.{and_parts, and_from}
use mathlib.Core.List.{reverse_aux}
use Rattle.vfm_types.specs.declared.desc.Desc.{Desc}
use Rattle.vfm_types.specs.declared.entry.Entry.{Entry}
use Rattle.vfm_types.specs.declared.entry.Entry.TheVariants.{Begin}
use Rattle.vfm_types.specs.declared.entry.Rule.{Rule}
use Rattle.vfm_plain.specs.Rules.{fault_of}
use Rattle.vfm_plain.specs.Legal.{IsLegal, is_entry_of, broken, broken_from, fault_here}

pub legal_before : (D : Desc) (later past : List Entry) → IsLegal D (later ++ past) → IsLegal D past
legal_before D [] past legal = legal
legal_before D (entry ∷ later) past legal = legal_before D later past legal.2

-- a walk goes on after a legal list as if it began there
pub walk_behind : (D : Desc) (past rest : List Entry) → IsLegal D past → broken D (reverse past ++ rest) ≡ broken_from D past (length past) rest
walk_behind D [] rest legal = refl
walk_behind D (entry ∷ past) rest legal =
    ap (broken D) (ap (λ (xs : List Entry). xs ++ rest) (reverse_onto past entry []) ∙ append_assoc (reverse past) (entry ∷ []) rest)
    ∙ walk_behind D past (entry ∷ rest) legal.2
    ∙ ap (λ (o : Option Rule). fault_here (length past) o (broken_from D (entry ∷ past) (length past + 1) rest)) legal.1
    ∙ ap (λ (n : ℕ). broken_from D (entry ∷ past) n rest) (add-one (length past))

pub legal_unbroken : (D : Desc) (past : List Entry) → IsLegal D past → broken D (reverse past) ≡ None
legal_unbroken D past legal = ap (broken D) (sym (append-nil (reverse past))) ∙ walk_behind D past [] legal

pub more_broken : (D : Desc) (past : List Entry) (entry : Entry) (rule : Rule) → IsLegal D past → fault_of D past entry ≡ Some rule
    → broken D (reverse (entry ∷ past)) ≡ Some (length past, rule)
more_broken D past entry rule legal fault =
    ap (broken D) (reverse_onto past entry [])
    ∙ walk_behind D past (entry ∷ []) legal
    ∙ ap (λ (o : Option Rule). fault_here (length past) o (broken_from D (entry ∷ past) (length past + 1) [])) fault

-- something isn't nothing
pub some_none : {X : Type 0} (x : X) → Some x ≡ None → ⊥
some_none x e = cc

-- nothing is found where nothing is found here and nothing in the rest
nothing_here : (place : ℕ) (o : Option Rule) (rest : Option (ℕ × Rule)) → fault_here place o rest ≡ None → (o ≡ None) × (rest ≡ None)
nothing_here place None rest none = (refl, none)
nothing_here place (Some rule) rest none = absurd (some_none (place, rule) none)

-- the rest of a walk that finds nothing is legal on top of what it began with
pub walked_legal : (D : Desc) (past : List Entry) (place : ℕ) (entries : List Entry) → list_all (is_entry_of D) entries ≡ true
    → broken_from D past place entries ≡ None → IsLegal D past → IsLegal D (reverse_aux entries past)
walked_legal D past place [] inside none legal = legal
walked_legal D past place (entry ∷ entries) inside none legal =
    let parts = and_parts (is_entry_of D entry) (list_all (is_entry_of D) entries) inside in
    let rest = broken_from D (entry ∷ past) (place + 1) entries in
    let found = nothing_here place (fault_of D past entry) rest none in
    walked_legal D (entry ∷ past) (place + 1) entries parts.1 found.1 (parts.0, found.0, legal)

pub unbroken_legal : (D : Desc) (journal : List Entry) → list_all (is_entry_of D) journal ≡ true → broken D journal ≡ None → IsLegal D (reverse journal)
unbroken_legal D journal inside none = walked_legal D [] 0 journal inside none tt

pub legal_inside : (D : Desc) (past : List Entry) → IsLegal D past → list_all (is_entry_of D) past ≡ true
legal_inside D [] legal = refl
legal_inside D (entry ∷ past) legal = and_from (is_entry_of D entry) (list_all (is_entry_of D) past) legal.0 (legal_inside D past legal.2)

some_pair : (a b : ℕ × Rule) → Some a ≡ Some b → a ≡ b
some_pair a b same = cc

-- something is found here, or nothing here and the thing in the rest
found_where : (place : ℕ) (o : Option Rule) (rest : Option (ℕ × Rule)) (found : ℕ) (rule : Rule) → fault_here place o rest ≡ Some (found, rule)
    → ((o ≡ None) × (rest ≡ Some (found, rule))) ⊎ ((o ≡ Some rule) × (found ≡ place))
found_where place None rest found rule h = inl (refl, h)
found_where place (Some here) rest found rule h =
    let same = some_pair (place, here) (found, rule) h in
    inr (ap (λ (p : ℕ × Rule). Some p.1) same, ap (λ (p : ℕ × Rule). p.0) (sym same))

-- What a walk finds: so many entries on, an entry that breaks this rule over legal ones.
record Found (D : Desc) (past : List Entry) (place : ℕ) (entries : List Entry) (found : ℕ) (rule : Rule) : Type 0 where
  on : ℕ
  at : found ≡ place + on
  inside : on < length entries
  legal : IsLegal D (reverse_aux (take on entries) past)
  fault : fault_of D (reverse_aux (take on entries) past) (get_or entries on Begin) ≡ Some rule

walk_finds : (D : Desc) (past : List Entry) (place : ℕ) (entries : List Entry) (found : ℕ) (rule : Rule) → list_all (is_entry_of D) entries ≡ true
    → IsLegal D past → broken_from D past place entries ≡ Some (found, rule) → Found D past place entries found rule
walk_finds D past place [] found rule inside legal broken_here = absurd (some_none (found, rule) (sym broken_here))
walk_finds D past place (entry ∷ entries) found rule inside legal broken_here =
    let parts = and_parts (is_entry_of D entry) (list_all (is_entry_of D) entries) inside in
    ⊎_elim
    (λ (later : (fault_of D past entry ≡ None) × (broken_from D (entry ∷ past) (place + 1) entries ≡ Some (found, rule))).
    let rest = walk_finds D (entry ∷ past) (place + 1) entries found rule parts.1 (parts.0, later.0, legal) later.1 in
    let at : found ≡ place + 1 + rest.on = rest.at in
    let bound : rest.on < length entries = rest.inside in
    record { on = suc rest.on; at = omega arith; inside = omega arith; legal = rest.legal; fault = rest.fault })
    (λ (here : (fault_of D past entry ≡ Some rule) × (found ≡ place)).
    let at : found ≡ place = here.1 in
    record { on = 0; at = omega arith; inside = omega arith; legal = legal; fault = here.0 })
    (found_where place (fault_of D past entry) (broken_from D (entry ∷ past) (place + 1) entries) found rule broken_here)

module _ (D : Desc) (journal : List Entry) (place : ℕ) (rule : Rule) (inside : list_all (is_entry_of D) journal ≡ true)
    (broken_here : broken D journal ≡ Some (place, rule)) where
  finding : Found D [] 0 journal place rule
  finding = walk_finds D [] 0 journal place rule inside tt broken_here

  place_is : finding.on ≡ place
  place_is = let at : place ≡ 0 + finding.on = finding.at in omega arith

  pub broken_inside : place < length journal
  broken_inside = subst (λ (k : ℕ). k < length journal) place_is finding.inside

  pub broken_legal : IsLegal D (reverse (take place journal))
  broken_legal = subst (λ (k : ℕ). IsLegal D (reverse (take k journal))) place_is finding.legal

  pub broken_rule : fault_of D (reverse (take place journal)) (get_or journal place Begin) ≡ Some rule
  broken_rule = subst (λ (k : ℕ). fault_of D (reverse (take k journal)) (get_or journal k Begin) ≡ Some rule) place_is finding.fault
