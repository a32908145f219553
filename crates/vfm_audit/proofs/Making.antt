-- A core that makes entries one after another, and the first of them that breaks a rule.
use Rattle.std.proofs.Common.{◌≡◌, ℕ, ◌+◌, ◌-◌, ◌<◌, ◌≤◌, List, [], ◌∷◌, ◌++◌, length, take, drop, reverse, slice_index_or, Option, Some, None, refl, ap, ap₂, sym, arith, ◌∙◌, subst, append_assoc}
use Rattle.std.proofs.lemmas.List.{append-nil, length-drop, length-map, take_all, length-reverse, reverse-append, reverse-reverse, take_more, take-append-drop}
use Rattle.vfm_types.specs.declared.desc.Desc.{Desc}
use Rattle.vfm_types.specs.declared.entry.Entry.{Entry}
use Rattle.vfm_types.specs.declared.entry.Rule.{Rule}
use Rattle.vfm_plain.specs.Rules.{fault_of}
use Rattle.vfm_plain.specs.Legal.{broken, broken_from, fault_here}
use Rattle.vfm_laws.proofs.Walks.{legal_unbroken, walk_behind}
use Rattle.vfm_parts.specs.Parts.{World}
use Rattle.vfm_types.specs.Deliveries.{delivers}
use Rattle.vfm_types.specs.Machine.{Machine}
use Rattle.vfm_types.specs.Requests.{plain}
use Rattle.vfm_core.specs.CoreState.{CoreState, FitsDesc, IsAfter, with_entry}
use Rattle.vfm_core.specs.Machines.{machine_in, plain_of}
use Rattle.vfm_core.proofs.Machines.{after_plain}
use Rattle.vfm_audit.specs.Audit.{IsFaultOf}
use Rattle.vfm_audit.specs.Steps.{HasItsParts, HasMade, IsMachineOf}
use Rattle.vfm_audit.specs.declared.fault.AuditFault.{AuditFault}

-- one entry more, newest first
reverse_more : (entries : List Entry) (e : Entry) → reverse (entries ++ e ∷ []) ≡ e ∷ reverse entries
reverse_more entries e = reverse-append entries (e ∷ [])

-- the parts after one more entry are those of all entries
pub one_made : (core : CoreState) (e : Entry) (w : World) → IsAfter core.desc (e ∷ reverse core.entries) w → HasMade core (e ∷ []) (with_entry e w core)
one_made core e w after =
    record {
      desc = refl;
      made = refl;
      parts = subst (λ (past : List Entry). IsAfter core.desc past w) (sym (reverse_more core.entries e)) after;
    }

pub none_made : (core : CoreState) → HasItsParts core → HasMade core [] core
none_made core parts = record { desc = refl; made = sym (append-nil core.entries); parts = parts }

-- entries, and then more
pub then_made : (a b c : CoreState) (first second : List Entry) → HasMade a first b → HasMade b second c → HasMade a (first ++ second) c
then_made a b c first second one two =
    record {
      desc = two.desc ∙ one.desc;
      made = two.made ∙ ap (λ (entries : List Entry). entries ++ second) one.made ∙ append_assoc a.entries first second;
      parts = two.parts;
    }

-- the first i entries and one more
pub more_made : (a b c : CoreState) (entries : List Entry) (i : ℕ) (x : Entry) → HasMade a (take i entries) b → i < length entries
    → HasMade b (slice_index_or entries i x ∷ []) c → HasMade a (take (i + 1) entries) c
more_made a b c entries i x before inside one =
    subst (λ (list : List Entry). HasMade a list c) (sym (take_more entries i x inside)) (then_made a b c (take i entries) _ before one)

-- an entry that breaks a rule is the fault of all, whatever comes behind it
pub fault_behind : (core : CoreState) (e : Entry) (rule : Rule) (place : ℕ) (more : List Entry) → HasItsParts core
    → fault_of core.desc (reverse core.entries) e ≡ Some rule → place ≡ length core.entries
    → broken core.desc (core.entries ++ e ∷ more) ≡ Some (place, rule)
fault_behind core e rule place more parts fault at =
    let past = reverse core.entries in
    ap (λ (entries : List Entry). broken core.desc (entries ++ e ∷ more)) (sym (reverse-reverse core.entries))
    ∙ walk_behind core.desc past (e ∷ more) parts.legal
    ∙ ap (λ (o : Option Rule). fault_here (length past) o (broken_from core.desc (e ∷ past) (length past + 1) more)) fault
    ∙ ap (λ (n : ℕ). Some (n, rule)) (length-reverse core.entries ∙ sym at)

-- entries that were all made break no rule
pub none_broken : (core : CoreState) → HasItsParts core → broken core.desc core.entries ≡ None
none_broken core parts =
    ap (broken core.desc) (sym (reverse-reverse core.entries)) ∙ legal_unbroken core.desc (reverse core.entries) parts.legal

-- the entries before place i, the one there, and those behind it
pub around : (entries : List Entry) (i : ℕ) (x : Entry) (more : List Entry) → i < length entries
    → take i entries ++ (slice_index_or entries i x ∷ (drop (i + 1) entries ++ more)) ≡ entries ++ more
around entries i x more inside =
    sym (append_assoc (take i entries) (slice_index_or entries i x ∷ []) (drop (i + 1) entries ++ more))
    ∙ ap (λ (list : List Entry). list ++ (drop (i + 1) entries ++ more)) (sym (take_more entries i x inside))
    ∙ sym (append_assoc (take (i + 1) entries) (drop (i + 1) entries) more)
    ∙ ap (λ (list : List Entry). list ++ more) (take-append-drop (i + 1) entries)

-- the fault of the entries so far with one more is that of all
pub fault_of_all : (a b : CoreState) (entries : List Entry) (i : ℕ) (e x : Entry) (more : List Entry) (fault : AuditFault)
    → HasMade a (take i entries) b → i < length entries → e ≡ slice_index_or entries i x
    → IsFaultOf b.desc (b.entries ++ (e ∷ (drop (i + 1) entries ++ more))) fault → IsFaultOf a.desc ((a.entries ++ entries) ++ more) fault
fault_of_all a b entries i e x more fault made inside is found =
    let rest = drop (i + 1) entries ++ more in
    let all : b.entries ++ (e ∷ rest) ≡ (a.entries ++ entries) ++ more =
    ap (λ (list : List Entry). list ++ (e ∷ rest)) made.made
    ∙ append_assoc a.entries (take i entries) (e ∷ rest)
    ∙ ap (λ (entry : Entry). a.entries ++ (take i entries ++ (entry ∷ rest))) is
    ∙ ap (λ (list : List Entry). a.entries ++ list) (around entries i x more inside)
    ∙ sym (append_assoc a.entries entries more) in
    subst (λ (D : Desc). IsFaultOf D ((a.entries ++ entries) ++ more) fault) made.desc
    (subst (λ (list : List Entry). IsFaultOf b.desc list fault) all found)

-- the fault of a new core's first entries is that of all
pub fault_in_front : (a : CoreState) (entries : List Entry) (i : ℕ) (more : List Entry) (fault : AuditFault) → a.entries ≡ []
    → IsFaultOf a.desc ((a.entries ++ take i entries) ++ (drop i entries ++ more)) fault → IsFaultOf a.desc (entries ++ more) fault
fault_in_front a entries i more fault new found =
    subst (λ (list : List Entry). IsFaultOf a.desc list fault)
    (ap (λ (list : List Entry). (list ++ take i entries) ++ (drop i entries ++ more)) new
    ∙ sym (append_assoc (take i entries) (drop i entries) more)
    ∙ ap (λ (list : List Entry). list ++ more) (take-append-drop i entries))
    found

-- and so is that of the others
pub fault_behind_front : (a b : CoreState) (entries : List Entry) (i : ℕ) (more : List Entry) (fault : AuditFault) → a.entries ≡ []
    → HasMade a (take i entries) b → IsFaultOf b.desc ((b.entries ++ drop i entries) ++ more) fault → IsFaultOf a.desc (entries ++ more) fault
fault_behind_front a b entries i more fault new made found =
    subst (λ (D : Desc). IsFaultOf D (entries ++ more) fault) made.desc
    (subst (λ (list : List Entry). IsFaultOf b.desc list fault)
    (ap (λ (list : List Entry). (list ++ drop i entries) ++ more) (made.made ∙ ap (λ (list : List Entry). list ++ take i entries) new)
    ∙ ap (λ (list : List Entry). list ++ more) (take-append-drop i entries))
    found)

-- the first entries, and then the others
pub both_made : (a b c : CoreState) (entries : List Entry) (i : ℕ) → HasMade a (take i entries) b → HasMade b (drop i entries) c
    → HasMade a entries c
both_made a b c entries i one two =
    subst (λ (list : List Entry). HasMade a list c) (take-append-drop i entries) (then_made a b c (take i entries) (drop i entries) one two)

-- all entries but the first i
pub rest_all : (entries : List Entry) (i : ℕ) → take (length entries - i) (drop i entries) ≡ drop i entries
rest_all entries i =
    let count = length-drop i entries in
    take_all (length entries - i) (drop i entries) (omega arith)

-- a fault, by other names of the description and the journal
pub fault_for : (D E : Desc) (xs ys : List Entry) (fault : AuditFault) → D ≡ E → xs ≡ ys → IsFaultOf D xs fault → IsFaultOf E ys fault
fault_for D E xs ys fault desc list found =
    subst (λ (F : Desc). IsFaultOf F ys fault) desc (subst (λ (zs : List Entry). IsFaultOf D zs fault) list found)

-- what a new core made first is all that it has
pub first_made : (a b : CoreState) (first source : List Entry) → a.entries ≡ [] → HasMade a first b → first ≡ source → b.entries ≡ source
first_made a b first source new made is = made.made ∙ ap (λ (entries : List Entry). entries ++ first) new ∙ is

-- two journals that a new core made
pub two_made : (a b c : CoreState) (first second source dest : List Entry) → a.entries ≡ [] → HasMade a first b → HasMade b second c
    → first ≡ source → second ≡ dest → c.entries ≡ source ++ dest
two_made a b c first second source dest new one two is then =
    two.made ∙ ap₂ (λ (xs ys : List Entry). xs ++ ys) (first_made a b first source new one is) then

-- the second journal is in the fault with nothing behind it
pub fault_in_second : (D : Desc) (a b : CoreState) (first second source dest : List Entry) (fault : AuditFault) → a.desc ≡ D → a.entries ≡ []
    → HasMade a first b → first ≡ source → second ≡ dest → IsFaultOf b.desc ((b.entries ++ second) ++ []) fault
    → IsFaultOf D (source ++ dest) fault
fault_in_second D a b first second source dest fault desc new one is then found =
    fault_for b.desc D ((b.entries ++ second) ++ []) (source ++ dest) fault (one.desc ∙ desc)
    (append-nil (b.entries ++ second) ∙ ap₂ (λ (xs ys : List Entry). xs ++ ys) (first_made a b first source new one is) then) found

pub unbroken_for : (D : Desc) (c : CoreState) (journal : List Entry) → c.desc ≡ D → c.entries ≡ journal → HasItsParts c → broken D journal ≡ None
unbroken_for D c journal desc list parts =
    subst (λ (F : Desc). broken F journal ≡ None) desc
    (subst (λ (xs : List Entry). broken c.desc xs ≡ None) list (none_broken c parts))

-- the machine of what a core delivered
pub machine_made : (core : CoreState) (m : Machine) → HasItsParts core → FitsDesc core.desc core.world → m ≡ machine_in core.world → IsMachineOf core m
machine_made core m parts fit is =
    rw is record {
      machine =
          ap (λ (entries : List Entry). plain core.desc (delivers entries)) (sym (reverse-reverse core.entries))
          ∙ after_plain core.desc (reverse core.entries) core.world fit parts;
      pages = fit.pages;
      devices = length-map core.world.devs plain_of ∙ fit.devs;
      few_pages = subst (λ (n : ℕ). n ≤ 1024) (sym fit.pages) fit.valid.in_range.pages_high;
      few_devices = subst (λ (n : ℕ). n ≤ 8) (sym (length-map core.world.devs plain_of ∙ fit.devs)) fit.valid.in_range.count_high;
    }
