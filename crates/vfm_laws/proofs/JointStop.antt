-- The joint stop: a legal list has one Joint at the most, and what the journal has before it made the machine there.
use Rattle.std.proofs.Common.{◌≡◌, Bool, true, false, ◌&&◌, ◌||◌, not, List, [], ◌∷◌, ◌++◌, reverse, Some, None, refl, ap, sym, ◌∙◌}
use Rattle.std.proofs.lemmas.Bool.{and_parts, not-true, true≢false, false≢true}
use Rattle.std.proofs.lemmas.Grind.{reverse_onto}
use Rattle.vfm_types.specs.declared.desc.Desc.{Desc}
use Rattle.vfm_types.specs.declared.entry.Entry.{Entry}
use Rattle.vfm_types.specs.declared.entry.Entry.TheVariants.{Joint}
use Rattle.vfm_types.specs.declared.entry.Rule.TheVariants.{Order, Joint as Standing}
use Rattle.vfm_types.specs.Requests.{plain}
use Rattle.vfm_types.specs.Phases.{is_joint, is_on}
use Rattle.vfm_types.specs.Deliveries.{delivers, joint_machine, before_joint}
use Rattle.vfm_types.specs.Valid.{IsValid}
use Rattle.vfm_plain.specs.JointRules.{is_all_in_stop_copy}
use Rattle.vfm_plain.specs.Rules.{fault_of}
use Rattle.vfm_plain.specs.Legal.{IsLegal}
use Rattle.vfm_laws.proofs.Conditions.{met}
use Rattle.vfm_laws.proofs.Enabled.{plain_exists}

-- a Joint among the entries of two lists, or of a reversed one
joint_append : (first second : List Entry) → is_joint (first ++ second) ≡ (is_joint first || is_joint second)
joint_append [] second = refl
joint_append (Joint ∷ first) second = refl
joint_append (entry ∷ first) second = joint_append first second

or_true : (b : Bool) → (b || true) ≡ true
or_true true = refl
or_true false = refl

or_false : (b : Bool) → (b || false) ≡ b
or_false true = refl
or_false false = refl

joint_onto : (past : List Entry) (entry : Entry) → is_joint (reverse (entry ∷ past)) ≡ (is_joint (reverse past) || is_joint (entry ∷ []))
joint_onto past entry = ap is_joint (reverse_onto past entry []) ∙ joint_append (reverse past) (entry ∷ [])

joint_reverse : (past : List Entry) → is_joint (reverse past) ≡ is_joint past
joint_reverse [] = refl
joint_reverse (Joint ∷ past) = joint_onto past Joint ∙ or_true (is_joint (reverse past))
joint_reverse (entry ∷ past) = joint_onto past entry ∙ or_false (is_joint (reverse past)) ∙ joint_reverse past

-- what stands before a Joint that no other one stands before
before_here : (first second : List Entry) → is_joint first ≡ false → before_joint (first ++ Joint ∷ second) ≡ first
before_here [] second none = refl
before_here (Joint ∷ first) second none = absurd (true≢false none)
before_here (entry ∷ first) second none = ap (λ (entries : List Entry). entry ∷ entries) (before_here first second none)

-- entries after a Joint change nothing
before_same : (first second : List Entry) → is_joint first ≡ true → before_joint (first ++ second) ≡ before_joint first
before_same [] second there = absurd (false≢true there)
before_same (Joint ∷ first) second there = refl
before_same (entry ∷ first) second there = ap (λ (entries : List Entry). entry ∷ entries) (before_same first second there)

-- a Joint is made where none stands
pub first_joint : (D : Desc) (past : List Entry) → fault_of D past Joint ≡ None → is_joint past ≡ false
first_joint D past unbroken =
    let order = met (is_on past && not (is_joint past)) Order ((is_all_in_stop_copy D past, Standing) ∷ []) unbroken in
    not-true (is_joint past) (and_parts (is_on past) (not (is_joint past)) order.0).1

-- the plain machine that does what the journal delivers before its Joint exists, and is the machine at the joint stop
pub joint_exists : (D : Desc) → IsValid D → (past : List Entry) → IsLegal D past → is_joint past ≡ true
    → plain D (delivers (before_joint (reverse past))) ≡ Some (joint_machine D past)
joint_exists D valid [] legal there = absurd (false≢true there)
joint_exists D valid (Joint ∷ past) legal there =
    ap (λ (entries : List Entry). plain D (delivers (before_joint entries))) (reverse_onto past Joint [])
    ∙ ap (λ (entries : List Entry). plain D (delivers entries)) (before_here (reverse past) [] (joint_reverse past ∙ first_joint D past legal.1))
    ∙ plain_exists D valid past legal.2
joint_exists D valid (entry ∷ past) legal there =
    ap (λ (entries : List Entry). plain D (delivers (before_joint entries))) (reverse_onto past entry [])
    ∙ ap (λ (entries : List Entry). plain D (delivers entries)) (before_same (reverse past) (entry ∷ []) (joint_reverse past ∙ there))
    ∙ joint_exists D valid past legal.2 there
