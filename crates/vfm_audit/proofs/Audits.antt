-- A report has one audit, and one that passes has one clean run.
use Rattle.std.proofs.Common.{◌≡◌, ℕ, true, List, [], ◌∷◌, IsTrue, Option, Some, None, Result, Ok, Err, refl, sym, ◌∙◌, ap}
use Rattle.std.specs.Prelude.{unwrap_or}
use Rattle.std.specs.List.{list_all}
use Rattle.std.proofs.lemmas.Bool.{and_from}
use Rattle.std.proofs.lemmas.List.Elements.{All-cons, All-nil}
use Rattle.std.proofs.lemmas.List.Folds.{list_all-append}
use Rattle.vfm_types.specs.declared.desc.Desc.{Desc}
use Rattle.vfm_types.specs.declared.entry.Entry.{Entry}
use Rattle.vfm_types.specs.Valid.{IsValid}
use Rattle.vfm_plain.specs.Clean.{IsClean}
use Rattle.vfm_plain.specs.Legal.{IsLegal, broken, is_entry_of}
use Rattle.vfm_laws.proofs.Cleanness.{legal_clean}
use Rattle.vfm_laws.proofs.Walks.{unbroken_legal}
use Rattle.vfm_report.specs.Printed.{IfThere, IsPrinted, IsPrintedJournal}
use Rattle.vfm_audit.specs.Audit.{AreEntriesOf}
use Rattle.vfm_types.specs.declared.entry.Rule.{Rule}
use Rattle.vfm_plain.specs.Report.{Made, journal, past}
use Rattle.vfm_audit.specs.Audited.{IsAuditOf}
use Rattle.vfm_audit.specs.declared.fault.ReportFault.{ReportFault}
use Rattle.vfm_audit.specs.declared.fault.ReportFault.TheVariants.{Broken, StateDiffers, NoMemory}
use Rattle.vfm_audit.specs.declared.fault.Section.TheVariants.{Joint, Last}

found_or_not : {X : Type 0} (x : X) (o : Option X) → o ≡ Some x → o ≡ None → ⊥
found_or_not x o some none = cc

same_broken : (p q : ℕ) (r t : Rule) (o : Option (ℕ × Rule)) → o ≡ Some (p, r) → o ≡ Some (q, t)
    → ◌≡◌ {A = Result ℕ ReportFault} (Err (Broken p r)) (Err (Broken q t))
same_broken p q r t o one other = ap (broken_of (Broken q t)) (sym one ∙ other)
  where
    broken_of : ReportFault → Option (ℕ × Rule) → Result ℕ ReportFault
    broken_of other None = Err other
    broken_of other (Some found) = Err (Broken found.0 found.1)

pub one_result : (made : Made) (one other : Result ℕ ReportFault) → IsAuditOf made one → IsAuditOf made other
    → (one ≡ Err NoMemory → ⊥) → (other ≡ Err NoMemory → ⊥) → one ≡ other
one_result made (Err NoMemory) other a b known shown = absurd (known refl)
one_result made (Ok n) (Err NoMemory) a b known shown = absurd (shown refl)
one_result made (Err (Broken p r)) (Err NoMemory) a b known shown = absurd (shown refl)
one_result made (Err (StateDiffers s)) (Err NoMemory) a b known shown = absurd (shown refl)
one_result made (Ok n) (Ok m) a b known shown = ap Ok (a.3 ∙ sym b.3)
one_result made (Ok n) (Err (Broken p r)) a b known shown = absurd (found_or_not _ _ b a.0)
one_result made (Ok n) (Err (StateDiffers Joint)) a b known shown = absurd (b.1 a.1)
one_result made (Ok n) (Err (StateDiffers Last)) a b known shown = absurd (b.2 a.2)
one_result made (Err (Broken p r)) (Ok m) a b known shown = absurd (found_or_not _ _ a b.0)
one_result made (Err (Broken p r)) (Err (Broken q t)) a b known shown = same_broken p q r t _ a b
one_result made (Err (Broken p r)) (Err (StateDiffers Joint)) a b known shown = absurd (found_or_not _ _ a b.0)
one_result made (Err (Broken p r)) (Err (StateDiffers Last)) a b known shown = absurd (found_or_not _ _ a b.0)
one_result made (Err (StateDiffers Joint)) (Ok m) a b known shown = absurd (a.1 b.1)
one_result made (Err (StateDiffers Last)) (Ok m) a b known shown = absurd (a.2 b.2)
one_result made (Err (StateDiffers Joint)) (Err (Broken q t)) a b known shown = absurd (found_or_not _ _ b a.0)
one_result made (Err (StateDiffers Last)) (Err (Broken q t)) a b known shown = absurd (found_or_not _ _ b a.0)
one_result made (Err (StateDiffers Joint)) (Err (StateDiffers Joint)) a b known shown = refl
one_result made (Err (StateDiffers Joint)) (Err (StateDiffers Last)) a b known shown = absurd (a.1 b.1)
one_result made (Err (StateDiffers Last)) (Err (StateDiffers Joint)) a b known shown = absurd (b.1 a.1)
one_result made (Err (StateDiffers Last)) (Err (StateDiffers Last)) a b known shown = refl

-- the entries of a journal that was read name what its machine has
each_there : (D : Desc) (entries : List Entry) → IsPrintedJournal D entries → list_all (is_entry_of D) entries ≡ true
each_there D [] printed = refl
each_there D (entry ∷ entries) printed = and_from (is_entry_of D entry) (list_all (is_entry_of D) entries) printed.0.there (each_there D entries printed.1)

pub all_there : (D : Desc) (entries : List Entry) → IsPrintedJournal D entries → AreEntriesOf D entries
all_there D [] printed = All-nil (λ entry. IsTrue (is_entry_of D entry))
all_there D (entry ∷ entries) printed = All-cons (λ e. IsTrue (is_entry_of D e)) entry entries printed.0.there (all_there D entries printed.1)

rest_there : (D : Desc) (entries : Option (List Entry)) → IfThere (IsPrintedJournal D) entries
    → list_all (is_entry_of D) (unwrap_or entries []) ≡ true
rest_there D None printed = refl
rest_there D (Some entries) printed = each_there D entries printed

-- journals that break no rule are one legal run, and that is clean
pub legal_run : (made : Made) → IsPrinted made → broken made.desc (journal made) ≡ None → IsLegal made.desc (past made)
legal_run made printed unbroken =
    unbroken_legal made.desc (journal made)
    (list_all-append (is_entry_of made.desc) made.source (unwrap_or made.destination [])
    ∙ and_from (list_all (is_entry_of made.desc) made.source) (list_all (is_entry_of made.desc) (unwrap_or made.destination []))
    (each_there made.desc made.source printed.source) (rest_there made.desc made.destination printed.destination))
    unbroken

pub clean_run : (made : Made) → IsValid made.desc → IsLegal made.desc (past made) → IsClean made.desc (past made)
clean_run made valid legal = legal_clean made.desc valid (past made) legal

pub dest_there : (D : Desc) (entries : Option (List Entry)) → IfThere (IsPrintedJournal D) entries → AreEntriesOf D (unwrap_or entries [])
dest_there D None printed = All-nil (λ entry. IsTrue (is_entry_of D entry))
dest_there D (Some entries) printed = all_there D entries printed
