-- What an answer says of the bytes, by the tests.
use Rattle.std.proofs.Common.{◌≡◌, ℕ, Option, None, refl, sym, subst}
use Rattle.std.specs.Prelude.{Result, Ok, Err, IsOk, IfOk}
use Rattle.vfm_record.specs.declared.record.Rec.{Rec}
use Rattle.vfm_record.specs.declared.record.RecordFault.{RecordFault}
use Rattle.vfm_record.specs.Record.{Record, record_of}
use Rattle.vfm_record.specs.Tests.{AgreesWith}

pub given : (P : Record → Type 0) (answer : Result Rec RecordFault) (fault : Option ℕ) (r : Record)
    → AgreesWith answer fault r → (fault ≡ None → P r) → IfOk answer (λ x. P (record_of x))
given P (Ok x) fault r told holds = subst P (sym told.1) (holds told.0)
given P (Err e) fault r told holds = tt

pub is_given : (answer : Result Rec RecordFault) (fault : Option ℕ) (r : Record)
    → AgreesWith answer fault r → fault ≡ None → IsOk answer × IfOk answer (λ x. record_of x ≡ r)
is_given (Ok x) fault r told none = (refl, told.1)
is_given (Err e) fault r told none = absurd cc
