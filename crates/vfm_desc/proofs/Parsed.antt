-- The JSON value of a description's bytes, from what the parser says of them.
use Rattle.std.proofs.Common.{◌≡◌, ℕ, ◌≤◌, Bool, true, false, List, length, Some, None, Ok, Err, refl}
use Rattle.std.specs.Str.{IsUtf8, is_utf8}
use Rattle.std.proofs.lemmas.Bool.{le-leb}
use Rattle.std.proofs.lemmas.Str.{is_utf8-from_IsUtf8, IsUtf8-from_is_utf8}
use Rattle.serde_json.specs.Data.{Data}
use Rattle.serde_json.specs.Read.{read}
use Rattle.vfm_types.specs.declared.fault.DescFault.TheVariants.{NotJson}
use Rattle.vfm_desc.specs.Described.{most_bytes, parsed}

-- a text that has a value
pub parsed-ok : (bytes : List ℕ) (value : Data) → length bytes ≤ most_bytes → IsUtf8 bytes → read bytes ≡ Some value → parsed bytes ≡ Ok value
unfolding parsed
parsed-ok bytes value few text found = rw (le-leb (length bytes) most_bytes few, is_utf8-from_IsUtf8 bytes text, found) refl

refused : (bytes : List ℕ) (text : Bool) → is_utf8 bytes ≡ text → length bytes ≤ most_bytes → (IsUtf8 bytes → read bytes ≡ None) → parsed bytes ≡ Err NotJson
unfolding parsed
refused bytes true is few none = let found = none (IsUtf8-from_is_utf8 bytes is) in rw (le-leb (length bytes) most_bytes few, is, found) refl
refused bytes false is few none = rw (le-leb (length bytes) most_bytes few, is) refl

-- bytes that are no text, or a text that has no value
pub parsed-err : (bytes : List ℕ) → length bytes ≤ most_bytes → (IsUtf8 bytes → read bytes ≡ None) → parsed bytes ≡ Err NotJson
parsed-err bytes few none = refused bytes (is_utf8 bytes) refl few none

-- no test is both
pub not_both : (b : Bool) → b ≡ true → b ≡ false → ⊥
not_both b holds fails = absurd cc
