-- The bytes that a text of hex digits encodes.
use Rattle.std.proofs.Common.{◌≡◌, ℕ, ◌≤◌, List, length, Option, Some, None, Result, Ok, refl, ap, arith}
use Rattle.std.specs.Prelude.{IsSome, IfSome}
use Rattle.std.specs.Option.{ok_or}
use Rattle.std.proofs.lemmas.Bool.{le-leb}
use Rattle.hex.specs.Hex.{decode_of}
use Rattle.hex.proofs.HexLemmas.{decode_of-ok}
use Rattle.vfm_types.specs.declared.fault.DescFault.{DescFault}
use Rattle.vfm_desc.specs.Reading.{Gives, bytes_of_hex}

-- the value that is there
some_is : {X : Type 0} (o : Option X) (x : X) → IsSome o → IfSome o (λ y. y ≡ x) → o ≡ Some x
some_is None x there is = absurd cc
some_is {X} (Some y) x there is = ap (λ (z : X). Some z) is

-- digits that were decoded, and whose bytes were kept
pub hex_kept : (text bytes lent : List ℕ) (e : DescFault) (kept : Option (List ℕ)) (answer : Result (List ℕ) DescFault) → 2 ≤ length text → length text ≤ 128 → decode_of text ≡ Ok bytes → lent ≡ bytes
    → ((1 ≤ length lent) × (length lent ≤ 64) → IsSome kept) → IfSome kept (λ k. k ≡ lent) → answer ≡ ok_or kept e → Gives (λ (k : List ℕ). k) answer (ok_or (bytes_of_hex text) e)
hex_kept text bytes lent e kept answer low high decoded same there is answered =
    let twice = (decode_of-ok text bytes decoded).2 in
    let size = ap (λ (xs : List ℕ). length xs) same in
    let some : kept ≡ Some lent = some_is kept lent (there (omega arith, omega arith)) is in
    let whole : bytes_of_hex text ≡ Some bytes = rw (le-leb 2 (length text) low, le-leb (length text) 128 high, decoded) refl in
    rw (answered, some, whole, same) refl
