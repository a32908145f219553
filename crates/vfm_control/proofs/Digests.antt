-- Whether two digests are the same, as the machine tests it.
use Rattle.std.proofs.Common.{◌≡◌, ◌≢◌, ℕ, Bool, true, false, List, refl}
use Rattle.std.specs.Str.{bytes_eq}
use Rattle.std.specs.Cmp.Lexicographic.{same_text, other_text}

self_test : (r : Bool) (digest : List ℕ) → r ≡ bytes_eq digest digest → r ≡ true
self_test true digest e = refl
self_test false digest e = absurd (other_text digest digest e refl)

pub same_as_itself : (digest : List ℕ) → bytes_eq digest digest ≡ true
same_as_itself digest = self_test (bytes_eq digest digest) digest refl

other_test : (r : Bool) (xs ys : List ℕ) → r ≡ bytes_eq xs ys → xs ≢ ys → r ≡ false
other_test true xs ys e other = absurd (other (same_text xs ys e))
other_test false xs ys e other = refl

pub not_as_another : (xs ys : List ℕ) → xs ≢ ys → bytes_eq xs ys ≡ false
not_as_another xs ys other = other_test (bytes_eq xs ys) xs ys refl other
