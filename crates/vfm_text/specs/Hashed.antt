-- How what a hasher holds adds up.
use Rattle.std.specs.Prelude.{ℕ, List, [], ◌++◌}
use Rattle.std.proofs.Common.{subst, sym, append_assoc, append-nil}
use Rattle.sha2.specs.Hashers.{Holds256}
use Rattle.sha2.specs.declared.Sha256.{Sha256}

-- nothing more
pub hashed_nothing : (a : Sha256) (m : List ℕ) → Holds256 a m → Holds256 a (m ++ [])
hashed_nothing a m h = subst (Holds256 a) (sym (append-nil m)) h

-- two pieces
pub hashed_more : (a b c : Sha256) (x y : List ℕ) → ((m : List ℕ) → Holds256 a m → Holds256 b (m ++ x)) → ((m : List ℕ) → Holds256 b m → Holds256 c (m ++ y)) → (m : List ℕ) → Holds256 a m → Holds256 c (m ++ (x ++ y))
hashed_more a b c x y h k m held = subst (Holds256 c) (append_assoc m x y) (k (m ++ x) (h m held))
