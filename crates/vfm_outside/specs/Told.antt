-- Lists of bytes that an object may report: `None` stands for one that doesn't report, and no call changes that.
use Rattle.std.specs.Prelude.{◌≡◌, ℕ, ◌<◌, ◌≤◌, Option, Some, None, IfSome, Result, MatchResult, List, [], ◌++◌, length, take, refl}
use Rattle.std.proofs.Common.{ap, sym, append_assoc, append-nil}

-- what was reported, with these bytes after it
abbrev pub with_appended : {T : Type 0} → Option (List T) → List T → Option (List T)
with_appended None bytes = None
with_appended (Some told) bytes = Some (told ++ bytes)

-- these bytes, with what is reported after them
abbrev pub with_prepended : {T : Type 0} → List T → Option (List T) → Option (List T)
with_prepended bytes None = None
with_prepended bytes (Some told) = Some (bytes ++ told)

-- where it is reported, it is empty
abbrev pub TellsNone : {T : Type 0} → Option (List T) → Type 0
TellsNone told = IfSome told (λ xs. xs ≡ [])

-- A read into a buffer: the first bytes of the buffer are those that were left first, and no others are lost.
-- Nothing at all is the end. The rest of the buffer is left open, after a failed read all of it.
abbrev pub Reads : {E : Type 0} → Result ℕ E → List ℕ → Option (List ℕ) → Option (List ℕ) → Type 0
Reads result buf before now = MatchResult result
    (λ n. (n ≤ length buf) × (before ≡ with_prepended (take n buf) now) × (n ≡ 0 → 0 < length buf → TellsNone before))
    (λ _. now ≡ before)

-- A write of a piece: a prefix of it that isn't empty is taken, and put after what was held. A refused one takes nothing.
abbrev pub Takes : {E : Type 0} → Result ℕ E → List ℕ → Option (List ℕ) → Option (List ℕ) → Type 0
Takes result piece before now = MatchResult result
    (λ n. (n ≤ length piece) × (0 < length piece → 0 < n) × (now ≡ with_appended before (take n piece)))
    (λ _. now ≡ before)

-- A receipt into a buffer: the first bytes of the buffer came, and stand after what was received before.
abbrev pub Receives : {E : Type 0} → Result ℕ E → List ℕ → Option (List ℕ) → Option (List ℕ) → Type 0
Receives result buf before now = MatchResult result
    (λ n. (n ≤ length buf) × (now ≡ with_appended before (take n buf)))
    (λ _. now ≡ before)

-- two pieces after what was reported are one
pub with_appended-with_appended : {T : Type 0} (told : Option (List T)) (first second : List T)
    → with_appended (with_appended told first) second ≡ with_appended told (first ++ second)
with_appended-with_appended None first second = refl
with_appended-with_appended (Some told) first second = ap Some (append_assoc told first second)

-- two pieces before what is reported are one
pub with_prepended-with_prepended : {T : Type 0} (first second : List T) (told : Option (List T))
    → with_prepended first (with_prepended second told) ≡ with_prepended (first ++ second) told
with_prepended-with_prepended first second None = refl
with_prepended-with_prepended first second (Some told) = ap Some (sym (append_assoc first second told))

-- no bytes after what was reported change nothing
pub with_appended-nil : {T : Type 0} (told : Option (List T)) → with_appended told [] ≡ told
with_appended-nil None = refl
with_appended-nil (Some told) = ap Some (append-nil told)

-- no bytes before what is reported change nothing
pub with_prepended-nil : {T : Type 0} (told : Option (List T)) → with_prepended [] told ≡ told
with_prepended-nil None = refl
with_prepended-nil (Some told) = refl
