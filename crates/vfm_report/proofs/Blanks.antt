-- Words that have neither a blank nor a line feed.
use Rattle.std.proofs.Common.{◌≡◌, ℕ, zero, suc, ◌+◌, ◌/◌, ◌%◌, ◌<◌, List, [], ◌∷◌, true, false, refl, decimal, arith}
use Rattle.std.specs.Prelude.{◌==◌, not}
use Rattle.std.specs.List.{list_all}
use Rattle.std.specs.Fmt.{digits_onto, digits, digit_glyph}
use Rattle.vfm_types.specs.Bytes.{is_name_byte}
use Rattle.vfm_report.specs.HexWord.{is_low_digit}
use Rattle.std.proofs.lemmas.Bool.{and_from, and_parts, not_from_false, ne_eqb, cond_both, lt-ltb}
use Rattle.vfm_types.specs.declared.state.MigState.{MigState}
use Rattle.vfm_types.specs.declared.state.MigState.TheVariants.{Error, Stop, Running, StopCopy, Resuming, RunningP2p, PreCopy, PreCopyP2p}
use Rattle.vfm_plain.specs.Text.{state_name}
use Rattle.vfm_report.specs.Split.{is_without}

-- a byte below the digits is in no numeral
glyph-is : (d : ℕ) → d < 10 → digit_glyph false d ≡ 48 + d
glyph-is d small = rw (lt-ltb d 10 small) refl

glyph-without : (b d : ℕ) → b < 48 → d < 10 → (digit_glyph false d == b) ≡ false
glyph-without b d low small = ne_eqb (digit_glyph false d) b (λ e. omega (arith, glyph-is d small, e, low))

without-onto : (b k n : ℕ) (acc : List ℕ) → b < 48 → is_without b acc ≡ true → is_without b (digits_onto k 10 false n acc) ≡ true
without-onto b zero n acc low h = h
without-onto b (suc k) n acc low h =
    let here : is_without b (digit_glyph false (n % 10) ∷ acc) ≡ true =
    and_from (not (digit_glyph false (n % 10) == b)) (is_without b acc) (not_from_false (digit_glyph false (n % 10) == b) (glyph-without b (n % 10) low (omega arith))) h in
    cond_both (n / 10 == 0) _ _ (λ ds. is_without b ds ≡ true) (λ last. here) (λ more. without-onto b k (n / 10) (digit_glyph false (n % 10) ∷ acc) low here)

pub without-decimal : (b n : ℕ) → b < 48 → is_without b (decimal n) ≡ true
unfolding digits
without-decimal b n low = without-onto b 64 n [] low refl

-- nor in the digits of bytes
pub without-hex : (b : ℕ) (word : List ℕ) → b < 48 → list_all is_low_digit word ≡ true → is_without b word ≡ true
without-hex b [] low h = refl
without-hex b (c ∷ word) low h =
    let parts = and_parts (is_low_digit c) (list_all is_low_digit word) h in
    and_from (not (c == b)) (is_without b word) (not_from_false (c == b) (ne_eqb c b (λ e. absurd (digit-high c b parts.0 e low)))) (without-hex b word low parts.1)
  where
    digit-high : (c b : ℕ) → is_low_digit c ≡ true → c ≡ b → b < 48 → ⊥
    digit-high c b h e low = grind arith

-- nor in a name
pub without-name : (b : ℕ) (name : List ℕ) → b < 48 → list_all is_name_byte name ≡ true → is_without b name ≡ true
without-name b [] low h = refl
without-name b (c ∷ name) low h =
    let parts = and_parts (is_name_byte c) (list_all is_name_byte name) h in
    and_from (not (c == b)) (is_without b name) (not_from_false (c == b) (ne_eqb c b (λ e. absurd (byte-high c b parts.0 e low)))) (without-name b name low parts.1)
  where
    byte-high : (c b : ℕ) → is_name_byte c ≡ true → c ≡ b → b < 48 → ⊥
    byte-high c b h e low = grind arith

-- nor in the name of a state
pub blankless-state : (s : MigState) → is_without 32 (state_name s) ≡ true
blankless-state Error = refl
blankless-state Stop = refl
blankless-state Running = refl
blankless-state StopCopy = refl
blankless-state Resuming = refl
blankless-state RunningP2p = refl
blankless-state PreCopy = refl
blankless-state PreCopyP2p = refl
