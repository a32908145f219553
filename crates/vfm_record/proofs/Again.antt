-- What is encoded is read again.
use Rattle.std.proofs.Common.{◌≡◌, ℕ, ◌+◌, ◌^◌, ◌<◌, ◌≤◌, ◌≢◌, Bool, true, false, List, [], ◌∷◌, length, get_or, take, Option, Some, None, refl, sym, ap, ◌∙◌, inl, inr, subst, arith}
use Rattle.std.specs.Prelude.{◌==◌, ◌||◌, not, if◌then◌else◌}
use Rattle.std.specs.List.{flat_map, AllByRecursion}
use Rattle.std.specs.Int.{w16, w32, w64, from_be_bytes}
use Rattle.std.proofs.lemmas.Bool.{cases_eq, ne_eqb, eq-eqb, and_from, lt-ltb, le-leb}
use Rattle.std.proofs.lemmas.Nat.{from_be_bytes-to_be_bytes_2, from_be_bytes-to_be_bytes_4}
use Rattle.vfm_types.specs.declared.desc.Desc.{Desc}
use Rattle.vfm_types.specs.declared.desc.DevShape.{DevShape}
use Rattle.vfm_types.specs.Desc.{block_count}
use Rattle.vfm_record.specs.declared.tag.Tag.{Tag}
use Rattle.vfm_record.specs.declared.tag.Tag.TheVariants as tags
use Rattle.vfm_base.specs.Words.{word_at}
use Rattle.vfm_record.specs.Record.{Record, Page, Block, Engine, Pending, Config, pair_bytes, record_bytes, record_size, Fits, bell_bytes, KeepsBell, most_lost, shape_of_stream, IsRecordOf, pairs_of}
use Rattle.vfm_record.specs.Tests.{Test, tag_of, tag_at, keeps_bell, page_tests, block_tests, engine_tests, pending_tests, config_tests, fault_after, record_fault, record_with, record_after, record_at}
use Rattle.vfm_base.specs.Tests.{first_failed}
use Rattle.vfm_record.proofs.Pairs.{pairs_again, pairs_len}
use Rattle.vfm_record.proofs.Found.{Held}

first_failed-held : (tests : List Test) → AllByRecursion Held tests → first_failed tests ≡ None
first_failed-held [] held = refl
first_failed-held (test ∷ tests) held = rw held.0 (first_failed-held tests held.1)

-- ---- numbers at their places

pub page_number : (p : ℕ) (bytes : List ℕ) → p < 2 ^ 32 → word_at w32 1 (record_bytes (Page p bytes)) ≡ p
unfolding word_at
page_number p bytes lt = from_be_bytes-to_be_bytes_4 p lt

pub block_number : (b : ℕ) (bytes : List ℕ) → b < 2 ^ 32 → word_at w32 1 (record_bytes (Block b bytes)) ≡ b
unfolding word_at
block_number b bytes lt = from_be_bytes-to_be_bytes_4 b lt

accepted_number : (a d l p : ℕ) (buf : List ℕ) → a < 2 ^ 32 → word_at w32 1 (record_bytes (Engine a d l p buf)) ≡ a
unfolding word_at
accepted_number a d l p buf lt = from_be_bytes-to_be_bytes_4 a lt

done_number : (a d l p : ℕ) (buf : List ℕ) → d < 2 ^ 32 → word_at w32 5 (record_bytes (Engine a d l p buf)) ≡ d
unfolding word_at
done_number a d l p buf lt = from_be_bytes-to_be_bytes_4 d lt

lost_number : (a d l p : ℕ) (buf : List ℕ) → l < 2 ^ 32 → word_at w32 9 (record_bytes (Engine a d l p buf)) ≡ l
unfolding word_at
lost_number a d l p buf lt = from_be_bytes-to_be_bytes_4 l lt

pend_number : (a d l p : ℕ) (buf : List ℕ) → p < 2 ^ 32 → word_at w32 13 (record_bytes (Engine a d l p buf)) ≡ p
unfolding word_at
pend_number a d l p buf lt = from_be_bytes-to_be_bytes_4 p lt

count_number : (pairs : List (ℕ × ℕ)) → length pairs < 2 ^ 16 → word_at w16 1 (record_bytes (Pending pairs)) ≡ length pairs
unfolding word_at
count_number pairs lt = from_be_bytes-to_be_bytes_2 (length pairs) lt

-- ---- what is said by an encoding

pub page_again : (p : ℕ) (bytes : List ℕ) → p < 2 ^ 32 → record_with tags.Page (record_bytes (Page p bytes)) ≡ Page p bytes
page_again p bytes lt = ap (λ (n : ℕ). Page n bytes) (page_number p bytes lt)

pub block_again : (b : ℕ) (bytes : List ℕ) → b < 2 ^ 32 → record_with tags.Block (record_bytes (Block b bytes)) ≡ Block b bytes
block_again b bytes lt = ap (λ (n : ℕ). Block n bytes) (block_number b bytes lt)

pub engine_again : (a d l p : ℕ) (buf : List ℕ) → Fits (Engine a d l p buf)
    → record_with tags.Engine (record_bytes (Engine a d l p buf)) ≡ Engine a d l p buf
engine_again a d l p buf fits =
    ap (λ (n : ℕ). Engine n (word_at w32 5 (record_bytes (Engine a d l p buf))) (word_at w32 9 (record_bytes (Engine a d l p buf))) (word_at w32 13 (record_bytes (Engine a d l p buf))) buf) (accepted_number a d l p buf fits.0)
    ∙ ap (λ (n : ℕ). Engine a n (word_at w32 9 (record_bytes (Engine a d l p buf))) (word_at w32 13 (record_bytes (Engine a d l p buf))) buf) (done_number a d l p buf fits.1)
    ∙ ap (λ (n : ℕ). Engine a d n (word_at w32 13 (record_bytes (Engine a d l p buf))) buf) (lost_number a d l p buf fits.2)
    ∙ ap (λ (n : ℕ). Engine a d l n buf) (pend_number a d l p buf fits.3)

pub pending_again : (pairs : List (ℕ × ℕ)) → Fits (Pending pairs) → record_with tags.Pending (record_bytes (Pending pairs)) ≡ Pending pairs
pending_again pairs fits =
    ap (λ (n : ℕ). Pending (pairs_of n (flat_map pair_bytes pairs))) (count_number pairs fits.0)
    ∙ ap Pending (pairs_again pairs fits.1)

-- ---- the tests of an encoding

page_passes : (D : Desc) (p : ℕ) (bytes : List ℕ) → p < 2 ^ 32 → p < D.pages → length bytes ≡ D.page
    → first_failed (page_tests D (record_bytes (Page p bytes))) ≡ None
unfolding page_tests
page_passes D p bytes lt below len =
    let number = page_number p bytes lt in
    first_failed-held (page_tests D (record_bytes (Page p bytes)))
    (eq-eqb _ _ (omega (arith, len)), (lt-ltb _ _ (omega (arith, number)), tt))

or_left : (x y : Bool) → x ≡ true → (x || y) ≡ true
or_left true y is = refl
or_left false y is = absurd cc

or_right : (x y : Bool) → y ≡ true → (x || y) ≡ true
or_right true y is = refl
or_right false y is = is

-- the eight zeros as a number
bell_word : (b : ℕ) (bytes : List ℕ) → take 8 bytes ≡ bell_bytes → word_at w64 5 (record_bytes (Block b bytes)) ≡ 0
unfolding word_at
bell_word b bytes zeros = ap (from_be_bytes w64) zeros

bell_passes : (b : ℕ) (bytes : List ℕ) → b < 2 ^ 32 → KeepsBell b bytes → keeps_bell (record_bytes (Block b bytes)) ≡ true
bell_passes b bytes lt kept =
    let first = word_at w32 1 (record_bytes (Block b bytes)) == 0 in
    let bell = word_at w64 5 (record_bytes (Block b bytes)) == 0 in
    elim (cases_eq b 0) [
      | inl is ↦ or_right (not (word_at w32 1 (record_bytes (Block b bytes)) == 0)) (word_at w64 5 (record_bytes (Block b bytes)) == 0) (eq-eqb _ _ (bell_word b bytes (kept is)))
      | inr not0 ↦
          or_left (not (word_at w32 1 (record_bytes (Block b bytes)) == 0)) (word_at w64 5 (record_bytes (Block b bytes)) == 0)
          (ap not (ap (λ (n : ℕ). n == 0) (block_number b bytes lt) ∙ ne_eqb b 0 not0))
    ]

block_passes : (shape : DevShape) (b : ℕ) (bytes : List ℕ) → b < 2 ^ 32 → b < block_count shape → length bytes ≡ 64 → KeepsBell b bytes
    → first_failed (block_tests shape (record_bytes (Block b bytes))) ≡ None
unfolding block_tests
block_passes shape b bytes lt below len kept =
    let number = block_number b bytes lt in
    let is_below : word_at w32 1 (record_bytes (Block b bytes)) < block_count shape = rw number below in
    first_failed-held (block_tests shape (record_bytes (Block b bytes)))
    (eq-eqb _ _ (omega (arith, len)), (lt-ltb _ _ is_below, (bell_passes b bytes lt kept, tt)))

engine_passes : (shape : DevShape) (a d l p : ℕ) (buf : List ℕ) → Fits (Engine a d l p buf) → a ≤ shape.budget → d + p ≡ a → l ≤ most_lost
    → length buf ≡ 64 → first_failed (engine_tests shape (record_bytes (Engine a d l p buf))) ≡ None
unfolding engine_tests
engine_passes shape a d l p buf fits budget sum most len =
    let ea = accepted_number a d l p buf fits.0 in
    let ed = done_number a d l p buf fits.1 in
    let el = lost_number a d l p buf fits.2 in
    let ep = pend_number a d l p buf fits.3 in
    let bytes = record_bytes (Engine a d l p buf) in
    first_failed-held (engine_tests shape (record_bytes (Engine a d l p buf))) (
      eq-eqb _ _ (omega (arith, len)),
      (
        le-leb _ _ (omega (arith, ea, budget)),
        (
          eq-eqb (word_at w32 5 (record_bytes (Engine a d l p buf)) + word_at w32 13 (record_bytes (Engine a d l p buf))) (word_at w32 1 (record_bytes (Engine a d l p buf))) (omega (arith, ea, ed, ep, sum)),
          (le-leb (word_at w32 9 (record_bytes (Engine a d l p buf))) most_lost (omega (arith, el, most)), tt),
        ),
      ),
    )

pending_passes : (pairs : List (ℕ × ℕ)) → Fits (Pending pairs) → 1 ≤ length pairs → length pairs ≤ 4096
    → first_failed (pending_tests (record_bytes (Pending pairs))) ≡ None
unfolding pending_tests
pending_passes pairs fits low high =
    let many = count_number pairs fits.0 in
    let len = pairs_len pairs in
    let at_least : 1 ≤ word_at w16 1 (record_bytes (Pending pairs)) = rw many low in
    let at_most : word_at w16 1 (record_bytes (Pending pairs)) ≤ 4096 = rw many high in
    first_failed-held (pending_tests (record_bytes (Pending pairs))) (
      le-leb _ _ (omega arith),
      (
        and_from _ _ (le-leb _ _ at_least) (le-leb _ _ at_most),
        (eq-eqb _ _ (omega (arith, many, len)), tt),
      ),
    )

config_passes : (digest : List ℕ) → length digest ≡ 32 → first_failed (config_tests (record_bytes (Config digest))) ≡ None
unfolding config_tests
config_passes digest len = first_failed-held (config_tests (record_bytes (Config digest))) (eq-eqb _ _ (omega (arith, len)), tt)

-- ---- all together

device_tag : (stream : ℕ) → 0 < stream → (tag_of stream 2 ≡ Some tags.Block) × (tag_of stream 3 ≡ Some tags.Engine) × (tag_of stream 4 ≡ Some tags.Pending)
device_tag stream above =
    let not0 : stream ≢ 0 = omega arith in
    let test = ne_eqb stream 0 not0 in
    (rw test refl, rw test refl, rw test refl)

abbrev IsRead : Desc → ℕ → Record → Option Tag → Type 0
IsRead D stream r o = (fault_after D stream o (record_bytes r) ≡ None) × (record_after o (record_bytes r) ≡ r)

read_with : (D : Desc) (stream : ℕ) (r : Record) (o : Option Tag) → tag_at stream (record_bytes r) ≡ o → IsRead D stream r o
    → (record_fault D stream (record_bytes r) ≡ None) × (record_at stream (record_bytes r) ≡ r)
unfolding record_fault
read_with D stream r o is there = subst (λ (t : Option Tag). IsRead D stream r t) (sym is) there

pub again : (D : Desc) (stream : ℕ) (r : Record) → IsRecordOf D stream r
    → (record_fault D stream (record_bytes r) ≡ None) × (record_at stream (record_bytes r) ≡ r)
again D stream (Page p bytes) is =
    read_with D stream (Page p bytes) (Some tags.Page) (rw is.of.0 refl)
    (page_passes D p bytes is.fits is.of.1 is.of.2, page_again p bytes is.fits)
again D stream (Block b bytes) is =
    read_with D stream (Block b bytes) (Some tags.Block) (device_tag stream is.of.0).0
    (block_passes (shape_of_stream D stream) b bytes is.fits is.of.1 is.of.2 is.of.3, block_again b bytes is.fits)
again D stream (Engine a d l p buf) is =
    read_with D stream (Engine a d l p buf) (Some tags.Engine) (device_tag stream is.of.0).1
    (engine_passes (shape_of_stream D stream) a d l p buf is.fits is.of.1 is.of.2 is.of.3 is.of.4, engine_again a d l p buf is.fits)
again D stream (Pending pairs) is =
    read_with D stream (Pending pairs) (Some tags.Pending) (device_tag stream is.of.0).2
    (pending_passes pairs is.fits is.of.1 is.of.2, pending_again pairs is.fits)
again D stream (Config digest) is =
    read_with D stream (Config digest) (Some tags.Config) refl (config_passes digest is.of, refl)

-- ---- one encoding

-- what an encoding says, whatever the stream
abbrev said : List ℕ → Record
said bytes = record_after (if get_or bytes 0 0 == 1 then Some tags.Page else tag_of 1 (get_or bytes 0 0)) bytes

said_again : (r : Record) → Fits r → said (record_bytes r) ≡ r
said_again (Page p bytes) fits = page_again p bytes fits
said_again (Block b bytes) fits = block_again b bytes fits
said_again (Engine a d l p buf) fits = engine_again a d l p buf fits
said_again (Pending pairs) fits = pending_again pairs fits
said_again (Config digest) fits = refl

pub one_encoding : (r s : Record) → Fits r → Fits s → record_bytes r ≡ record_bytes s → r ≡ s
one_encoding r s fits_r fits_s same = sym (said_again r fits_r) ∙ ap said same ∙ said_again s fits_s

-- ---- sizes

pub encoded_len : (r : Record) → length (record_bytes r) ≡ record_size r
encoded_len (Page p bytes) = omega arith
encoded_len (Block b bytes) = omega arith
encoded_len (Engine a d l p buf) = omega arith
encoded_len (Pending pairs) = omega (arith, pairs_len pairs)
encoded_len (Config digest) = omega arith

pub within_payload : (D : Desc) (stream : ℕ) (r : Record) → IsRecordOf D stream r → D.page ≤ 4096 → (1 ≤ length (record_bytes r)) × (length (record_bytes r) ≤ 65536)
within_payload D stream (Page p bytes) is page = let h = is.of.2 in (omega arith, omega arith)
within_payload D stream (Block b bytes) is page = let h = is.of.2 in (omega arith, omega arith)
within_payload D stream (Engine a d l p buf) is page = let h = is.of.4 in (omega arith, omega arith)
within_payload D stream (Pending pairs) is page =
    let h = is.of.2 in
    let len = pairs_len pairs in
    (omega arith, omega arith)
within_payload D stream (Config digest) is page = let h = is.of in (omega arith, omega arith)
