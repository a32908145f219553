-- Reading: the tests of some bytes in their order, each with the place that is answered where it fails.
use Rattle.std.specs.Prelude.{◌≡◌, ℕ, ◌+◌, ◌*◌, ◌==◌, ◌&&◌, ◌||◌, not, Bool, if◌then◌else◌, nat_lt, nat_le, Option, Some, None, Result, List, [], ◌∷◌, length, drop, slice_index, MatchResult}
use Rattle.std.specs.Int.{w16, w32, w64}
use Rattle.vfm_types.specs.declared.desc.DevShape.{DevShape}
use Rattle.vfm_types.specs.declared.desc.Desc.{Desc}
use Rattle.vfm_types.specs.Desc.{block_count}
use Rattle.vfm_record.specs.declared.record.Rec.{Rec}
use Rattle.vfm_record.specs.declared.record.RecordFault.{RecordFault}
use Rattle.vfm_record.specs.declared.tag.Tag.{Tag}
use Rattle.vfm_record.specs.declared.tag.Tag.TheVariants as tags
use Rattle.vfm_base.specs.Words.{word_at}
use Rattle.vfm_base.specs.Tests.{first_failed}
use Rattle.vfm_record.specs.Record.{Record, Page, Block, Engine, Pending, Config, pairs_of, most_lost, shape_of_stream, record_of, IsWhole}

-- the tag with a number, if it is one of this stream
abbrev pub tag_of : ℕ → ℕ → Option Tag
tag_of stream number =
    if number == 5 then Some tags.Config else
    (if stream == 0 then (if number == 1 then Some tags.Page else None) else
    (if number == 2 then Some tags.Block else
    (if number == 3 then Some tags.Engine else
    (if number == 4 then Some tags.Pending else None))))

-- the tag at the start of the bytes; no bytes have none
abbrev pub tag_at : ℕ → List ℕ → Option Tag
tag_at stream bytes = tag_of stream (slice_index bytes 0)

-- the number of the page or block
abbrev pub number_of : List ℕ → ℕ
number_of bytes = word_at w32 1 bytes

-- the counts of an engine
abbrev pub accepted_of : List ℕ → ℕ
accepted_of bytes = word_at w32 1 bytes

abbrev pub done_of : List ℕ → ℕ
done_of bytes = word_at w32 5 bytes

abbrev pub lost_of : List ℕ → ℕ
lost_of bytes = word_at w32 9 bytes

abbrev pub pend_of : List ℕ → ℕ
pend_of bytes = word_at w32 13 bytes

-- how many pairs are announced
abbrev pub count_of : List ℕ → ℕ
count_of bytes = word_at w16 1 bytes

-- block 0 begins with eight zeros
abbrev pub keeps_bell : List ℕ → Bool
keeps_bell bytes = not (number_of bytes == 0) || word_at w64 5 bytes == 0

-- a test, and the place that is answered where it fails
abbrev pub Test : Type 0
Test = Bool × ℕ

-- the tests of a page: its length, then its number
unfoldable pub page_tests : Desc → List ℕ → List Test
page_tests D bytes = (length bytes == 5 + D.page, length bytes) ∷ (nat_lt (number_of bytes) D.pages, 1) ∷ []

-- the tests of a block of this device: its length, its number, the doorbell
unfoldable pub block_tests : DevShape → List ℕ → List Test
block_tests shape bytes =
    (length bytes == 69, length bytes) ∷ (nat_lt (number_of bytes) (block_count shape), 1) ∷ (keeps_bell bytes, 5) ∷ []

-- the tests of an engine of this device: its length, what it accepted, the sum, what it lost
unfoldable pub engine_tests : DevShape → List ℕ → List Test
engine_tests shape bytes =
    (length bytes == 81, length bytes)
    ∷ (nat_le (accepted_of bytes) shape.budget, 1)
    ∷ (done_of bytes + pend_of bytes == accepted_of bytes, 5)
    ∷ (nat_le (lost_of bytes) most_lost, 9)
    ∷ []

-- the tests of pending requests: that there is a count, the count, the length
unfoldable pub pending_tests : List ℕ → List Test
pending_tests bytes =
    (nat_le 3 (length bytes), length bytes)
    ∷ (nat_le 1 (count_of bytes) && nat_le (count_of bytes) 4096, 1)
    ∷ (length bytes == 3 + 8 * count_of bytes, length bytes)
    ∷ []

-- the test of a digest: its length
unfoldable pub config_tests : List ℕ → List Test
config_tests bytes = (length bytes == 33, length bytes) ∷ []

-- the tests after the tag, in their order
abbrev pub tests_of : Desc → ℕ → Tag → List ℕ → List Test
tests_of D stream tags.Page bytes = page_tests D bytes
tests_of D stream tags.Block bytes = block_tests (shape_of_stream D stream) bytes
tests_of D stream tags.Engine bytes = engine_tests (shape_of_stream D stream) bytes
tests_of D stream tags.Pending bytes = pending_tests bytes
tests_of D stream tags.Config bytes = config_tests bytes

-- the tests after the tag, if there is one
abbrev pub fault_after : Desc → ℕ → Option Tag → List ℕ → Option ℕ
fault_after D stream None bytes = Some 0
fault_after D stream (Some tag) bytes = first_failed (tests_of D stream tag bytes)

-- the place of the first test that fails: that of the tag, place 0, then those after it
unfoldable pub record_fault : Desc → ℕ → List ℕ → Option ℕ
record_fault D stream bytes = fault_after D stream (tag_at stream bytes) bytes

-- what bytes with this tag say
abbrev pub record_with : Tag → List ℕ → Record
record_with tags.Page bytes = Page (number_of bytes) (drop 5 bytes)
record_with tags.Block bytes = Block (number_of bytes) (drop 5 bytes)
record_with tags.Engine bytes = Engine (accepted_of bytes) (done_of bytes) (lost_of bytes) (pend_of bytes) (drop 17 bytes)
record_with tags.Pending bytes = Pending (pairs_of (count_of bytes) (drop 3 bytes))
record_with tags.Config bytes = Config (drop 1 bytes)

-- what bytes say that pass the tests; what fails the first one says nothing
abbrev pub record_after : Option Tag → List ℕ → Record
record_after None bytes = Config []
record_after (Some tag) bytes = record_with tag bytes

abbrev pub record_at : ℕ → List ℕ → Record
record_at stream bytes = record_after (tag_at stream bytes) bytes

-- the answer is the place of the first test that fails, or, where none does, this record
abbrev pub AgreesWith : Result Rec RecordFault → Option ℕ → Record → Type 0
AgreesWith answer fault record_is =
    MatchResult answer
    (λ r. (fault ≡ None) × (record_of r ≡ record_is) × IsWhole r)
    (λ refused. fault ≡ Some refused.place)
