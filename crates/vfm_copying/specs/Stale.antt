-- Which pages and blocks may have other bytes now than when they were copied or read last, as far as sets,
-- logs and marks tell.
use Rattle.std.specs.Prelude.{ℕ, ◌&&◌, ◌||◌, not, Bool, List}
use Rattle.std.specs.List.{list_any}
use Rattle.vfm_types.specs.declared.entry.Entry.{Entry}
use Rattle.vfm_types.specs.declared.desc.Desc.{Desc}
use Rattle.vfm_types.specs.Desc.{device_count, job_at}
use Rattle.vfm_base.specs.Least.{any_below}
use Rattle.vfm_types.specs.Outstanding.{Outstanding, outstanding_of}
use Rattle.vfm_types.specs.Marks.{writes_page, is_marked, was_reported, has_reported, is_in_set, is_copied}
use Rattle.vfm_types.specs.Blocks.{is_unread, is_dirty}

-- page p is in the set of the newest pass and not copied yet
abbrev pub is_left_to_copy : Desc → ℕ → List Entry → Bool
is_left_to_copy D p past = is_in_set D p past && not (is_copied p past)

-- page p is gathered from device d for the next pass: the report that d made since the newest one began
-- gave it
abbrev pub is_gathered : Desc → ℕ → ℕ → List Entry → Bool
is_gathered D d p past = has_reported d past && was_reported D d p past

-- one of these requests is delivered, and its job passes the test
abbrev pub has_delivered : (ℕ → Bool) → List Outstanding → Bool
has_delivered test requests = list_any (λ r. r.is_delivered && test r.job) requests

-- job j of device d writes page p
abbrev pub job_writes_page : Desc → ℕ → ℕ → ℕ → Bool
job_writes_page D d p j = writes_page D p (job_at D d j)

-- a request of device d that is delivered and not complete wrote page p
abbrev pub is_written_unseen : Desc → ℕ → ℕ → List Entry → Bool
is_written_unseen D d p past = has_delivered (job_writes_page D d p) (outstanding_of D d past)

-- a write of device d into page p is known of, or still to be: marked in its log, gathered, or not complete
abbrev pub is_write_known : Desc → ℕ → ℕ → List Entry → Bool
is_write_known D p d past = is_marked D d p past || is_gathered D d p past || is_written_unseen D d p past

-- page p may have changed since its last copy
abbrev pub is_page_stale : Desc → ℕ → List Entry → Bool
is_page_stale D p past =
    is_left_to_copy D p past || any_below (device_count D) (λ d. is_write_known D p d past)

-- block b of device d may have changed since its last reading: it was never read, or was written since
abbrev pub is_block_stale : Desc → ℕ → ℕ → List Entry → Bool
is_block_stale D d b past = is_unread d b past || is_dirty D d b past
