-- Which blocks of BARs a pass reads: blocks that were never read, blocks written since, and the part that each device
-- has in a pass.
use Rattle.std.specs.Prelude.{ℕ, ◌+◌, ◌*◌, ◌==◌, ◌&&◌, ◌||◌, not, Bool, true, false, nat_lt, if◌then◌else◌, List, [], ◌∷◌, Option}
use Rattle.std.specs.Option.{option_or}
use Rattle.std.specs.Prelude.{is_none}
use Rattle.vfm_types.specs.declared.entry.Entry.{Entry}
use Rattle.vfm_types.specs.declared.entry.Entry.TheVariants.{Deliver, Pass, Block, Dry}
use Rattle.vfm_types.specs.declared.job.Job.{Job}
use Rattle.vfm_types.specs.declared.state.MigState.TheVariants.{PreCopy}
use Rattle.vfm_types.specs.declared.desc.Desc.{Desc}
use Rattle.vfm_types.specs.Paths.{same_state}
use Rattle.vfm_types.specs.Desc.{device_count, shape_at, block_count}
use Rattle.vfm_types.specs.Job.{is_writer, place_of, length_of, is_bar_of, is_doorbell}
use Rattle.vfm_types.specs.Requests.{job_of}
use Rattle.vfm_types.specs.Deliveries.{machine_of}
use Rattle.vfm_base.specs.Least.{least_below}
use Rattle.vfm_types.specs.Phases.{is_joint}
use Rattle.vfm_types.specs.Arcs.{state_of}
use Rattle.vfm_types.specs.Marks.{next_copy}

-- the job writes a byte of block b of device d's BARs; a doorbell writes none
abbrev pub writes_block : Desc → ℕ → ℕ → Job → Bool
writes_block D d b job =
    let place = place_of D job in
    is_writer job && is_bar_of d place.region && not (is_doorbell D job)
    && nat_lt place.offset (64 * (b + 1)) && nat_lt (64 * b) (place.offset + length_of job)

-- block b of device d was never read
abbrev pub is_unread : ℕ → ℕ → List Entry → Bool
is_unread d b [] = true
is_unread d b (Block e c ∷ past) = not (e == d && c == b) && is_unread d b past
is_unread d b (entry ∷ past) = is_unread d b past

-- block b of device d was read, and a delivery wrote a byte of it since
abbrev pub is_dirty : Desc → ℕ → ℕ → List Entry → Bool
is_dirty D d b [] = false
is_dirty D d b (Deliver e n ∷ past) =
    (not (is_unread d b past) && writes_block D d b (job_of D (machine_of D past) e n)) || is_dirty D d b past
is_dirty D d b (Block e c ∷ past) = not (e == d && c == b) && is_dirty D d b past
is_dirty D d b (entry ∷ past) = is_dirty D d b past

-- the block of device d to be read next: its least unread one, or where there is none its least dirty one
abbrev pub next_block : Desc → ℕ → List Entry → Option ℕ
next_block D d past =
    let count = block_count (shape_at D d) in
    option_or (least_below count (λ b. is_unread d b past)) (least_below count (λ b. is_dirty D d b past))

-- device d takes part in the newest pass: it was in PRE_COPY when that began, or every device stood in STOP_COPY
abbrev pub takes_part : ℕ → List Entry → Bool
takes_part d [] = false
takes_part d (Pass k ∷ past) = is_joint past || same_state (state_of d past) PreCopy
takes_part d (entry ∷ past) = takes_part d past

-- how many blocks of device d were read in the newest pass
abbrev pub blocks_read : ℕ → List Entry → ℕ
blocks_read d [] = 0
blocks_read d (Block e b ∷ past) = blocks_read d past + (if e == d then 1 else 0)
blocks_read d (Pass k ∷ past) = 0
blocks_read d (entry ∷ past) = blocks_read d past

-- device d had nothing to read in the newest pass
abbrev pub was_dry : ℕ → List Entry → Bool
was_dry d [] = false
was_dry d (Dry e ∷ past) = e == d || was_dry d past
was_dry d (Pass k ∷ past) = false
was_dry d (entry ∷ past) = was_dry d past

-- the part of device d in the newest pass is yet to end: by running dry, or by as many reads as the BARs have blocks
abbrev pub has_part : Desc → ℕ → List Entry → Bool
has_part D d past =
    takes_part d past && not (was_dry d past) && nat_lt (blocks_read d past) (block_count (shape_at D d))

-- the least device whose part in the newest pass hasn't ended
abbrev pub next_part : Desc → List Entry → Option ℕ
next_part D past = least_below (device_count D) (λ d. has_part D d past)

-- the newest pass has ended: each page of its set is copied, and each part has ended; so it is before the first pass
abbrev pub is_no_pass_open : Desc → List Entry → Bool
is_no_pass_open D past = is_none (next_copy D past) && is_none (next_part D past)
