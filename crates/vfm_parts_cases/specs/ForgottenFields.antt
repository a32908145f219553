-- Worlds in which something that a part remembers was forgotten.
use Rattle.std.specs.Prelude.{false, List, [], map, reverse, take}
use Rattle.vfm_types.specs.declared.desc.Desc.{Desc}
use Rattle.vfm_types.specs.declared.entry.Entry.{Entry}
use Rattle.vfm_types.specs.declared.entry.Entry.TheVariants.{Pass, Report}
use Rattle.vfm_parts.specs.Parts.{Dev, Lead, World}
use Rattle.vfm_parts.specs.PartsOf.{world_of}
use Rattle.vfm_parts.specs.Steps.{after_on}
use Rattle.vfm_cases.specs.Rounds.{rounds_two, rounds_second}
use Rattle.vfm_cases.specs.Reading.{reading, reading_again}

-- the parts after a journal, oldest entry first
abbrev pub parts_after_journal : Desc → List Entry → World
parts_after_journal D journal = world_of D (reverse journal)

-- the coordinator's part changed
abbrev pub with_lead : (Lead → Lead) → World → World
with_lead change w = record w { lead = change w.lead }

-- each device's part changed
abbrev pub with_devs : (Dev → Dev) → World → World
with_devs change w = record w { devs = map change w.devs }

-- no log is started
abbrev pub without_logging : World → World
without_logging w = with_devs (λ dev. record dev { logging = false }) w

-- no device was released
abbrev pub without_released : World → World
without_released w = with_devs (λ dev. record dev { released = false }) w

-- nothing is marked in the logs
abbrev pub without_marks : World → World
without_marks w = with_devs (λ dev. record dev { marks = [] }) w

-- no block is unread
abbrev pub without_unread : World → World
without_unread w = with_devs (λ dev. record dev { unread = [] }) w

-- no block is dirty
abbrev pub without_dirty : World → World
without_dirty w = with_devs (λ dev. record dev { dirty = [] }) w

-- nothing was gathered
abbrev pub without_gathered : World → World
without_gathered w = with_lead (λ lead. record lead { gathered = [] }) w

-- no device has reported
abbrev pub without_reported : World → World
without_reported w = with_lead (λ lead. record lead { reported = map (λ b. false) lead.reported }) w

-- no device has blocks left to read
abbrev pub without_parts : World → World
without_parts w = with_lead (λ lead. record lead { parts = map (λ n. 0) lead.parts }) w

-- no page is left to be copied
abbrev pub without_left : World → World
without_left w = with_lead (λ lead. record lead { left = [] }) w

-- the pages that were copied are kept among those left
abbrev pub with_copied : World → World
with_copied w = with_lead (λ lead. record lead { left = lead.set }) w

-- the blocks that were read are kept among those left: one a device
abbrev pub with_read : World → World
with_read w = with_lead (λ lead. record lead { parts = map (λ n. 1) lead.parts }) w

-- the machine in two passes: once the first has begun, once its page is copied, once the write is completed, once the
-- block is read, and once the device has reported
abbrev pub pass_begun : World
pass_begun = parts_after_journal rounds_two (take 5 rounds_second)

abbrev pub page_copied : World
page_copied = parts_after_journal rounds_two (take 6 rounds_second)

abbrev pub block_read : World
block_read = parts_after_journal rounds_two (take 8 rounds_second)

abbrev pub log_reported : World
log_reported = parts_after_journal rounds_two (take 9 rounds_second)

-- from a world after the report on: the second pass begun
abbrev pub second_begun : World → World
second_begun w = after_on rounds_two w (Pass 2)

-- from a world before the report on: the device has reported, and the second pass has begun
abbrev pub reported_and_begun : World → World
reported_and_begun w = second_begun (after_on rounds_two w (Report 0))

-- the machine whose blocks are read again, before the last entry of its journal
abbrev pub before_block : World
before_block = parts_after_journal reading (take 14 reading_again)
