-- Whether what was copied and read last is the machine at the joint stop, as a test.
use Rattle.std.specs.Prelude.{ℕ, ◌&&◌, Bool, false, nat_eq, List, reverse, Option, Some, None}
use Rattle.std.specs.Cmp.Lexicographic.{pointwise}
use Rattle.vfm_types.specs.declared.entry.Entry.{Entry}
use Rattle.vfm_types.specs.declared.desc.Desc.{Desc}
use Rattle.vfm_types.specs.Desc.{device_count, shape_at, block_count}
use Rattle.vfm_types.specs.Deliveries.{page_bytes, block_bytes, joint_machine}
use Rattle.vfm_base.specs.Least.{all_below}
use Rattle.vfm_copying.specs.Copies.{last_copy, last_reading}

-- bytes were taken, and are these
abbrev pub are_taken : Option (List ℕ) → List ℕ → Bool
are_taken None bytes = false
are_taken (Some taken) bytes = pointwise nat_eq taken bytes

-- page p was copied last as it stands at the joint stop
abbrev pub is_page_sent : Desc → ℕ → List Entry → Bool
is_page_sent D p past = are_taken (last_copy D p past) (page_bytes (joint_machine D past) p)

-- block b of device d was read last as it stands at the joint stop
abbrev pub is_block_sent : Desc → ℕ → ℕ → List Entry → Bool
is_block_sent D d b past = are_taken (last_reading D d b past) (block_bytes (joint_machine D past) d b)

-- every page and every block was
abbrev pub is_all_sent : Desc → List Entry → Bool
is_all_sent D past =
    all_below D.pages (λ p. is_page_sent D p past)
    && all_below (device_count D)
    (λ d. all_below (block_count (shape_at D d)) (λ b. is_block_sent D d b past))

-- the same of a journal, oldest entry first
abbrev pub is_sent_run : Desc → List Entry → Bool
is_sent_run D journal = is_all_sent D (reverse journal)
