-- The part of a machine that the records of one stream make, and what a machine's part has to be.
use Rattle.std.specs.Prelude.{◌≡◌, ℕ, zero, suc, ◌<◌, ◌≤◌, List, [], length, map, slice_index_or, unwrap_or}
use Rattle.std.specs.List.{range_with_len}
use Rattle.vfm_types.specs.declared.desc.DevShape.{DevShape}
use Rattle.vfm_types.specs.declared.desc.Desc.{Desc}
use Rattle.vfm_types.specs.Desc.{shape_at}
use Rattle.vfm_types.specs.Machine.{DeviceState}
use Rattle.vfm_plain.specs.declared.part.Part.{Part}
use Rattle.vfm_plain.specs.declared.part.Part.TheVariants.{Pages, Device}
use Rattle.vfm_plain.specs.Shape.{DeviceHasShape, DeviceHasCounts}
use Rattle.vfm_laws.specs.Queues.{IsRising}
use Rattle.vfm_record.specs.Record.{Record, most_lost}
use Rattle.vfm_streams.specs.Loaded.{last_page, loaded_device}

-- a device as a part
abbrev pub part_of : DeviceState → Part
part_of dev = Device dev.bar dev.buf (dev.accepted, dev.done, dev.lost) dev.pending

-- the pages that the records of memory's stream make, newest first
abbrev pub loaded_pages : Desc → List Record → List (List ℕ)
loaded_pages D records = map (λ p. unwrap_or (last_page p records) []) (range_with_len 0 D.pages)

-- the part that the records of a stream make, newest first: stream 0 is memory, stream d + 1 is device d
abbrev pub loaded_part : Desc → ℕ → List Record → Part
loaded_part D zero records = Pages (loaded_pages D records)
loaded_part D (suc d) records = part_of (loaded_device D d records)

-- pages of the sizes of the description
pub record ArePagesOf (D : Desc) (pages : List (List ℕ)) : Type 0 where
  pub count : length pages ≡ D.pages
  pub size : (p : ℕ) → p < D.pages → length (slice_index_or pages p []) ≡ D.page

-- A device of this shape: of its sizes; accepted is done plus pending and within the budget; few were lost; pending
-- numbers rise below what was accepted, and each is of a job that is there.
pub record IsDeviceOf (shape : DevShape) (dev : DeviceState) : Type 0 where
  pub shape_is : DeviceHasShape shape dev
  pub counts : DeviceHasCounts shape dev
  pub lost : dev.lost ≤ most_lost
  pub rising : IsRising 0 dev.pending dev.accepted

-- the part is what a machine of this description can have at a stream's place
abbrev pub IsPartOf : Desc → ℕ → Part → Type 0
IsPartOf D zero (Pages sheets) = ArePagesOf D sheets
IsPartOf D zero (Device bar buf counts pending) = ⊥
IsPartOf D (suc d) (Pages sheets) = ⊥
IsPartOf D (suc d) (Device bar buf counts pending) =
    IsDeviceOf (shape_at D d)
    (record { bar = bar; pending = pending; buf = buf; accepted = counts.0; done = counts.1; lost = counts.2 })
