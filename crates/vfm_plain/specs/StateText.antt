-- A machine as text, and its digest: one machine has one text.
use Rattle.std.specs.Prelude.{ℕ, ◌+◌, List, [], ◌∷◌, ◌++◌, take, drop, codes, decimal}
use Rattle.std.specs.List.{flat_map}
use Rattle.hex.specs.Hex.{encode_lower}
use Rattle.sha2.specs.Sha256.{sha256}
use Rattle.vfm_types.specs.declared.desc.DevShape.{DevShape}
use Rattle.vfm_types.specs.declared.desc.Desc.{Desc}
use Rattle.vfm_types.specs.Desc.{shape_at}
use Rattle.vfm_types.specs.Machine.{DeviceState, Machine}
use Rattle.vfm_plain.specs.Text.{line, numbered_text}

-- the line of page p
abbrev pub page_line : ℕ → List ℕ → List ℕ
page_line p bytes = line (codes "page") (decimal p ∷ encode_lower bytes ∷ [])

-- the lines of these pages, numbered from p on
abbrev pub pages_text : ℕ → List (List ℕ) → List ℕ
pages_text p pages = numbered_text page_line p pages

-- the line of a pending request of device d
abbrev pub pending_line : ℕ → ℕ × ℕ → List ℕ
pending_line d request = line (codes "pend") (decimal d ∷ decimal request.0 ∷ decimal request.1 ∷ [])

-- the line of device d with its name and its counts
abbrev pub counts_line : ℕ → List ℕ → DeviceState → List ℕ
counts_line d name device =
    line (codes "device") (decimal d ∷ name ∷ codes "accepted" ∷ decimal device.accepted ∷ codes "done"
    ∷ decimal device.done ∷ codes "lost" ∷ decimal device.lost ∷ [])

-- the line of its buffer
abbrev pub buf_line : ℕ → DeviceState → List ℕ
buf_line d device = line (codes "buf") (decimal d ∷ encode_lower device.buf ∷ [])

-- the line of the only BAR of device d
abbrev pub bar_line : ℕ → List ℕ → List ℕ
bar_line d bytes = line (codes "bar") (decimal d ∷ encode_lower bytes ∷ [])

-- the line of BAR k of device d, where it has several
abbrev pub numbered_bar_line : ℕ → ℕ → List ℕ → List ℕ
numbered_bar_line d k bytes = line (codes "bar") (decimal d ∷ decimal k ∷ encode_lower bytes ∷ [])

-- bytes that lie one after the other, cut into pieces of these sizes
abbrev pub pieces : List ℕ → List ℕ → List (List ℕ)
pieces [] bytes = []
pieces (size ∷ sizes) bytes = take size bytes ∷ pieces sizes (drop size bytes)

-- the lines of the BARs of device d, which have these sizes: one BAR has no number, several are numbered from 0
abbrev pub bars_text : ℕ → List ℕ → List ℕ → List ℕ
bars_text d (size ∷ []) bytes = bar_line d bytes
bars_text d sizes bytes = numbered_text (numbered_bar_line d) 0 (pieces sizes bytes)

-- the lines of device d, which has this shape
abbrev pub device_state_text : ℕ → DevShape → DeviceState → List ℕ
device_state_text d shape device =
    counts_line d shape.name device ++ buf_line d device ++ bars_text d shape.bars device.bar
    ++ flat_map (pending_line d) device.pending

-- the lines of device d of the description
abbrev pub described_text : Desc → ℕ → DeviceState → List ℕ
described_text D d device = device_state_text d (shape_at D d) device

-- the lines of these devices, numbered from d on
abbrev pub devices_text : Desc → ℕ → List DeviceState → List ℕ
devices_text D d devices = numbered_text (described_text D) d devices

-- the text of a machine: its pages, then its devices
abbrev pub state_text : Desc → Machine → List ℕ
state_text D m = pages_text 0 m.pages ++ devices_text D 0 m.devices

-- the digest of a machine: SHA-256 (FIPS 180-4) of its text
abbrev pub state_digest : Desc → Machine → List ℕ
state_digest D m = sha256 (state_text D m)
