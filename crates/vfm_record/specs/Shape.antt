-- The shape text of a stream: what both ends of a move have to agree on before its records mean the same to both.
-- Lines of words with one blank between them, each ended by a line feed; numbers decimal, bytes as lower-case hex digits.
use Rattle.std.specs.Prelude.{ℕ, zero, suc, Bool, true, false, List, [], ◌∷◌, ◌++◌, codes, decimal, length}
use Rattle.std.specs.List.{flat_map}
use Rattle.hex.specs.Hex.{encode_lower}
use Rattle.sha2.specs.Sha256.{sha256}
use Rattle.vfm_types.specs.declared.job.Job.{Job}
use Rattle.vfm_types.specs.declared.job.Job.TheVariants.{Write, Read, Store, Add}
use Rattle.vfm_types.specs.declared.desc.DevShape.{DevShape}
use Rattle.vfm_types.specs.declared.desc.Desc.{Desc}
use Rattle.vfm_types.specs.Desc.{shape_at}

-- a word after another
abbrev pub word : List ℕ → List ℕ
word text = 32 ∷ text

-- a number after a word
abbrev pub number : ℕ → List ℕ
number n = word (decimal n)

-- the end of a line
abbrev pub line_end : List ℕ
line_end = 10 ∷ []

-- the line of memory
unfoldable pub memory_line : Desc → List ℕ
memory_line D = codes "memory" ++ number D.page ++ number D.pages ++ line_end

-- one more number of a word of several, after a plus sign
abbrev pub plus : ℕ → List ℕ
plus n = 43 ∷ decimal n

-- numbers in order as one word, joined by plus signs
abbrev pub sizes_word : List ℕ → List ℕ
sizes_word [] = []
sizes_word (size ∷ sizes) = decimal size ++ flat_map plus sizes

-- the word that says which BARs the device has: their sizes in order
abbrev pub bars_word : DevShape → List ℕ
bars_word shape = sizes_word shape.bars

-- whether the device can tell peer-to-peer DMA from other DMA
abbrev pub tells_number : Bool → ℕ
tells_number true = 1
tells_number false = 0

-- the line of a device
unfoldable pub device_line : DevShape → List ℕ
device_line shape =
    codes "device" ++ word shape.name ++ number shape.flags ++ word (bars_word shape) ++ number shape.window
    ++ number (tells_number shape.tells) ++ number shape.budget ++ number (length shape.jobs) ++ line_end

-- the line of a job
abbrev pub job_line : Job → List ℕ
job_line (Write at bytes) = codes "write" ++ number at ++ word (encode_lower bytes) ++ line_end
job_line (Read at len) = codes "read" ++ number at ++ number len ++ line_end
job_line (Store at len) = codes "store" ++ number at ++ number len ++ line_end
job_line (Add at value) = codes "add" ++ number at ++ number value ++ line_end

-- the lines of a device and its jobs
abbrev pub device_shape_text : DevShape → List ℕ
device_shape_text shape = device_line shape ++ flat_map job_line shape.jobs

-- the shape text of a stream: that of memory, or that of the device
abbrev pub shape_text : Desc → ℕ → List ℕ
shape_text D zero = memory_line D
shape_text D (suc d) = device_shape_text (shape_at D d)

-- its digest: SHA-256 (FIPS 180-4)
unfoldable pub shape_digest : Desc → ℕ → List ℕ
shape_digest D stream = sha256 (shape_text D stream)
