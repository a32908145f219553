-- The plain machine of a list of entries: only deliveries change it. And what of it is copied: pages, blocks, and all of
-- it where every device stands still.
use Rattle.std.specs.Prelude.{ℕ, ◌*◌, List, [], ◌∷◌, take, drop}
use Rattle.vfm_types.specs.declared.entry.Entry.{Entry}
use Rattle.vfm_types.specs.declared.entry.Entry.TheVariants.{Deliver, Joint}
use Rattle.vfm_types.specs.declared.desc.Desc.{Desc}
use Rattle.vfm_types.specs.declared.job.Region.TheVariants.{Page, Bar}
use Rattle.vfm_types.specs.Machine.{Machine, described, bytes_in}
use Rattle.vfm_types.specs.Requests.{do_request}

-- the machine after what was delivered, newest first
abbrev pub machine_of : Desc → List Entry → Machine
machine_of D [] = described D
machine_of D (Deliver d n ∷ past) = do_request D (machine_of D past) d n
machine_of D (entry ∷ past) = machine_of D past

-- the requests that a list delivers, device and number, in the list's order
abbrev pub delivers : List Entry → List (ℕ × ℕ)
delivers [] = []
delivers (Deliver d n ∷ entries) = (d, n) ∷ delivers entries
delivers (entry ∷ entries) = delivers entries

-- the bytes of page p of a machine
abbrev pub page_bytes : Machine → ℕ → List ℕ
page_bytes m p = bytes_in m (Page p)

-- the 64 bytes of block b of device d's BARs
abbrev pub block_bytes : Machine → ℕ → ℕ → List ℕ
block_bytes m d b = take 64 (drop (64 * b) (bytes_in m (Bar d)))

-- the machine at the joint stop: that of what stood before the newest Joint; of a list without one, that of its beginning
abbrev pub joint_machine : Desc → List Entry → Machine
joint_machine D [] = described D
joint_machine D (Joint ∷ past) = machine_of D past
joint_machine D (entry ∷ past) = joint_machine D past

-- of a journal, oldest entry first, what stands before its first Joint
abbrev pub before_joint : List Entry → List Entry
before_joint [] = []
before_joint (Joint ∷ entries) = []
before_joint (entry ∷ entries) = entry ∷ before_joint entries
