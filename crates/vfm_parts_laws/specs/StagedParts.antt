-- The parts of a core that is staged at the destination, and what they have in common with those of the list that stands
-- before its journal: all that is still asked.
use Rattle.std.specs.Prelude.{◌≡◌, ℕ, ◌<◌, ◌||◌, Bool, true, false, List, []}
use Rattle.vfm_types.specs.declared.desc.Desc.{Desc}
use Rattle.vfm_types.specs.declared.desc.DevShape.{DevShape}
use Rattle.vfm_types.specs.declared.state.MigState.TheVariants.{StopCopy}
use Rattle.vfm_types.specs.declared.entry.Entry.{Entry}
use Rattle.vfm_types.specs.declared.entry.Entry.TheVariants.{Pass}
use Rattle.vfm_types.specs.Desc.{device_count, shape_at}
use Rattle.vfm_types.specs.Machine.{DeviceState, Machine, device_of}
use Rattle.vfm_types.specs.Deliveries.{page_bytes}
use Rattle.vfm_parts.specs.Parts.{Dev, Lead, World, Parts, parts_in, listed}
use Rattle.vfm_parts.specs.PartsOf.{world_of}
use Rattle.vfm_parts.specs.PartWords.{is_no_pass_open_in}
use Rattle.vfm_parts.specs.Start.{first_dev, first_lead}

-- a loaded device: it stands in STOP_COPY, its log is started, and nothing is counted or marked
abbrev pub staged_dev : DevShape → DeviceState → Dev
staged_dev shape plain = record (first_dev shape) { plain = plain; state = StopCopy; logging = true }

-- the coordinator at the destination: every device was found in STOP_COPY, and the last pass has begun and ended; it
-- counted no pass
abbrev pub staged_lead : Desc → Lead
staged_lead D = record (first_lead D) { begun = true; joint = true; last = true }

-- the world of a loaded machine
abbrev pub staged_world : Desc → Machine → World
staged_world D m =
    record {
      lead = staged_lead D;
      devs = listed (device_count D) (λ d. staged_dev (shape_at D d) (device_of m d));
      pages = listed D.pages (page_bytes m);
    }

-- the last pass of the move has begun and ended, and each device may issue as far as the time goes
pub record IsSealed (D : Desc) (parts : Parts) : Type 0 where
  pub begun : parts.lead.begun ≡ true
  pub joint : parts.lead.joint ≡ true
  pub last : parts.lead.last ≡ true
  pub closed : is_no_pass_open_in D parts.lead ≡ true
  pub free : (d : ℕ) → d < device_count D → ((parts.dev d).logging || (parts.dev d).released) ≡ true

-- of a device's part, what is still asked once the last pass has ended: not what it counted, marked or read
abbrev pub still_asked : Dev → Dev
still_asked dev = record dev { issues = 0; completes = 0; arcs = 0; marks = []; unread = []; dirty = [] }

-- parts agree in what is still asked
pub record AgreesInRest (p q : Parts) : Type 0 where
  pub aborted : p.lead.aborted ≡ q.lead.aborted
  pub resumed : p.lead.resumed ≡ q.lead.resumed
  pub failed : p.lead.failed ≡ q.lead.failed
  pub dev : (d : ℕ) → still_asked (p.dev d) ≡ still_asked (q.dev d)
  pub page : (i : ℕ) → p.page i ≡ q.page i

-- a staged world, where the list before its journal and the journal are together this list
pub record IsStagedAfter (D : Desc) (past : List Entry) (w : World) : Type 0 where
  pub own : IsSealed D (parts_in w)
  pub listed : IsSealed D (parts_in (world_of D past))
  pub agrees : AgreesInRest (parts_in w) (parts_in (world_of D past))

-- the entry begins a pass
abbrev pub is_pass : Entry → Bool
is_pass (Pass k) = true
is_pass entry = false
