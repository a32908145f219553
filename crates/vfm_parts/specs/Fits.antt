-- What each part satisfies by itself, so that a step on it is safe: its sizes, counts within budgets, jobs that exist.
use Rattle.std.specs.Prelude.{◌≡◌, ℕ, ◌+◌, ◌<◌, ◌≤◌, false, All, List, length}
use Rattle.vfm_types.specs.declared.desc.Desc.{Desc}
use Rattle.vfm_base.specs.PageSet.{contains_page}
use Rattle.vfm_types.specs.Desc.{device_count, shape_at, block_count}
use Rattle.vfm_plain.specs.Shape.{DeviceHasShape}
use Rattle.vfm_laws.specs.Queues.{QueueKept, waiting}
use Rattle.vfm_parts.specs.Parts.{Dev, Lead, Parts, numbers_below}
use Rattle.vfm_parts.specs.PartWords.{blocks_left_in}

-- a set of numbers below n
abbrev pub IsSetBelow : ℕ → List ℕ → Type 0
IsSetBelow n set = set ≡ numbers_below n (contains_page set)

-- The part of device d: its bytes and its requests are in order; no more were issued than are done or wait, none was
-- completed that wasn't issued; and the counts that nothing here bounds have not passed the end of their type.
pub record DevFits (D : Desc) (d : ℕ) (dev : Dev) : Type 0 where
  pub shape : DeviceHasShape (shape_at D d) dev.plain
  pub queue : QueueKept D d dev.plain dev.requests
  pub known : All (λ r. r.job < length (shape_at D d).jobs) dev.requests
  pub issued : dev.issues ≤ dev.plain.done + length (waiting dev.requests)
  pub completed : dev.completes + length dev.requests ≤ dev.issues
  pub arcs : dev.arcs ≤ 4294967295
  pub lost : dev.plain.lost ≤ 4294967295
  pub marks : IsSetBelow D.pages dev.marks
  pub unread : IsSetBelow (block_count (shape_at D d)) dev.unread
  pub dirty : IsSetBelow (block_count (shape_at D d)) dev.dirty

-- The coordinator's part: at most `rounds` passes have begun before the last one; its lists have an item for each
-- device, and no part has more blocks left than its device has.
pub record LeadFits (D : Desc) (lead : Lead) : Type 0 where
  pub passes : lead.passes ≤ D.rounds + 1
  pub before_last : lead.last ≡ false → lead.passes ≤ D.rounds
  pub set : IsSetBelow D.pages lead.set
  pub left : IsSetBelow D.pages lead.left
  pub gathered : IsSetBelow D.pages lead.gathered
  pub reported : length lead.reported ≡ device_count D
  pub parts : length lead.parts ≡ device_count D
  pub sizes : (d : ℕ) → d < device_count D → blocks_left_in lead d ≤ block_count (shape_at D d)

-- a page's part
abbrev pub PageFits : Desc → List ℕ → Type 0
PageFits D bytes = length bytes ≡ D.page

-- each part does
pub record PartsFit (D : Desc) (parts : Parts) : Type 0 where
  pub lead : LeadFits D parts.lead
  pub dev : (d : ℕ) → d < device_count D → DevFits D d (parts.dev d)
  pub page : (p : ℕ) → p < D.pages → PageFits D (parts.page p)
