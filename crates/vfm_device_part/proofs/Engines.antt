-- A part that fits has an engine in order, and shows what its engine shows.
use Rattle.std.proofs.Common.{◌≡◌, ℕ, ◌<◌, ◌||◌, Bool, Option, unwrap_or, sym, ap, subst}
use Rattle.vfm_base.specs.Tests.{first_failed}
use Rattle.vfm_types.specs.declared.desc.Desc.{Desc}
use Rattle.vfm_types.specs.declared.entry.Rule.{Rule}
use Rattle.vfm_types.specs.Desc.{device_count}
use Rattle.vfm_plain.specs.IssueRules.{first_number}
use Rattle.vfm_parts.specs.Parts.{Dev}
use Rattle.vfm_parts.specs.Fits.{DevFits}
use Rattle.vfm_parts.specs.IssueStep.{issue_conditions_in}
use Rattle.vfm_parts_laws.specs.LooksIn as part
use Rattle.vfm_device.specs.EngineState.{EngineKept, EngineState, look_in, part_of, unissued_in}
use Rattle.vfm_device.proofs.OfParts.{barred_by_part}
use Rattle.vfm_space.specs.Blocks.{Blocks}
use Rattle.vfm_dirty.specs.LogState.{Log}
use Rattle.vfm_device_part.specs.Part.{part_of_leaves}

pub engine_kept : (D : Desc) (d : ℕ) (e : EngineState) (blocks : Blocks) (log : Log) (released : Bool) (dev : Dev) → part_of_leaves e blocks log released ≡ dev
    → d < device_count D → DevFits D d dev → EngineKept D d e
engine_kept D d e blocks log released dev is inside fits =
    let own : DevFits D d (part_of_leaves e blocks log released) = subst (DevFits D d) (sym is) fits in
    record {
      device = inside;
      queue = record {
        rest = own.queue.rest;
        pending = own.queue.pending;
        rising = own.queue.rising;
        gone = own.queue.gone;
        once = own.queue.once;
        count = own.queue.count;
        budget = own.queue.budget;
        window = own.queue.window;
        alone = own.queue.alone;
      };
      pending = own.shape.jobs;
      outstanding = own.known;
    }

-- what bars an issue of the part bars that of its engine
pub barred_same : (D : Desc) (d n : ℕ) (e : EngineState) (blocks : Blocks) (log : Log) (released : Bool)
    → first_failed (issue_conditions_in D d n (part_of_leaves e blocks log released)) ≡ first_failed (issue_conditions_in D d n (part_of (log.started || released) e))
barred_same D d n e blocks log released = barred_by_part D d n e (part_of_leaves e blocks log released)

pub look_same : (D : Desc) (d : ℕ) (e : EngineState) (blocks : Blocks) (log : Log) (released : Bool)
    → look_in D d (log.started || released) e ≡ part.look_in D d (part_of_leaves e blocks log released)
look_same D d e blocks log released =
    ap (λ (barred : Option Rule). record (look_in D d (log.started || released) e) { blocked = barred })
    (sym (barred_same D d (unwrap_or (first_number (unissued_in e)) 0) e blocks log released))
