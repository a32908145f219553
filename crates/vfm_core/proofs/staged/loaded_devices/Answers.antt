-- One device after the other.
use Rattle.std.proofs.Common.{List, [], ◌∷◌, ◌++◌, ap₂, sym, ◌∙◌}
use Rattle.vfm_types.specs.Desc.{shape_at}
use Rattle.vfm_types.specs.Machine.{device_of}
use Rattle.vfm_parts.specs.Parts.{Dev}
use Rattle.vfm_parts_laws.specs.StagedParts.{staged_dev}
use Rattle.vfm_core.specs.Loaded.{loaded}
use Rattle.vfm_core.proofs.Loads.{listed_more}
use Rattle.vfm_core.proofs.staged.loaded_devices.Goals as goal

pub loop-d-preserved : goal.loop-d-preserved
loop-d-preserved c =
    c.in_ok-push.ensures.items
    ∙ ap₂ (λ (list : List Dev) (dev : Dev). list ++ dev ∷ []) c.loop-d.invariant c.in_ok-loaded_device.ensures
    ∙ sym (listed_more c.loop-d.d (λ d. staged_dev (shape_at c.args.desc.now d) (device_of (loaded c.args.parts.now) d)))
