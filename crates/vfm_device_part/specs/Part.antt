-- A device's part as what it is made of: an engine, BAR bytes with the marks of their blocks, a dirty log, and whether it
-- was released.
use Rattle.std.specs.Prelude.{Bool}
use Rattle.vfm_parts.specs.Parts.{Dev}
use Rattle.vfm_device.specs.EngineState.{EngineState, plain_with}
use Rattle.vfm_space.specs.Blocks.{Blocks}
use Rattle.vfm_dirty.specs.LogState.{Log}

-- the part of a device that is made of these
abbrev pub part_of_leaves : EngineState → Blocks → Log → Bool → Dev
part_of_leaves engine blocks log released =
    record {
      plain = plain_with blocks.bytes engine;
      requests = engine.requests;
      state = engine.state;
      hold = engine.hold;
      issues = engine.issues;
      completes = engine.completes;
      arcs = engine.arcs;
      logging = log.started;
      released = released;
      marks = log.marked;
      unread = blocks.unread;
      dirty = blocks.dirty;
    }
