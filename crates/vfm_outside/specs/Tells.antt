-- What the objects outside report of themselves at one moment, so that a clause can speak of an object before and after
-- a call by one name each.
use Rattle.std.specs.Prelude.{ℕ, Option, List}
use Rattle.vfm_outside.specs.Links.{ToldEnds}

-- a source: the bytes that are left in it, where it reports them, and how often it failed
pub record SourceTells : Type 0 where
  pub left : Option (List ℕ)
  pub faults : ℕ

-- a sink: the bytes that it holds, where it reports them, and how often it failed
pub record SinkTells : Type 0 where
  pub holds : Option (List ℕ)
  pub faults : ℕ

-- wires: how many channels were asked for, what the links reported that came back last, and how often they failed
pub record WiresTell : Type 0 where
  pub asked : Option (List ℕ)
  pub carried : Option ToldEnds
  pub faults : ℕ

-- the same of an object's own words
abbrev pub source_tells : Option (List ℕ) → ℕ → SourceTells
source_tells left faults = record { left = left; faults = faults }

abbrev pub sink_tells : Option (List ℕ) → ℕ → SinkTells
sink_tells holds faults = record { holds = holds; faults = faults }

abbrev pub wires_tell : Option (List ℕ) → Option ToldEnds → ℕ → WiresTell
wires_tell asked carried faults = record { asked = asked; carried = carried; faults = faults }
