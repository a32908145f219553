-- How wires over rings make their links.
use Rattle.vfm_outside.specs.declared.ring_wires.RingWires.{RingWires}
use Rattle.vfm_outside.specs.RingEnds.{Settings, settings_of}

-- the settings of wires
abbrev pub wires_settings : RingWires → Settings
wires_settings wires = settings_of wires.fail.items wires.slots wires.patience
