-- The parts before the first entry: those of the described machine.
use Rattle.std.specs.Prelude.{true, false, [], map, replicate}
use Rattle.vfm_types.specs.declared.desc.Desc.{Desc}
use Rattle.vfm_types.specs.declared.desc.DevShape.{DevShape}
use Rattle.vfm_types.specs.Desc.{device_count, block_count}
use Rattle.vfm_types.specs.Machine.{described_device}
use Rattle.vfm_parts.specs.Parts.{Dev, Lead, World, no_dev, listed, numbers_below}

-- a device as described: RUNNING, with nothing on the bus, and no block of its BARs read
abbrev pub first_dev : DevShape → Dev
first_dev shape = record no_dev { plain = described_device shape; unread = numbers_below (block_count shape) (λ b. true) }

-- the coordinator before the move
abbrev pub first_lead : Desc → Lead
first_lead D =
    record {
      begun = false;
      joint = false;
      aborted = false;
      resumed = false;
      failed = false;
      passes = 0;
      last = false;
      set = [];
      left = [];
      gathered = [];
      reported = listed (device_count D) (λ d. false);
      parts = listed (device_count D) (λ d. 0);
    }

-- the world of the described machine
abbrev pub first_world : Desc → World
first_world D =
    record { lead = first_lead D; devs = map first_dev D.devices; pages = replicate D.pages (replicate D.page 0) }
