-- A look shows of a world what it shows of the coordinator's part and the devices alone.
use Rattle.std.proofs.Common.{ℕ, List}
use Rattle.vfm_types.specs.declared.desc.Desc.{Desc}
use Rattle.vfm_parts.specs.Parts.{Dev, Lead, parts_in}
use Rattle.vfm_quiet.specs.declared.move_look.MoveLook.{MoveLook}
use Rattle.vfm_lead.specs.LeadSteps.{parts_of}
use Rattle.vfm_lead.specs.Shown.{Shows}
use Rattle.vfm_core.specs.CoreState.{world_with}

pub shows_world : (D : Desc) (lead : Lead) (devs : List Dev) (pages : List (List ℕ)) (look : MoveLook) → Shows D (parts_of lead devs) look
    → Shows D (parts_in (world_with lead devs pages)) look
shows_world D lead devs pages look shows =
    record {
      begun = shows.begun;
      joint = shows.joint;
      aborted = shows.aborted;
      resumed = shows.resumed;
      failed = shows.failed;
      passes = shows.passes;
      ended = shows.ended;
      last = shows.last;
      set = shows.set;
      next_copy = shows.next_copy;
      part = shows.part;
      next_block = shows.next_block;
      count = shows.count;
      reported = shows.reported;
      devices = shows.devices;
      ready = shows.ready;
    }
