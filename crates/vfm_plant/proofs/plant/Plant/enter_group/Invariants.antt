-- The cells of the devices before this one are entered.
use Rattle.std.proofs.Common.{◌≡◌, ℕ, ◌<◌, vec_len, vec_capacity}
use Rattle.vfm_parts.specs.Fits.{DevFits, LeadFits}
use Rattle.vfm_turn.specs.Words.{IsTicketOf, number_of, seen_of}
use Rattle.vfm_lead.specs.LeadSteps.{dev_of_list}
use Rattle.vfm_plant.specs.Group.{group_holds}
use Rattle.vfm_plant.specs.Hands.{with_holds}
use Rattle.vfm_plant.proofs.plant.Plant.enter_group.Given as goal

abbrev pub invariant-loop-d : goal.invariant-loop-d
invariant-loop-d l = record {
  ticket : IsTicketOf l.self.board l.t;
  number : number_of l.t ≡ number_of l.fn.t;
  seen : seen_of l.t ≡ with_holds (group_holds l.lead l.devices.items) (seen_of l.fn.t);
  count : vec_len l.devices ≡ l.d;
  lead : LeadFits l.self.desc l.lead;
  each : (i : ℕ) → i < l.d → DevFits l.self.desc i (dev_of_list l.devices.items i);
  room : vec_capacity l.devices ≡ vec_capacity l.fn.devices;
}
