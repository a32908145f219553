-- The devices before this one have their numbers.
use Rattle.vfm_types.specs.Desc.{device_count}
use Rattle.vfm_parts.specs.PassStep.{part_size}
use Rattle.vfm_lead.specs.LeadSteps.{dev_of_list}
use Rattle.vfm_lead.proofs.Filled.{Filled}
use Rattle.vfm_lead.proofs.make.part_sizes.Given as goal

abbrev pub invariant-loop-d : goal.invariant-loop-d
invariant-loop-d l = Filled (device_count l.desc) (part_size l.desc l.lead (dev_of_list l.devices)) l.sizes l.d
