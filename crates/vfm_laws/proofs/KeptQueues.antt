-- What every legal list keeps of the queues.
use Rattle.std.proofs.Common.{◌≡◌, ℕ, ◌<◌, List, [], ◌∷◌, length, refl, sym, subst, arith}
use Rattle.std.proofs.lemmas.List.{length-map, get_or-map}
use Rattle.vfm_types.specs.declared.desc.Desc.{Desc}
use Rattle.vfm_types.specs.declared.entry.Entry.{Entry}
use Rattle.vfm_types.specs.declared.entry.Entry.TheVariants.{Issue, Deliver, Complete}
use Rattle.vfm_types.specs.Desc.{device_count, shape_at, no_shape}
use Rattle.vfm_types.specs.Machine.{DeviceState, device_of, no_device, numbered, described, described_device}
use Rattle.vfm_types.specs.Valid.{IsValid}
use Rattle.vfm_plain.specs.Legal.{IsLegal}
use Rattle.vfm_laws.specs.Queues.{IsRising, QueueKept, KeepsQueues}
use Rattle.vfm_laws.proofs.Rising.{rising_numbered, length_numbered}
use Rattle.vfm_laws.proofs.Issue.{issue_keeps_queues}
use Rattle.vfm_laws.proofs.Deliver.{deliver_keeps_queues}
use Rattle.vfm_laws.proofs.Complete.{complete_keeps_queues}

described_queue : (D : Desc) → IsValid D → (d : ℕ) → d < device_count D → QueueKept D d (described_device (shape_at D d)) []
described_queue D valid d inside = record {
  rest = numbered 0 (shape_at D d).queue;
  pending = refl;
  rising = subst (λ (k : ℕ). IsRising 0 (numbered 0 (shape_at D d).queue) k) (omega arith) (rising_numbered 0 0 (shape_at D d).queue (omega arith));
  gone = tt;
  once = tt;
  count = let same : length (numbered 0 (shape_at D d).queue) ≡ length (shape_at D d).queue = length_numbered 0 (shape_at D d).queue in omega arith;
  budget = (valid.in_range.devices d inside).queue_length;
  window = omega arith;
  alone = λ fenced. omega arith;
}

described_keeps : (D : Desc) → IsValid D → KeepsQueues D []
described_keeps D valid = (length-map D.devices described_device, each)
  where
    each : (d : ℕ) → d < device_count D → QueueKept D d (device_of (described D) d) []
    each d inside =
        subst (λ (device : DeviceState). QueueKept D d device []) (sym (get_or-map described_device D.devices d no_shape no_device inside)) (described_queue D valid d inside)

pub keeps_queues : (D : Desc) → IsValid D → (past : List Entry) → IsLegal D past → KeepsQueues D past
keeps_queues D valid [] legal = described_keeps D valid
keeps_queues D valid (Issue e n ∷ past) legal = issue_keeps_queues D past e n legal.1 (keeps_queues D valid past legal.2)
keeps_queues D valid (Deliver e n ∷ past) legal = deliver_keeps_queues D past e n legal.0 legal.1 (keeps_queues D valid past legal.2)
keeps_queues D valid (Complete e n ∷ past) legal = complete_keeps_queues D past e n legal.1 (keeps_queues D valid past legal.2)
keeps_queues D valid (entry ∷ past) legal = keeps_queues D valid past legal.2
