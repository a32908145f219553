-- Why a stream or a channel is refused, as what the verdict says of it.
use Rattle.std.specs.Prelude.{◌≡◌, ℕ, Option, Some, None, Result, Ok, Err, List}
use Rattle.vfm_types.specs.declared.desc.Desc.{Desc}
use Rattle.vfm_types.specs.declared.fault.Refusal.{Refusal}
use Rattle.vfm_plain.specs.declared.part.Part.{Part}
use Rattle.vfm_packet.specs.Answer.{cause_number}
use Rattle.vfm_packet.specs.Channel.{channel_limit}
use Rattle.vfm_record.specs.Record.{Record}
use Rattle.vfm_record.specs.Shape.{shape_digest}
use Rattle.vfm_streams.specs.Whole.{StreamFault, Doubled, Past, NoConfig, Missing, BadRecord, ConfigDiffers, NotWhole}
use Rattle.vfm_streams.specs.Judged.{digest_of}
use Rattle.vfm_recv.specs.declared.channel_end.ChannelEnd.{ChannelEnd}
use Rattle.vfm_recv.specs.declared.channel_end.ChannelEnd.TheVariants as channel_ends
use Rattle.vfm_intake.specs.declared.refusal.StreamRefusal.{StreamRefusal}
use Rattle.vfm_intake.specs.declared.refusal.StreamRefusal.TheVariants as refusals

-- what is wrong with a stream that is refused so
abbrev pub fault_named : StreamRefusal → StreamFault
fault_named (refusals.Doubled index) = Doubled index
fault_named (refusals.Past index) = Past index
fault_named refusals.NoConfig = NoConfig
fault_named (refusals.Missing index) = Missing index
fault_named (refusals.BadRecord index place) = BadRecord index place
fault_named (refusals.ConfigDiffers ours theirs) = ConfigDiffers
fault_named (refusals.NotWhole least) = NotWhole least

-- what is wrong with a stream of which this came
abbrev pub fault_in : Result Part StreamRefusal → Option StreamFault
fault_in (Ok part) = None
fault_in (Err refusal) = Some (fault_named refusal)

-- where the digest is another, both are named: that of the own shape, and the one that these records end with
abbrev pub NamesDigests : Desc → ℕ → List Record → StreamRefusal → Type 0
NamesDigests D s records (refusals.ConfigDiffers ours theirs) = (ours ≡ shape_digest D s) × (theirs ≡ digest_of records)
NamesDigests D s records refusal = Unit {0}

-- the refusal of channel k that ended so; a fault of the link and want of memory have codes of their own
abbrev pub end_refusal : ℕ → ChannelEnd → Option Refusal
end_refusal k channel_ends.Ended = None
end_refusal k (channel_ends.Aborted place) = Some (record { code = 11; a = k; b = place })
end_refusal k channel_ends.Fault = Some (record { code = 12; a = k; b = 0 })
end_refusal k (channel_ends.Bad place cause) = Some (record { code = cause_number cause; a = k; b = place })
end_refusal k (channel_ends.Truncated place) = Some (record { code = 7; a = k; b = place })
end_refusal k (channel_ends.NoEnd place) = Some (record { code = 8; a = k; b = place })
end_refusal k (channel_ends.AfterEnd place) = Some (record { code = 9; a = k; b = place })
end_refusal k channel_ends.TooLong = Some (record { code = 10; a = k; b = channel_limit })
end_refusal k channel_ends.NoMemory = Some (record { code = 40; a = 0; b = 0 })
