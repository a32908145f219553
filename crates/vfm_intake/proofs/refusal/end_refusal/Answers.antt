use Rattle.std.proofs.Common.{◌≡◌, ◌∙◌, sym, ap, ℕ, Option, Some}
use Rattle.vfm_types.specs.declared.fault.Refusal.{Refusal}
use Rattle.vfm_packet.specs.Channel.{channel_limit}
use Rattle.vfm_recv.specs.declared.channel_end.ChannelEnd.{ChannelEnd}
use Rattle.vfm_recv.proofs.Endings.{limit_is}
use Rattle.vfm_intake.specs.Causes.{end_refusal}
use Rattle.vfm_intake.proofs.refusal.end_refusal.Goals as goal

too_long : ℕ → ℕ → Option Refusal
too_long k limit = Some (record { code = 10; a = k; b = limit })

pub returns-in-TooLong : goal.returns-in-TooLong
unfolding too_long
returns-in-TooLong c =
    ap (λ (r : Refusal). Some r) c.named-in-TooLong.ensures
    ∙ ap (too_long c.args.channel) (sym limit_is)
    ∙ sym (ap (end_refusal c.args.channel) c.in-TooLong.is)
