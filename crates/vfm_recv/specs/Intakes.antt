-- What an intake knows of the bytes that came.
use Rattle.std.specs.Prelude.{◌≡◌, ℕ, ◌+◌, ◌≤◌, List, ◌++◌, length}
use Rattle.std.specs.List.{AllByRecursion}
use Rattle.vfm_packet.specs.declared.header.Header.{Header}
use Rattle.vfm_packet.specs.declared.header.Kind.{Kind}
use Rattle.vfm_packet.specs.declared.header.Kind.TheVariants as kinds
use Rattle.vfm_packet.specs.declared.answer.Decoded.TheVariants as answers
use Rattle.vfm_packet.specs.declared.answer.Expect.{Expect}
use Rattle.vfm_packet.specs.Packet.{Packet}
use Rattle.vfm_packet.specs.Answer.{decoded, IsPartial}
use Rattle.vfm_packet.specs.Channel.{IsCarried, all_bytes}
use Rattle.vfm_mesh.specs.declared.fan.Fan.{Fan}
use Rattle.vfm_recv.specs.declared.intake.Intake.{Intake}
use Rattle.vfm_recv.specs.declared.intake.Stage.{Stage}
use Rattle.vfm_recv.specs.declared.intake.Stage.TheVariants as stages
use Rattle.vfm_recv.specs.Handed.{HandsOn}

-- a packet of this kind and size stands at the start
pub record IsMark (e : Expect) (rest : List ℕ) (kind : Kind) (used : ℕ) : Type 0 where
  pub head : Header
  pub found : decoded e rest ≡ answers.Packet head used
  pub of_kind : head.kind ≡ kind

-- what stands after the packets, which have n bytes
abbrev pub StandsAfter : Stage → Intake → ℕ → List ℕ → Type 0
StandsAfter stages.Open intake n rest = (rest ≡ intake.held.items) × (intake.place ≡ n)
StandsAfter stages.Ended intake n rest =
    (used : ℕ) × IsMark intake.expect rest kinds.End used × (used ≤ length rest) × (intake.place ≡ n + used)
StandsAfter stages.Aborted intake n rest = (used : ℕ) × IsMark intake.expect rest kinds.Abort used × (intake.place ≡ n)
StandsAfter (stages.Bad cause) intake n rest = (decoded intake.expect rest ≡ answers.Bad cause) × (intake.place ≡ n)
StandsAfter stages.NoMemory intake n rest = Unit {0}

-- packets came, and then what the stage says; the packets were handed on to the fan
pub record Standing (intake : Intake) (came : List ℕ) (before now : Fan) : Type 0 where
  pub packets : List Packet
  pub rest : List ℕ
  pub each : AllByRecursion (IsCarried intake.expect) packets
  pub encoded : came ≡ all_bytes packets ++ rest
  pub stands : StandsAfter intake.stage intake (length (all_bytes packets)) rest
  pub handed : HandsOn before now packets
  pub count : intake.came ≡ length came

-- the packet that is gathered isn't whole
abbrev pub IsWaiting : Intake → Type 0
IsWaiting intake = intake.stage ≡ stages.Open → IsPartial intake.expect intake.held.items
