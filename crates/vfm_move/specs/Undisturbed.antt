-- A source that copied everything, links that carried it all, or nothing yet, and what is known once the destination
-- has read it out and answered.
use Rattle.std.specs.Prelude.{◌≡◌, ◌<◌, false, Some, IsTrue, All, [], length, map}
use Rattle.vfm_types.specs.Deliveries.{joint_machine}
use Rattle.vfm_types.specs.Valid.{IsValid}
use Rattle.vfm_outside.specs.Links.{ToldEnds}
use Rattle.vfm_plain.specs.Ended.{is_last_ended}
use Rattle.vfm_plain.specs.Legal.{IsLegal}
use Rattle.vfm_plain.specs.Report.{Made, source_past}
use Rattle.vfm_move.specs.Contact.{Line, Linked, Lines, WhereTold}
use Rattle.vfm_move.specs.Table.{Whole}
use Rattle.vfm_move.specs.Carried.{ChannelsCarry, HasAnswered}
use Rattle.vfm_move.specs.Complete.{CarryAll}

-- The source's journal is legal, its last pass has ended, and the state at the joint stop is kept.
pub record IsCopied (made : Made) : Type 0 where
  pub legal : IsLegal made.desc (source_past made)
  pub ended : IsTrue (is_last_ended made.desc (source_past made))
  pub joint : made.joint ≡ Some (joint_machine made.desc (source_past made))

-- Everything was copied, and sent over as many channels as there are; and the links carry all that is sent.
pub record IsWhollyCarried (made : Made) (lines : Lines) : Type 0 where
  pub valid : IsValid made.desc
  pub copied : IsCopied made
  pub channels : length lines.source ≡ made.desc.channels
  pub sent : ChannelsCarry Whole made lines
  pub carry : CarryAll made.desc lines

-- Everything was copied, and sent over as many channels as there are; the destination read its channels out and
-- answered.
pub record IsReadAndAnswered (made : Made) (ends : ToldEnds) : Type 0 where
  pub valid : IsValid made.desc
  pub copied : IsCopied made
  pub channels : length ends.source ≡ made.desc.channels
  pub sent : WhereTold (Linked ends) (λ lines. ChannelsCarry Whole made lines)
  pub answered : WhereTold (Linked ends) (λ lines. HasAnswered made lines)

-- Everything came as it was sent: each channel's bytes on the channel of the same number, and the frames of both ends.
pub record CameAsSent (lines : Lines) : Type 0 where
  pub channels : map (λ line. line.received) lines.dest ≡ map (λ line. line.sent) lines.source
  pub answer : lines.source_control.received ≡ lines.dest_control.sent
  pub go : lines.dest_control.received ≡ lines.source_control.sent

-- nothing came over a link, and its end didn't either
pub record IsUnread (line : Line) : Type 0 where
  pub received : line.received ≡ []
  pub ended : line.ended ≡ false

-- nothing came over any link, and the destination has a channel
pub record AreUnread (lines : Lines) : Type 0 where
  pub some : 0 < length lines.dest
  pub channels : All IsUnread lines.dest
  pub answer : IsUnread lines.source_control
  pub go : IsUnread lines.dest_control
