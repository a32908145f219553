-- What the buffer and the loader of one stream know of the packets that came of it.
use Rattle.std.specs.Prelude.{◌≡◌, ℕ, nat_lt, Bool, false, List, None}
use Rattle.vfm_types.specs.declared.desc.Desc.{Desc}
use Rattle.vfm_packet.specs.Packet.{Packet}
use Rattle.vfm_streams.specs.Whole.{times}
use Rattle.vfm_reorder.specs.Buffers.{given, is_ready, IsAfter}
use Rattle.vfm_reorder.specs.Buffers.{is_closed as has_given_config}
use Rattle.vfm_load.specs.Loads.{IsLoaderOf, stream_of, applied, is_closed}
use Rattle.vfm_load.specs.Loads.{IsAfter as IsLoadedAfter}
use Rattle.vfm_intake_laws.specs.Doubles.{IsLeastDoubled}
use Rattle.vfm_intake_laws.specs.Prefixes.{first_in_order}
use Rattle.vfm_intake.specs.declared.stream.StreamIntake.{StreamIntake}

-- the number of the stream
abbrev pub stream_in : StreamIntake → ℕ
stream_in intake = stream_of intake.loader

-- how many packets were given to the loader
abbrev pub loaded_count : StreamIntake → ℕ
loaded_count intake = given intake.buffer

-- another packet can be given to it
abbrev pub has_next : StreamIntake → Bool
has_next intake = is_ready intake.buffer

-- all that the buffer gave was applied, of stream s of the description
pub record IsFedOf (intake : StreamIntake) (D : Desc) (s : ℕ) : Type 0 where
  pub loader : IsLoaderOf intake.loader D s
  pub stream : stream_in intake ≡ s
  pub count : applied intake.loader ≡ given intake.buffer
  pub closed : is_closed intake.loader ≡ has_given_config intake.buffer

-- between two calls no packet waits that could be applied, and the loader is closed where a config packet was applied
pub record IsAtRest (intake : StreamIntake) : Type 0 where
  pub closed : is_closed intake.loader ≡ has_given_config intake.buffer
  pub none_next : has_next intake ≡ false

-- it is of stream s of the description
pub record IsStreamOf (intake : StreamIntake) (D : Desc) (s : ℕ) : Type 0 where
  pub fed : IsFedOf intake D s
  pub rest : IsAtRest intake

-- These packets of stream s came, in whatever order: of each index the first was put into the buffer, the first of those
-- in order were applied, and the least index that came twice is told.
pub record StandsAfter (intake : StreamIntake) (D : Desc) (s : ℕ) (came : List Packet) : Type 0 where
  pub put : List Packet
  pub after : IsAfter intake.buffer put
  pub loaded : IsLoadedAfter intake.loader D s (first_in_order (given intake.buffer) put)
  pub met : (i : ℕ) → nat_lt 0 (times i put) ≡ nat_lt 0 (times i came)
  pub doubled : IsLeastDoubled intake.doubled came
  pub whole : intake.doubled ≡ None → put ≡ came
