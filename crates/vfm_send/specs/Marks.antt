-- The bytes of an end or abort packet.
use Rattle.std.specs.Prelude.{ℕ, List, take}
use Rattle.vfm_send.specs.declared.mark.Mark.{Mark}

-- its bytes
abbrev pub mark_bytes : Mark → List ℕ
mark_bytes mark = take mark.size mark.bytes
