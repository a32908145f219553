use Rattle.vfm_plain.proofs.Effects.{bell-bytes, bell-buf}
use Rattle.vfm_plain.proofs.laws.doorbells_change_no_byte.Goals as goal

pub returns : goal.returns
returns c = record { regions = bell-bytes; buffers = bell-buf }
