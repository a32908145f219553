-- Which channel carries a packet.
use Rattle.std.specs.Prelude.{ℕ, ◌+◌, ◌%◌}

-- the channel of a packet, by its stream and index, where packets go round over so many channels
abbrev pub lane : ℕ → ℕ → ℕ → ℕ
lane stream index channels = (stream + index) % channels
