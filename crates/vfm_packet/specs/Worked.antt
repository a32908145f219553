-- Packets and channels written out byte by byte, for the worked cases of the tests.
use Rattle.std.specs.Prelude.{ℕ, List, [], ◌∷◌, ◌++◌}
use Rattle.std.proofs.Math.Nat.{le_refl, le-suc}
use Rattle.vfm_packet.specs.declared.answer.Expect.{Expect}
use Rattle.vfm_packet.specs.Header.{IsVersion}

-- there is a version 1
pub is_version_1 : IsVersion 1
is_version_1 = (le_refl 1, le-suc 1)

-- there is a version 2
pub is_version_2 : IsVersion 2
is_version_2 = (le-suc 1, le_refl 2)

-- version 1, session 7 and two streams
abbrev pub expected : Expect
expected = record { version = 1; session = 7; streams = 2; known = is_version_1 }

-- version 2, session 7 and two streams
abbrev pub expected_sealed : Expect
expected_sealed = record { version = 2; session = 7; streams = 2; known = is_version_2 }

-- twelve zero bytes after some bytes
abbrev pub with_zeros : List ℕ → List ℕ
with_zeros bytes = bytes ++ (0 ∷ 0 ∷ 0 ∷ 0 ∷ 0 ∷ 0 ∷ 0 ∷ 0 ∷ 0 ∷ 0 ∷ 0 ∷ 0 ∷ [])

-- the header of a packet of this version and kind, of stream 0 and index 0, with so many bytes of payload
abbrev pub head_of_version : ℕ → ℕ → ℕ → List ℕ
head_of_version version kind len =
    with_zeros (0x56 ∷ 0x46 ∷ 0x4d ∷ 0x44 ∷ 0 ∷ version ∷ 0 ∷ kind ∷ 0 ∷ 0 ∷ 0 ∷ 0 ∷ 0 ∷ 0 ∷ 0 ∷ 7
    ∷ 0 ∷ 0 ∷ 0 ∷ 0 ∷ 0 ∷ 0 ∷ 0 ∷ 0 ∷ 0 ∷ 0 ∷ 0 ∷ len ∷ [])

-- the header of a packet of version 1
abbrev pub head_of : ℕ → ℕ → List ℕ
head_of kind len = head_of_version 1 kind len

-- a data packet of 42 bytes, a config packet of 41, an end packet and an abort packet of 40
abbrev pub data_packet : List ℕ
data_packet = head_of 1 2 ++ (5 ∷ 6 ∷ [])

abbrev pub config_packet : List ℕ
config_packet = head_of 2 1 ++ (9 ∷ [])

abbrev pub end_packet : List ℕ
end_packet = head_of 3 0

abbrev pub abort_packet : List ℕ
abort_packet = head_of 4 0

-- forty zero bytes
abbrev pub no_packet : List ℕ
no_packet = with_zeros (with_zeros (with_zeros (0 ∷ 0 ∷ 0 ∷ 0 ∷ [])))

-- the SHA-256 of header and payload in version 2, from another program: of the data packet, the end packet and the abort
-- packet
abbrev pub data_seal : List ℕ
data_seal = 0x9a ∷ 0x54 ∷ 0xed ∷ 0xd7 ∷ 0x94 ∷ 0x9d ∷ 0xc9 ∷ 0x60 ∷ 0xe2 ∷ 0x2a ∷ 0x1b ∷ 0x56 ∷ 0x27 ∷ 0x1e ∷ 0x1b ∷ 0xe3
    ∷ 0xbf ∷ 0xc9 ∷ 0x98 ∷ 0x62 ∷ 0x78 ∷ 0x9d ∷ 0x83 ∷ 0xf9 ∷ 0xba ∷ 0xfb ∷ 0xc6 ∷ 0x8e ∷ 0xa7 ∷ 0xde ∷ 0x06 ∷ 0xba ∷ []

abbrev pub end_seal : List ℕ
end_seal = 0xe6 ∷ 0x17 ∷ 0xd7 ∷ 0xf5 ∷ 0x3f ∷ 0xf6 ∷ 0x3b ∷ 0x05 ∷ 0x83 ∷ 0x98 ∷ 0x3d ∷ 0x29 ∷ 0x3b ∷ 0x3b ∷ 0x27 ∷ 0x40
    ∷ 0x02 ∷ 0x78 ∷ 0x78 ∷ 0x25 ∷ 0x6a ∷ 0x82 ∷ 0xb6 ∷ 0x57 ∷ 0x2c ∷ 0x2a ∷ 0x7e ∷ 0x1d ∷ 0xfb ∷ 0xe2 ∷ 0x22 ∷ 0xae ∷ []

abbrev pub abort_seal : List ℕ
abort_seal = 0x37 ∷ 0x65 ∷ 0xd3 ∷ 0x39 ∷ 0x4c ∷ 0x10 ∷ 0xf2 ∷ 0x61 ∷ 0xac ∷ 0x49 ∷ 0x99 ∷ 0xa7 ∷ 0xf7 ∷ 0x6c ∷ 0xf0 ∷ 0x27
    ∷ 0xb0 ∷ 0x62 ∷ 0x51 ∷ 0xb4 ∷ 0xe3 ∷ 0x0c ∷ 0xa5 ∷ 0x54 ∷ 0x86 ∷ 0x01 ∷ 0x99 ∷ 0xec ∷ 0xf5 ∷ 0xa1 ∷ 0x44 ∷ 0x5a ∷ []

-- a data packet of 74 bytes, an end packet and an abort packet of 72
abbrev pub sealed_data : List ℕ
sealed_data = head_of_version 2 1 2 ++ (5 ∷ 6 ∷ []) ++ data_seal

abbrev pub sealed_end : List ℕ
sealed_end = head_of_version 2 3 0 ++ end_seal

abbrev pub sealed_abort : List ℕ
sealed_abort = head_of_version 2 4 0 ++ abort_seal

-- the same data packet with another last byte of its payload, and the end packet with the seal of the abort packet
abbrev pub changed_data : List ℕ
changed_data = head_of_version 2 1 2 ++ (5 ∷ 7 ∷ []) ++ data_seal

abbrev pub changed_end : List ℕ
changed_end = head_of_version 2 3 0 ++ abort_seal

-- the abort packet with the seal of the end packet
abbrev pub changed_abort : List ℕ
changed_abort = head_of_version 2 4 0 ++ end_seal
