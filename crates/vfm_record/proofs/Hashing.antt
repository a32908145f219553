-- Texts that a hasher takes in one after the other.
use Rattle.std.proofs.Common.{ℕ, List, ◌∷◌, ◌++◌, codes, length, subst, append_assoc}
use Rattle.std.specs.List.{flat_map}
use Rattle.sha2.specs.declared.Sha256.{Sha256}
use Rattle.sha2.specs.Hashers.{Holds256}
use Rattle.vfm_types.specs.declared.desc.DevShape.{DevShape}
use Rattle.vfm_record.specs.Hashing.{TookIn}
use Rattle.vfm_record.specs.Shape.{word, number, plus, sizes_word, bars_word, tells_number, line_end, device_line}

then : (a b c : Sha256) (x y : List ℕ) → TookIn a b x → TookIn b c y → TookIn a c (x ++ y)
then a b c x y first second held h =
    subst (Holds256 c) (append_assoc held x y) (second (held ++ x) (first held h))

-- the line of a device, word by word
pub device_taken : (shape : DevShape) (h0 h1 h2 h3 h4 h5 h6 h7 h8 h9 : Sha256)
    → TookIn h0 h1 (codes "device") → TookIn h1 h2 (word shape.name) → TookIn h2 h3 (number shape.flags)
    → TookIn h3 h4 (word (bars_word shape)) → TookIn h4 h5 (number shape.window) → TookIn h5 h6 (number (tells_number shape.tells))
    → TookIn h6 h7 (number shape.budget) → TookIn h7 h8 (number (length shape.jobs)) → TookIn h8 h9 line_end
    → TookIn h0 h9 (device_line shape)
unfolding device_line
device_taken shape h0 h1 h2 h3 h4 h5 h6 h7 h8 h9 device name flags bar window tells budget jobs end =
    let x1 = codes "device" in
    let x2 = x1 ++ word shape.name in
    let x3 = x2 ++ number shape.flags in
    let x4 = x3 ++ word (bars_word shape) in
    let x5 = x4 ++ number shape.window in
    let x6 = x5 ++ number (tells_number shape.tells) in
    let x7 = x6 ++ number shape.budget in
    let x8 = x7 ++ number (length shape.jobs) in
    let s2 = then h0 h1 h2 x1 (word shape.name) device name in
    let s3 = then h0 h2 h3 x2 (number shape.flags) s2 flags in
    let s4 = then h0 h3 h4 x3 (word (bars_word shape)) s3 bar in
    let s5 = then h0 h4 h5 x4 (number shape.window) s4 window in
    let s6 = then h0 h5 h6 x5 (number (tells_number shape.tells)) s5 tells in
    let s7 = then h0 h6 h7 x6 (number shape.budget) s6 budget in
    let s8 = then h0 h7 h8 x7 (number (length shape.jobs)) s7 jobs in
    then h0 h8 h9 x8 line_end s8 end

-- the sizes of the BARs as one word, the first and then the others
pub sizes_taken : (first : ℕ) (sizes : List ℕ) (h0 h1 h2 : Sha256) → TookIn h0 h1 (number first) → TookIn h1 h2 (flat_map plus sizes)
    → TookIn h0 h2 (word (sizes_word (first ∷ sizes)))
sizes_taken first sizes h0 h1 h2 number_in more = then h0 h1 h2 (number first) (flat_map plus sizes) number_in more
