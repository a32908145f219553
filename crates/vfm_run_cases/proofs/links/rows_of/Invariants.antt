use Rattle.std.proofs.Common.{◌≡◌, All, map, vec_len}
use Rattle.vfm_outside.specs.Links.{IsNew}
use Rattle.vfm_outside.specs.ScriptEnds.{script_told}
use Rattle.vfm_run_cases.proofs.links.rows_of.Given as goal

-- a link of each end for each channel so far, all of them new
abbrev pub invariant-loop-k : goal.invariant-loop-k
invariant-loop-k l = (vec_len l.source ≡ l.k) × (vec_len l.dest ≡ l.k)
    × All IsNew (map script_told l.source.items) × All IsNew (map script_told l.dest.items)
