-- A run keeps what a core keeps.
use Rattle.std.proofs.Common.{ℕ, ◌+◌, ◌≤◌, List, [], ◌∷◌, ◌++◌, length, reverse, ap, sym, subst, ◌∙◌, arith, append-nil, append_assoc, length-append}
use Rattle.std.proofs.lemmas.List.{length-reverse, reverse-append}
use Rattle.vfm_types.specs.declared.desc.Desc.{Desc}
use Rattle.vfm_types.specs.declared.entry.Entry.{Entry}
use Rattle.vfm_parts.specs.Parts.{World}
use Rattle.vfm_cells.specs.WholeRun.{IsRunFrom, world_after}
use Rattle.vfm_core.specs.CoreState.{IsKept}
use Rattle.vfm_core.proofs.Kept.{kept_after}

pub run_kept : (D : Desc) (entries past : List Entry) (room : ℕ) (w : World) → IsKept D entries room w → IsRunFrom D w past
    → IsKept D (entries ++ reverse past) room (world_after D w past)
run_kept D entries [] room w kept run = subst (λ (es : List Entry). IsKept D es room w) (sym (append-nil entries)) kept
run_kept D entries (entry ∷ past) room w kept run =
    subst (λ (es : List Entry). IsKept D es room (world_after D w (entry ∷ past)))
    (append_assoc entries (reverse past) (entry ∷ []) ∙ ap (λ (es : List Entry). entries ++ es) (sym (reverse-append (entry ∷ []) past)))
    (kept_after D (entries ++ reverse past) room (world_after D w past) entry (run_kept D entries past room w kept run.2) run.0 run.1)

pub run_room : (D : Desc) (entries past : List Entry) (room : ℕ) (w : World) → IsKept D entries room w → IsRunFrom D w past
    → length entries + length past ≤ room
run_room D entries past room w kept run =
    let after = run_kept D entries past room w kept run in
    let roomy = after.roomy in
    let longer = length-append entries (reverse past) in
    let same = length-reverse past in
    omega arith
