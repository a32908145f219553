-- What a core keeps is kept by each entry that breaks no rule.
use Rattle.std.proofs.Common.{◌≡◌, ℕ, ◌+◌, ◌<◌, ◌≤◌, List, [], ◌∷◌, ◌++◌, length, take, None, IsTrue, ap, sym, ◌∙◌, arith}
use Rattle.std.proofs.Math.Seq.{take-append_seam}
use Rattle.std.proofs.lemmas.List.{length-append}
use Rattle.vfm_types.specs.declared.desc.Desc.{Desc}
use Rattle.vfm_types.specs.declared.entry.Entry.{Entry}
use Rattle.vfm_types.specs.Desc.{device_count}
use Rattle.vfm_plain.specs.Legal.{is_entry_of}
use Rattle.vfm_parts.specs.Parts.{World, parts_in}
use Rattle.vfm_parts.specs.Steps.{after_on, dev_after, fault_on, page_after}
use Rattle.vfm_parts.proofs.Listed.{length-listed}
use Rattle.vfm_parts_laws.specs.EntriesLeft.{entries_left}
use Rattle.vfm_parts_laws.proofs.FittingWorlds.{step_world_fits}
use Rattle.vfm_parts_laws.proofs.RoomWorlds.{world_falls, world_stands}
use Rattle.vfm_core.specs.CoreState.{IsKept}

module _ (D : Desc) (entries : List Entry) (room : ℕ) (w : World) (entry : Entry) (kept : IsKept D entries room w)
    (named : IsTrue (is_entry_of D entry)) (fine : fault_on D w entry ≡ None) where
  fewer : entries_left D (parts_in (after_on D w entry)) + 1 ≤ entries_left D (parts_in w)
  fewer = world_falls D w entry kept.fit.valid kept.fit.fits kept.stand named fine

  -- there is room for it
  pub one_more : length entries < room
  one_more = let falls = fewer in let roomy = kept.roomy in omega arith

  pub kept_after : IsKept D (entries ++ entry ∷ []) room (after_on D w entry)
  kept_after =
      record {
        fit = record {
          valid = kept.fit.valid;
          devs = length-listed (device_count D) (dev_after D (parts_in w) entry);
          pages = length-listed D.pages (page_after D (parts_in w) entry);
          fits = step_world_fits D w entry kept.fit.valid kept.fit.fits named fine;
        };
        stand = world_stands D w entry kept.stand named fine;
        roomy = let falls = fewer in let roomy = kept.roomy in let longer = length-append entries (entry ∷ []) in omega arith;
      }

-- what was written to the slice of a vector is what the vector holds
pub written_back : {X : Type 0} (n : ℕ) (xs ys : List X) → length xs ≡ n → take n (xs ++ ys) ≡ xs
written_back n xs ys is = ap (λ (k : ℕ). take k (xs ++ ys)) (sym is) ∙ take-append_seam xs ys
