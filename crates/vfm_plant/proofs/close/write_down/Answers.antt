-- The entry at the next place is the log's next.
use Rattle.std.proofs.Common.{◌≡◌, ℕ, suc, ◌+◌, ◌-◌, ◌<◌, List, [], ◌∷◌, ◌++◌, map, length, take, ap, sym, ◌∙◌, arith, append_assoc, length-append, Some, None}
use Rattle.std.proofs.lemmas.Option.{slice_get_within}
use Rattle.vfm_types.specs.declared.entry.Entry.{Entry}
use Rattle.vfm_plant.specs.Closed.{find_at, items_of}
use Rattle.vfm_plant.proofs.Closings.{found_there, take_get, take_none}
use Rattle.vfm_plant.proofs.close.write_down.Goals as goal

pub push-requires : goal.push-requires
push-requires c =
    let i = c.loop-entry.invariant in
    let told = c.requires.told in
    let base = length c.args.journal.now.entries in
    let n = length c.loop-entry.journal.entries in
    let at = found_there base n (map items_of c.args.lists.now.items) told.0 (Some c.in-Some.entry) told.1 i.more
    (ap (λ (p : ℕ). find_at p (map items_of c.args.lists.now.items)) (sym c.len.ensures) ∙ (sym c.entry_at.ensures ∙ c.in-Some.is)) in
    let low = slice_get_within told.0 (n - base) c.in-Some.entry at in
    let room = told.2 in
    let same = i.room in
    let more = i.more in
    omega arith

pub loop-entry-smaller : goal.loop-entry-smaller
loop-entry-smaller c =
    let now = c.push.new.self.entries in
    let n = length c.loop-entry.journal.entries in
    let longer : length now ≡ n + 1 = ap (λ (es : List Entry). length es) c.push.ensures.entries ∙ length-append c.loop-entry.journal.entries (c.in-Some.entry ∷ []) in
    let same = c.push.ensures.room in
    let low = push-requires-of c in
    let less : c.push.new.self.room - length now < c.loop-entry.journal.room - n = omega arith in
    less
  where
    push-requires-of : (c : goal.After-push) → length c.loop-entry.journal.entries < c.loop-entry.journal.room
    push-requires-of c =
        let i = c.loop-entry.invariant in
        let told = c.requires.told in
        let base = length c.args.journal.now.entries in
        let n = length c.loop-entry.journal.entries in
        let at = found_there base n (map items_of c.args.lists.now.items) told.0 (Some c.in-Some.entry) told.1 i.more
        (ap (λ (p : ℕ). find_at p (map items_of c.args.lists.now.items)) (sym c.len.ensures) ∙ (sym c.entry_at.ensures ∙ c.in-Some.is)) in
        let low = slice_get_within told.0 (n - base) c.in-Some.entry at in
        let room = told.2 in
        let same = i.room in
        let more = i.more in
        omega arith

pub loop-entry-preserved : goal.loop-entry-preserved
loop-entry-preserved c =
    let i = c.loop-entry.invariant in
    let first = c.args.journal.now.entries in
    let old = c.loop-entry.journal.entries in
    let now = c.push.new.self.entries in
    let e = c.in-Some.entry in
    let longer : length now ≡ length old + 1 = ap (λ (es : List Entry). length es) c.push.ensures.entries ∙ length-append old (e ∷ []) in
    let more = i.more in
    let k = length old - length first in
    let next : suc k ≡ length now - length first = omega arith in
    record {
      more = omega arith;
      room = c.push.ensures.room ∙ i.room;
      written = λ log at.
          let here = found_there (length first) (length old) (map items_of c.args.lists.now.items) log (Some e) at i.more
          (ap (λ (p : ℕ). find_at p (map items_of c.args.lists.now.items)) (sym c.len.ensures) ∙ (sym c.entry_at.ensures ∙ c.in-Some.is)) in
          c.push.ensures.entries
          ∙ (ap (λ (es : List Entry). es ++ e ∷ []) (i.written log at)
          ∙ (append_assoc first (take k log) (e ∷ [])
          ∙ (ap (λ (es : List Entry). first ++ es) (take_get log k e here) ∙ ap (λ (j : ℕ). first ++ take j log) next)));
    }

pub returns-clause-written : goal.returns-clause-written
returns-clause-written c = λ log at.
    let i = c.loop-entry.invariant in
    let first = c.args.journal.now.entries in
    let old = c.loop-entry.journal.entries in
    let past = found_there (length first) (length old) (map items_of c.args.lists.now.items) log None at i.more
    (ap (λ (p : ℕ). find_at p (map items_of c.args.lists.now.items)) (sym c.len.ensures) ∙ (sym c.entry_at.ensures ∙ c.in_default.is)) in
    i.written log at ∙ ap (λ (es : List Entry). first ++ es) (take_none log (length old - length first) past)
