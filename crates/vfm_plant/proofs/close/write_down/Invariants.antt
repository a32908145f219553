-- So many of the entries are written.
use Rattle.std.proofs.Common.{◌≡◌, ◌-◌, ◌≤◌, ◌++◌, List, length, map, take}
use Rattle.vfm_types.specs.declared.entry.Entry.{Entry}
use Rattle.vfm_plant.specs.Closed.{AreAtPlaces, items_of}
use Rattle.vfm_plant.proofs.close.write_down.Given as goal

abbrev pub invariant-loop-entry : goal.invariant-loop-entry
invariant-loop-entry l = record {
  more : length l.fn.journal.entries ≤ length l.journal.entries;
  room : l.journal.room ≡ l.fn.journal.room;
  written : (log : List Entry) → AreAtPlaces (length l.fn.journal.entries) (map items_of l.lists.items) log
      → l.journal.entries ≡ l.fn.journal.entries ++ take (length l.journal.entries - length l.fn.journal.entries) log;
}

abbrev pub decreases-loop-entry : goal.decreases-loop-entry
decreases-loop-entry l = l.journal.room - length l.journal.entries
