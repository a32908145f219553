-- The links in memory of the two ends, and what they report.
use Rattle.std.specs.Prelude.{ℕ, ◌+◌, Option, Some, None, take, vec_len}
use Rattle.vfm_outside.specs.declared.script_link.ScriptLink.{ScriptLink}
use Rattle.vfm_outside.specs.declared.wires.Ends.{Ends}
use Rattle.vfm_outside.specs.Links.{Told, ToldEnds, AreNew, ends_faults}
use Rattle.vfm_outside.specs.Carried.{ends_told}

-- what a link in memory reports
abbrev pub script_told : ScriptLink → Told
script_told link = record {
  ended = link.ended;
  failed_out = link.failed_out;
  failed_in = link.failed_in;
  sent = Some link.sent.items;
  received = Some (take link.at link.inbox.items);
}

-- the faults of a link in memory
abbrev pub script_faults : ScriptLink → ℕ
script_faults link = link.failed_out + link.failed_in

-- what the links in memory of the two ends report
abbrev pub script_ends : Ends ScriptLink → ToldEnds
script_ends ends = ends_told script_told ends

-- the links are new, and the two ends have equally many channels
abbrev pub EndsAreNew : Ends ScriptLink → Type 0
EndsAreNew ends = AreNew (vec_len ends.source) (script_ends ends)

-- the faults of the links that are held, if there are any
abbrev pub held_faults : Option (Ends ScriptLink) → ℕ
held_faults None = 0
held_faults (Some ends) = ends_faults (script_ends ends)
