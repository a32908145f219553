-- The links of the two ends, and what they report.
use Rattle.std.specs.Prelude.{ℕ, ◌+◌, Bool, List, Option, map, sum_by}
use Rattle.vfm_outside.specs.declared.wires.Ends.{Ends}
use Rattle.vfm_outside.specs.Links.{Told, ToldEnds}

-- what a link reports, by the words of its type
abbrev pub told_by : {L : Type 0} → (L → Bool) → (L → ℕ) → (L → ℕ) → (L → Option (List ℕ)) → (L → Option (List ℕ)) → L → Told
told_by ended failed_out failed_in sent received link = record {
  ended = ended link;
  failed_out = failed_out link;
  failed_in = failed_in link;
  sent = sent link;
  received = received link;
}

-- what the links of the two ends report, each by this word
abbrev pub ends_told : {L : Type 0} → (L → Told) → Ends L → ToldEnds
ends_told told ends = record {
  source_control = told ends.source_control;
  source = map told ends.source.items;
  dest_control = told ends.dest_control;
  dest = map told ends.dest.items;
}

-- the sum over the links of the two ends of what this word gives of each
abbrev pub ends_sum : {L : Type 0} → (L → ℕ) → Ends L → ℕ
ends_sum f ends = f ends.source_control + sum_by f ends.source.items + (f ends.dest_control + sum_by f ends.dest.items)
