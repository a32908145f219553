-- What is printed of worked runs, line by line.
use Rattle.std.specs.Prelude.{List, [], ◌∷◌, ◌++◌, ℕ, Some, None, codes, reverse}
use Rattle.std.specs.List.{flat_map}
use Rattle.vfm_types.specs.Machine.{Machine}
use Rattle.vfm_types.specs.Deliveries.{machine_of}
use Rattle.vfm_plain.specs.Report.{Made}
use Rattle.vfm_cases.specs.One.{one, one_source, one_home, one_joined, one_fails_first}
use Rattle.vfm_types.specs.declared.entry.Entry.TheVariants.{Resume}

-- lines, each ended by a line feed
abbrev pub lines : List (List ℕ) → List ℕ
lines texts = flat_map (λ text. text ++ 10 ∷ []) texts

-- the machine of the worked device after its write
abbrev pub one_end : Machine
one_end = machine_of one (reverse one_joined)

-- its state, as printed
abbrev pub one_state_lines : List (List ℕ)
one_state_lines =
    codes "page 0 00000000000000000000000000000000" ∷ codes "page 1 00000102030400000000000000000000"
    ∷ codes "device 0 a accepted 1 done 1 lost 0"
    ∷ codes "buf 0 00000000000000000000000000000000000000000000000000000000000000000000000000000000000000000000000000000000000000000000000000000000"
    ∷ codes "bar 0 00000000000000000000000000000000000000000000000000000000000000000000000000000000000000000000000000000000000000000000000000000000"
    ∷ []

-- what its run made where it was moved
abbrev pub one_moved : Made
one_moved =
    record {
      desc = one;
      source = one_source;
      joint = Some one_end;
      loaded = None;
      destination = Some (Resume ∷ one_home);
      final = Some one_end;
    }

-- its whole report there
abbrev pub one_report_lines : List (List ℕ)
one_report_lines =
    codes "status moved" ∷ codes "journal source" ∷ codes "issue 0 0" ∷ codes "deliver 0 0" ∷ codes "complete 0 0"
    ∷ codes "begin" ∷ codes "hold 0 STOP" ∷ codes "arc 0 STOP" ∷ codes "arc 0 STOP_COPY" ∷ codes "joint" ∷ codes "pass 1"
    ∷ codes "copy 0" ∷ codes "copy 1" ∷ codes "block 0 0" ∷ codes "state joint" ∷ [] ++ one_state_lines
    ++ codes "journal destination" ∷ codes "resume" ∷ codes "arc 0 STOP" ∷ codes "arc 0 RUNNING" ∷ codes "state final" ∷ []
    ++ one_state_lines ++ codes "end" ∷ []

-- what its run made where its first arc failed
abbrev pub one_failed : Made
one_failed =
    record {
      desc = one;
      source = one_fails_first;
      joint = None;
      loaded = None;
      destination = None;
      final = Some one_end;
    }

-- its report there
abbrev pub one_failed_lines : List (List ℕ)
one_failed_lines =
    codes "status arc-failed 0 STOP" ∷ codes "journal source" ∷ codes "issue 0 0" ∷ codes "deliver 0 0"
    ∷ codes "complete 0 0" ∷ codes "begin" ∷ codes "hold 0 STOP" ∷ codes "fail 0 STOP" ∷ codes "abort"
    ∷ codes "state final" ∷ [] ++ one_state_lines ++ codes "end" ∷ []
