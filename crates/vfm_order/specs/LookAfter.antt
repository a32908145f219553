-- What can be seen of a move after a list of entries: its look, put together from the facts of the list.
use Rattle.std.specs.Prelude.{ℕ, ◌||◌, Bool, true, false, if◌then◌else◌, List, [], ◌∷◌, ◌++◌, Option, None, Some}
use Rattle.vfm_types.specs.declared.desc.Desc.{Desc}
use Rattle.vfm_types.specs.declared.entry.Entry.{Entry}
use Rattle.vfm_types.specs.declared.look.DevLook.{DevLook}
use Rattle.vfm_types.specs.Desc.{device_count}
use Rattle.vfm_types.specs.Outstanding.{issue_count, complete_count}
use Rattle.vfm_types.specs.Arcs.{arc_count}
use Rattle.vfm_types.specs.Phases.{is_begun, is_joint, is_aborted, is_resumed, is_failed, is_last_begun, pass_count}
use Rattle.vfm_types.specs.Marks.{has_reported, is_in_set, next_copy}
use Rattle.vfm_types.specs.Blocks.{next_block, next_part, is_no_pass_open}
use Rattle.vfm_base.specs.PageSet.{numbers_where}
use Rattle.vfm_plain.specs.Looks.{look_of, is_ready}
use Rattle.vfm_quiet.specs.declared.move_look.MoveLook.{MoveLook}

-- the list of what a function gives for the eight places of devices
abbrev pub eight : {X : Type 0} → (ℕ → X) → List X
eight f = f 0 ∷ f 1 ∷ f 2 ∷ f 3 ∷ f 4 ∷ f 5 ∷ f 6 ∷ f 7 ∷ []

-- the move was given up or taken over
abbrev pub is_over : List Entry → Bool
is_over past = is_aborted past || is_resumed past

-- the block that this device reads next
abbrev pub block_due : Desc → Option ℕ → List Entry → Option ℕ
block_due D None past = None
block_due D (Some d) past = next_block D d past

-- the look of a move after a list
abbrev pub look_after : Desc → List Entry → MoveLook
look_after D past =
    record {
      begun = is_begun past;
      joint = is_joint past;
      aborted = is_aborted past;
      resumed = is_resumed past;
      failed = is_failed past;
      passes = pass_count past;
      ended = is_no_pass_open D past;
      last = is_last_begun past;
      set = numbers_where (λ p. is_in_set D p past) 0 D.pages;
      next_copy = if is_over past then None else next_copy D past;
      part = if is_over past then None else next_part D past;
      next_block = if is_over past then None else block_due D (next_part D past) past;
      reported = eight (λ d. has_reported d past);
      devices = eight (λ d. look_of D d past);
      ready = eight (λ d. is_ready D d past);
      count = device_count D;
    }

-- what is seen of device d in a machine that was staged after a list: issues, completions and arcs count from there
abbrev pub staged_look_of : Desc → List Entry → List Entry → ℕ → DevLook
staged_look_of D before mine d =
    record (look_of D d (mine ++ before)) {
      issued = issue_count d mine;
      completes = complete_count d mine;
      arcs = arc_count d mine;
    }

-- The look of a destination's move that was staged after the source's list and has made entries of its own: it has
-- counted no pass, and its last pass has ended.
abbrev pub staged_look_after : Desc → List Entry → List Entry → MoveLook
staged_look_after D before mine =
    record (look_after D (mine ++ before)) {
      passes = 0;
      ended = true;
      last = true;
      set = [];
      next_copy = None;
      part = None;
      next_block = None;
      reported = eight (λ d. false);
      devices = eight (staged_look_of D before mine);
    }
