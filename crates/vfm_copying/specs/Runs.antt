-- Short runs that lose a write, and that no rule would refuse but the one at the marked place.
use Rattle.std.specs.Prelude.{ℕ, true, List, [], ◌∷◌}
use Rattle.vfm_types.specs.declared.desc.Desc.{Desc}
use Rattle.vfm_types.specs.declared.desc.DevShape.{DevShape}
use Rattle.vfm_types.specs.declared.job.Job.TheVariants.{Write}
use Rattle.vfm_types.specs.declared.state.MigState.TheVariants.{Stop, StopCopy, RunningP2p, PreCopy, PreCopyP2p}
use Rattle.vfm_types.specs.declared.entry.Entry.{Entry}
use Rattle.vfm_types.specs.declared.entry.Entry.TheVariants.{Issue, Deliver, Complete, Hold, Arc, Report, Pass, Copy, Block, Dry, Begin, Joint, Resume}

-- a disk that writes one byte of page 0, and then its next
abbrev pub disk : DevShape
disk =
    record {
      name = 97 ∷ [];
      flags = 1;
      bars = 64 ∷ [];
      window = 2;
      tells = true;
      budget = 2;
      fails = 0;
      jobs = Write 0 (7 ∷ []) ∷ Write 1 (8 ∷ []) ∷ [];
      queue = 0 ∷ 1 ∷ [];
    }

-- a machine of two pages with this one disk, of which so many passes may be made while it runs
abbrev pub lone : ℕ → Desc
lone rounds =
    record {
      session = 7;
      page = 16;
      pages = 2;
      channels = 1;
      version = 1;
      begin = 0;
      rounds = rounds;
      threshold = 0;
      devices = disk ∷ [];
    }

-- a device that writes one byte into the BAR of device 1, at offset 16
abbrev pub writer : DevShape
writer =
    record {
      name = 97 ∷ [];
      flags = 3;
      bars = 64 ∷ [];
      window = 1;
      tells = true;
      budget = 1;
      fails = 0;
      jobs = Write 268959760 (7 ∷ []) ∷ [];
      queue = 0 ∷ [];
    }

-- one whose BAR is read while it runs
abbrev pub target : DevShape
target =
    record {
      name = 98 ∷ [];
      flags = 7;
      bars = 64 ∷ [];
      window = 1;
      tells = true;
      budget = 0;
      fails = 0;
      jobs = [];
      queue = [];
    }

-- a machine of one page with these two
abbrev pub pair : Desc
pair =
    record {
      session = 7;
      page = 16;
      pages = 1;
      channels = 1;
      version = 1;
      begin = 0;
      rounds = 1;
      threshold = 0;
      devices = writer ∷ target ∷ [];
    }

-- the disk is marked for its second write when that is issued, so the report (place 8) takes the mark away
-- before the write comes; the last pass goes on to the block (place 19) as if no page were left
abbrev pub marks_at_issue : List Entry
marks_at_issue =
    Begin ∷ Pass 1 ∷ Copy 0 ∷ Copy 1 ∷ Issue 0 0 ∷ Deliver 0 0 ∷ Complete 0 0 ∷ Issue 0 1 ∷ Report 0
    ∷ Pass 2 ∷ Copy 0 ∷ Deliver 0 1 ∷ Complete 0 1 ∷ Hold 0 Stop ∷ Arc 0 Stop ∷ Arc 0 StopCopy ∷ Joint
    ∷ Report 0 ∷ Pass 3 ∷ Block 0 0 ∷ []

-- the disk reports again (place 8) before the pass that its first report was for
abbrev pub reports_twice : List Entry
reports_twice =
    Begin ∷ Pass 1 ∷ Copy 0 ∷ Copy 1 ∷ Issue 0 0 ∷ Deliver 0 0 ∷ Complete 0 0 ∷ Report 0 ∷ Report 0
    ∷ Pass 2 ∷ Hold 0 Stop ∷ Arc 0 Stop ∷ Arc 0 StopCopy ∷ Joint ∷ Report 0 ∷ Pass 3 ∷ Block 0 0 ∷ []

-- the last pass begins (place 11) with no report
abbrev pub passes_unreported : List Entry
passes_unreported =
    Begin ∷ Pass 1 ∷ Copy 0 ∷ Copy 1 ∷ Issue 0 0 ∷ Deliver 0 0 ∷ Complete 0 0 ∷ Hold 0 Stop ∷ Arc 0 Stop
    ∷ Arc 0 StopCopy ∷ Joint ∷ Pass 2 ∷ Block 0 0 ∷ []

-- the disk reports for the last pass (place 4) before it has stopped
abbrev pub reports_early : List Entry
reports_early =
    Begin ∷ Pass 1 ∷ Copy 0 ∷ Copy 1 ∷ Report 0 ∷ Issue 0 0 ∷ Deliver 0 0 ∷ Complete 0 0 ∷ Hold 0 Stop
    ∷ Arc 0 Stop ∷ Arc 0 StopCopy ∷ Joint ∷ Pass 2 ∷ Block 0 0 ∷ []

-- page 1 is copied (place 9) before page 0, which is then taken as copied
abbrev pub skips_a_page : List Entry
skips_a_page =
    Begin ∷ Issue 0 0 ∷ Deliver 0 0 ∷ Complete 0 0 ∷ Hold 0 Stop ∷ Arc 0 Stop ∷ Arc 0 StopCopy ∷ Joint
    ∷ Pass 1 ∷ Copy 1 ∷ Block 0 0 ∷ []

-- the block that was written after it was read is taken as read (place 22)
abbrev pub forgets_a_block : List Entry
forgets_a_block =
    Begin ∷ Arc 1 PreCopy ∷ Pass 1 ∷ Copy 0 ∷ Block 1 0 ∷ Issue 0 0 ∷ Deliver 0 0 ∷ Complete 0 0
    ∷ Hold 0 RunningP2p ∷ Arc 0 RunningP2p ∷ Hold 1 PreCopyP2p ∷ Arc 1 PreCopyP2p ∷ Hold 0 Stop
    ∷ Arc 0 Stop ∷ Hold 1 StopCopy ∷ Arc 1 StopCopy ∷ Arc 0 StopCopy ∷ Joint ∷ Report 0 ∷ Report 1
    ∷ Pass 2 ∷ Block 0 0 ∷ Dry 1 ∷ []

-- the destination takes over (place 11) after a pass that ended before the joint stop
abbrev pub resumes_early : List Entry
resumes_early =
    Begin ∷ Pass 1 ∷ Copy 0 ∷ Copy 1 ∷ Issue 0 0 ∷ Deliver 0 0 ∷ Complete 0 0 ∷ Hold 0 Stop ∷ Arc 0 Stop
    ∷ Arc 0 StopCopy ∷ Joint ∷ Resume ∷ []

-- the destination takes over (place 13) in the middle of the last pass
abbrev pub resumes_in_pass : List Entry
resumes_in_pass =
    Begin ∷ Pass 1 ∷ Copy 0 ∷ Copy 1 ∷ Issue 0 0 ∷ Deliver 0 0 ∷ Complete 0 0 ∷ Hold 0 Stop ∷ Arc 0 Stop
    ∷ Arc 0 StopCopy ∷ Joint ∷ Report 0 ∷ Pass 2 ∷ Resume ∷ []

-- what the first of these is when the page is copied again: legal, and nothing is lost
abbrev pub copies_again : List Entry
copies_again =
    Begin ∷ Pass 1 ∷ Copy 0 ∷ Copy 1 ∷ Issue 0 0 ∷ Deliver 0 0 ∷ Complete 0 0 ∷ Issue 0 1 ∷ Report 0
    ∷ Pass 2 ∷ Copy 0 ∷ Deliver 0 1 ∷ Complete 0 1 ∷ Hold 0 Stop ∷ Arc 0 Stop ∷ Arc 0 StopCopy ∷ Joint
    ∷ Report 0 ∷ Pass 3 ∷ Copy 0 ∷ Block 0 0 ∷ Resume ∷ []
