-- Which bytes are a report, and which line is the first at which they are none.
use Rattle.std.specs.Prelude.{◌≡◌, ℕ, ◌+◌, ◌-◌, ◌≤◌, List, [], ◌∷◌, ◌++◌, length, take, Some, IsTrue, ◌⊎◌}
use Rattle.vfm_types.specs.declared.desc.Desc.{Desc}
use Rattle.vfm_plain.specs.Report.{Made, report_text}
use Rattle.vfm_report.specs.Split.{is_without}
use Rattle.vfm_report.specs.StatusLine.{is_status_line}
use Rattle.vfm_report.specs.Printed.{IsPrinted}
use Rattle.vfm_report.specs.LineList.{whole_lines, unlined}

-- The bytes are the report of what a run of the described machine made, under a status line, which stands there without
-- its line feed.
pub record IsReportUnder (D : Desc) (bytes status : List ℕ) (made : Made) : Type 0 where
  pub one_line : IsTrue (is_without 10 status)
  pub known : IsTrue (is_status_line D status)
  pub described : made.desc ≡ D
  pub printed : IsPrinted made
  pub text : bytes ≡ report_text (status ++ 10 ∷ []) (Some made)

-- they are a report of this
abbrev pub IsReport : Desc → List ℕ → Made → Type 0
IsReport D bytes made = (status : List ℕ) × IsReportUnder D bytes status made

-- some report begins with these bytes
abbrev pub BeginsReport : Desc → List ℕ → Type 0
BeginsReport D first = (rest : List ℕ) × (made : Made) × IsReport D (first ++ rest) made

-- the first n whole lines of the bytes, each with its line feed; fewer where there are fewer
abbrev pub first_lines : ℕ → List ℕ → List ℕ
first_lines n bytes = unlined (take n (whole_lines bytes))

-- Line k, counted from 1, is the first at which the bytes are no report: some report begins with the lines before it;
-- there is no such whole line, or none begins with it and those before it; and the bytes are no report.
pub record IsBadLine (D : Desc) (bytes : List ℕ) (k : ℕ) : Type 0 where
  pub from_one : 1 ≤ k
  pub within : k ≤ length (whole_lines bytes) + 1
  pub begins : BeginsReport D (first_lines (k - 1) bytes)
  pub bad : (k ≡ length (whole_lines bytes) + 1) ⊎ (BeginsReport D (first_lines k bytes) → ⊥)
  pub none : (made : Made) → IsReport D bytes made → ⊥
