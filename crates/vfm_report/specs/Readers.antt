-- The readers of a report's parts.
use Rattle.std.specs.Prelude.{ℕ, ◌+◌, ◌&&◌, List, [], ◌∷◌, ◌++◌, length, Option, Some, None, codes, if◌then◌else◌}
use Rattle.vfm_types.specs.declared.entry.Entry.{Entry}
use Rattle.vfm_types.specs.declared.desc.Desc.{Desc}
use Rattle.vfm_types.specs.Desc.{device_count, shape_at}
use Rattle.vfm_types.specs.Machine.{DeviceState, Machine}
use Rattle.vfm_plain.specs.Legal.{is_entry_of}
use Rattle.vfm_plain.specs.Report.{Made}
use Rattle.vfm_report.specs.Split.{is_without, words_of}
use Rattle.vfm_report.specs.Entries.{entry_of_line}
use Rattle.vfm_report.specs.StateLines.{hex_of, named_word, counts_of, bar_word, pending_of}
use Rattle.vfm_report.specs.StatusLine.{is_status_line}
use Rattle.vfm_report.specs.Found.{Read, Reader, found_map, one_line, this_line, many_lines, in_turn, row, titled}

-- the bytes of a word that there is, where it has so many
abbrev pub bytes_if : ℕ → Option (List ℕ) → Option (List ℕ)
bytes_if size None = None
bytes_if size (Some word) = hex_of size word

-- what a line says: of page p, of a device's counts, its buffer, its only BAR, one of several, a pending request
abbrev pub page_in : Desc → ℕ → List ℕ → Option (List ℕ)
page_in D p l = bytes_if D.page (named_word (codes "page") p (words_of l))

abbrev pub counts_in : Desc → ℕ → List ℕ → Option (ℕ × ℕ × ℕ)
counts_in D d l = counts_of d (shape_at D d).name (words_of l)

abbrev pub buf_in : ℕ → List ℕ → Option (List ℕ)
buf_in d l = bytes_if 64 (named_word (codes "buf") d (words_of l))

abbrev pub only_bar_in : ℕ → ℕ → List ℕ → Option (List ℕ)
only_bar_in d size l = bytes_if size (named_word (codes "bar") d (words_of l))

abbrev pub bar_in : ℕ → ℕ → ℕ → List ℕ → Option (List ℕ)
bar_in d k size l = bytes_if size (bar_word d k (words_of l))

abbrev pub pending_in : Desc → ℕ → List ℕ → Option (ℕ × ℕ)
pending_in D d l = pending_of d (length (shape_at D d).jobs) (words_of l)

-- an entry that there is, where its numbers are below their counts
abbrev pub entry_if : Desc → Option Entry → Option Entry
entry_if D None = None
entry_if D (Some e) = if is_entry_of D e then Some e else None

abbrev pub entry_in : Desc → List ℕ → Option Entry
entry_in D l = entry_if D (entry_of_line l)

-- a status line, which has no line feed and is kept as it is
abbrev pub status_in : Desc → List ℕ → Option (List ℕ)
status_in D l = if is_without 10 l && is_status_line D l then Some l else None

-- the bytes of BARs of these sizes, numbered from k on
abbrev pub numbered_bars : ℕ → ℕ → List ℕ → Reader (List ℕ)
numbered_bars d k [] lines = Read [] lines
numbered_bars d k (size ∷ sizes) lines =
    found_map (λ p. p.0 ++ p.1) (in_turn (one_line (bar_in d k size)) (numbered_bars d (k + 1) sizes) lines)

-- the bytes of all BARs of device d, which have these sizes
abbrev pub bars_reader : ℕ → List ℕ → Reader (List ℕ)
bars_reader d (size ∷ []) lines = one_line (only_bar_in d size) lines
bars_reader d sizes lines = numbered_bars d 0 sizes lines

-- a device from what its lines say
abbrev pub device_from : (ℕ × ℕ × ℕ) × (List ℕ × (List ℕ × List (ℕ × ℕ))) → DeviceState
device_from p =
    record {
      bar = p.1.1.0;
      pending = p.1.1.1;
      buf = p.1.0;
      accepted = p.0.0;
      done = p.0.1;
      lost = p.0.2;
    }

abbrev pub device_reader : Desc → ℕ → Reader DeviceState
device_reader D d lines =
    found_map device_from
    (in_turn (one_line (counts_in D d))
    (in_turn (one_line (buf_in d)) (in_turn (bars_reader d (shape_at D d).bars) (many_lines (pending_in D d)))) lines)

-- a machine from its pages and its devices
abbrev pub machine_from : List (List ℕ) × List DeviceState → Machine
machine_from p = record { pages = p.0; devices = p.1 }

-- the pages, and the devices
abbrev pub pages_reader : Desc → Reader (List (List ℕ))
pages_reader D = row (λ p. one_line (page_in D p)) D.pages 0

abbrev pub devices_reader : Desc → Reader (List DeviceState)
devices_reader D = row (device_reader D) (device_count D) 0

abbrev pub state_reader : Desc → Reader Machine
state_reader D lines = found_map machine_from (in_turn (pages_reader D) (devices_reader D) lines)

abbrev pub journal_reader : Desc → Reader (List Entry)
journal_reader D lines = many_lines (entry_in D) lines

-- what follows a status line, part by part
abbrev pub Parts : Type 0
Parts =
    Unit {0} × (List Entry × (Option Machine × (Option Machine × (Option (List Entry) × (Option Machine × Unit {0})))))

abbrev pub parts_reader : Desc → Reader Parts
parts_reader D =
    in_turn (this_line (codes "journal source"))
    (in_turn (journal_reader D)
    (in_turn (titled (codes "state joint") (state_reader D))
    (in_turn (titled (codes "state loaded") (state_reader D))
    (in_turn (titled (codes "journal destination") (journal_reader D))
    (in_turn (titled (codes "state final") (state_reader D)) (this_line (codes "end")))))))

-- the parts as what a run made
abbrev pub made_from : Desc → Parts → Made
made_from D p =
    record {
      desc = D;
      source = p.1.0;
      joint = p.1.1.0;
      loaded = p.1.1.1.0;
      destination = p.1.1.1.1.0;
      final = p.1.1.1.1.1.0;
    }

-- a whole report: a status line, and the parts
abbrev pub whole_reader : Desc → Reader (List ℕ × Parts)
whole_reader D = in_turn (one_line (status_in D)) (parts_reader D)
