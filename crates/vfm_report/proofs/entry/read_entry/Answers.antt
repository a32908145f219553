-- What the words say is what the line says.
use Rattle.vfm_report.proofs.EntryWords.{exact}
use Rattle.vfm_report.proofs.entry.read_entry.Goals as goal

pub returns : goal.returns
returns c = exact c.args.line.now c.entry_of.result c.entry_of.ensures
