-- The words are those that were made.
use Rattle.vfm_status.proofs.line.put_link_fault.Goals as goal

pub returns-in-Source : goal.returns-in-Source
returns-in-Source g c = rw (c.in-Source.is, ← c.from.ensures, ← c.number_text.ensures, ← c.as_slice.ensures) c.put_line-in-Source.ensures

pub returns-in-Destination : goal.returns-in-Destination
returns-in-Destination g c = rw (c.in-Destination.is, ← c.from-in-Destination.ensures, ← c.number_text-in-Destination.ensures, ← c.as_slice-in-Destination.ensures) c.put_line-in-Destination.ensures

pub returns-in-Control : goal.returns-in-Control
returns-in-Control g c = rw (c.in-Control.is) c.put_line-in-Control.ensures
