-- The words are those that were made.
use Rattle.vfm_status.proofs.line.put_doubt.Goals as goal

pub returns-in-NoGo : goal.returns-in-NoGo
returns-in-NoGo g c = rw (c.in-NoGo.is, ← c.heard_text.ensures, ← c.as_slice.ensures) c.put_line-in-NoGo.ensures

pub returns-in-Other : goal.returns-in-Other
returns-in-Other g c =
    rw (c.in-Other.is, ← c.digits_text.ensures, ← c.digits_text-in-Other.ensures, ← c.as_slice-in-Other.ensures, ← c.as_slice-in-Other-2.ensures) c.put_line-in-Other.ensures
