-- The words are those that were made.
use Rattle.vfm_status.proofs.line.put_status.Goals as goal

pub returns-in-Unconfirmed : goal.returns-in-Unconfirmed
returns-in-Unconfirmed g c =
    rw (c.in-Unconfirmed.is, ← c.digits_text.ensures, ← c.digits_text-in-Unconfirmed.ensures, ← c.as_slice-in-Unconfirmed.ensures, ← c.as_slice-in-Unconfirmed-2.ensures)
    c.put_line-in-Unconfirmed.ensures

pub returns-in-ArcFailed : goal.returns-in-ArcFailed
returns-in-ArcFailed g c =
    rw (c.in-ArcFailed.is, ← c.d.view_is, ← c.from-in-ArcFailed.ensures, ← c.number_text-in-ArcFailed.ensures, ← c.as_slice-in-ArcFailed.ensures, ← c.state_name.ensures)
    c.put_line-in-ArcFailed.ensures

pub returns-in-NoControl : goal.returns-in-NoControl
returns-in-NoControl g c = rw (c.in-NoControl.is, ← c.heard_text.ensures, ← c.as_slice-in-NoControl.ensures) c.put_line-in-NoControl.ensures

pub returns-in-NoMemory : goal.returns-in-NoMemory
returns-in-NoMemory g c = rw (c.in-NoMemory.is) c.put_line-in-NoMemory.ensures

pub returns-in-StateDiffers : goal.returns-in-StateDiffers
returns-in-StateDiffers g c = rw (c.in-StateDiffers.is, ← c.section.ensures) c.put_line-in-StateDiffers.ensures
