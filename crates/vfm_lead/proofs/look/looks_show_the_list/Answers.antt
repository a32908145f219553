-- Field by field.
use Rattle.vfm_lead.proofs.ShownList.{shown_alike}
use Rattle.vfm_lead.proofs.look.looks_show_the_list.Goals as goal

pub returns : goal.returns
returns c = shown_alike
