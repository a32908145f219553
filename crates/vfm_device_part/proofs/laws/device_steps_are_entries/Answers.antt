use Rattle.vfm_device_part.proofs.Entries.{fault_is, lead_is, no_device_is, no_page_is, own_is, own_pages_are, to_device_is, to_page_is}
use Rattle.vfm_device_part.proofs.laws.device_steps_are_entries.Goals as goal

pub returns-clause-fault : goal.returns-clause-fault
returns-clause-fault c = fault_is

pub returns-clause-lead : goal.returns-clause-lead
returns-clause-lead c = lead_is

pub returns-clause-own : goal.returns-clause-own
returns-clause-own c = own_is

pub returns-clause-own_pages : goal.returns-clause-own_pages
returns-clause-own_pages c = own_pages_are

pub returns-clause-to_device : goal.returns-clause-to_device
returns-clause-to_device c = to_device_is

pub returns-clause-no_page : goal.returns-clause-no_page
returns-clause-no_page c = no_page_is

pub returns-clause-to_page : goal.returns-clause-to_page
returns-clause-to_page c = to_page_is

pub returns-clause-no_device : goal.returns-clause-no_device
returns-clause-no_device c = no_device_is
