-- What a delivery makes of the devices and of the pages, where it is known at what its request is aimed.
use Rattle.std.specs.Prelude.{ℕ, List, [], slice_index_or, slice_set}
use Rattle.vfm_types.specs.declared.desc.Desc.{Desc}
use Rattle.vfm_parts.specs.Parts.{Dev}
use Rattle.vfm_parts.specs.DeliverStep.{delivered_dev, job_in, page_after_job, struck_dev}
use Rattle.vfm_lead.specs.LeadSteps.{dev_of_list}

-- the devices with request n of device d delivered, where its target had these bytes
abbrev pub with_delivered : Desc → ℕ → ℕ → List ℕ → List Dev → List Dev
with_delivered D d n target devs = slice_set devs d (delivered_dev D d n target (dev_of_list devs d))

-- the pages with page p as request n of a device d makes it
abbrev pub with_page_written : Desc → ℕ → ℕ → ℕ → Dev → List (List ℕ) → List (List ℕ)
with_page_written D d n p own pages = slice_set pages p (page_after_job D (job_in D d n own) own.plain.buf (slice_index_or pages p []))

-- the devices with request n of device d delivered into the BARs of device t
abbrev pub with_struck : Desc → ℕ → ℕ → ℕ → List Dev → List Dev
with_struck D d n t devs =
    let own = dev_of_list devs d in
    slice_set (with_delivered D d n (dev_of_list devs t).plain.bar devs) t (struck_dev D t (job_in D d n own) own.plain.buf (dev_of_list devs t))
