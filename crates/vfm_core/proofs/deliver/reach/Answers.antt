-- The devices and the pages by what the request is aimed at.
use Rattle.std.proofs.Common.{◌∙◌}
use Rattle.vfm_core.proofs.Outcomes.{then_ok}
use Rattle.vfm_core.proofs.Reached.{page_devs, page_pages, bar_devs, bar_pages}
use Rattle.vfm_core.proofs.deliver.reach.Goals as goal

pub returns-in-Page-clause-devices : goal.returns-in-Page-clause-devices
returns-in-Page-clause-devices c = λ lead. then_ok c.to_page.result
    (λ made. made ∙ page_devs c.args.desc.now lead c.args.devices.now c.args.pages.now c.args.d c.args.n c.requires.devices.count c.requires.pages.count c.in-Page.p (c.requires.aimed ∙ c.in-Page.is))
    c.to_page.ensures.devices

pub returns-in-Page-clause-pages : goal.returns-in-Page-clause-pages
returns-in-Page-clause-pages c = λ lead. then_ok c.to_page.result
    (λ made. made ∙ page_pages c.args.desc.now lead c.args.devices.now c.args.pages.now c.args.d c.args.n c.requires.devices.count c.requires.pages.count c.in-Page.p (c.requires.aimed ∙ c.in-Page.is))
    c.to_page.ensures.pages

pub returns-in-Bar-clause-devices : goal.returns-in-Bar-clause-devices
returns-in-Bar-clause-devices c = λ lead. then_ok c.to_device.result
    (λ made. made ∙ bar_devs c.args.desc.now lead c.args.devices.now c.args.pages.now c.args.d c.args.n c.requires.devices.count c.requires.pages.count c.in-Bar.t (c.requires.aimed ∙ c.in-Bar.is) (let there = rw c.in-Bar.is at c.requires.there in there.1))
    c.to_device.ensures.devices

pub returns-in-Bar-clause-pages : goal.returns-in-Bar-clause-pages
returns-in-Bar-clause-pages c = λ lead. then_ok c.to_device.result
    (λ made. bar_pages c.args.desc.now lead c.args.devices.now c.args.pages.now c.args.d c.args.n c.requires.devices.count c.requires.pages.count c.in-Bar.t (c.requires.aimed ∙ c.in-Bar.is))
    c.to_device.ensures.devices
