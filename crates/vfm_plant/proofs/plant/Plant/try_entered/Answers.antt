-- What is picked is a step of the device that breaks no rule.
use Rattle.std.proofs.Common.{Some, ap, sym, ◌∙◌}
use Rattle.vfm_types.specs.declared.entry.Entry.{Entry}
use Rattle.vfm_device_part.specs.DeviceSteps.{own_fault}
use Rattle.vfm_cells.specs.Cells.{dev_or_none}
use Rattle.vfm_plant.proofs.Turns.{pick_allowed, same_device, own_step}
use Rattle.vfm_plant.proofs.plant.Plant.try_entered.Goals as goal

pub try_delivery-requires-clause-fine : goal.try_delivery-requires-clause-fine
try_delivery-requires-clause-fine c =
    let D = c.args.self.now.desc in
    let named = sym c.pick.ensures ∙ c.in-Some.is in
    let allowed = pick_allowed D c.args.d c.args.pick c.args.own c.in-Some.e c.requires.device c.requires.fits named in
    ap (λ (e : Entry). own_fault D e (dev_or_none c.args.own)) (sym (same_device c.args.d c.in-Deliver.d c.in-Deliver.n c.in-Some.e allowed.own c.in-Deliver.is)) ∙ allowed.fine

pub try_delivery-requires-clause-named : goal.try_delivery-requires-clause-named
try_delivery-requires-clause-named c =
    let D = c.args.self.now.desc in
    let named = sym c.pick.ensures ∙ c.in-Some.is in
    let allowed = pick_allowed D c.args.d c.args.pick c.args.own c.in-Some.e c.requires.device c.requires.fits named in
    named ∙ ap (λ (e : Entry). Some e) (same_device c.args.d c.in-Deliver.d c.in-Deliver.n c.in-Some.e allowed.own c.in-Deliver.is)

pub make_own-requires-clause-entry : goal.make_own-requires-clause-entry
make_own-requires-clause-entry c =
    let named = sym c.pick.ensures ∙ c.in-Some.is in
    let allowed = pick_allowed c.args.self.now.desc c.args.d c.args.pick c.args.own c.in-Some.e c.requires.device c.requires.fits named in
    own_step c.args.d c.in-Some.e allowed.own c.in_default-e.not-Deliver

pub make_own-requires-clause-fine : goal.make_own-requires-clause-fine
make_own-requires-clause-fine c =
    let named = sym c.pick.ensures ∙ c.in-Some.is in
    (pick_allowed c.args.self.now.desc c.args.d c.args.pick c.args.own c.in-Some.e c.requires.device c.requires.fits named).fine

pub make_own-requires-clause-named : goal.make_own-requires-clause-named
make_own-requires-clause-named c = sym c.pick.ensures ∙ c.in-Some.is
