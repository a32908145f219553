-- What the parts show.
use Rattle.std.proofs.Common.{subst}
use Rattle.vfm_types.specs.Valid.{IsValid}
use Rattle.vfm_parts.specs.Parts.{World, parts_in}
use Rattle.vfm_lead.specs.Shown.{Shows}
use Rattle.vfm_lead.proofs.ShownList.{shown_alike}
use Rattle.vfm_core.specs.CoreState.{CoreState}
use Rattle.vfm_core.proofs.ShownWorld.{shows_world}
use Rattle.vfm_core.proofs.StagedLook.{staged_alike}
use Rattle.vfm_core.proofs.machine.Core.look.Goals as goal

pub returns-clause-shows : goal.returns-clause-shows
returns-clause-shows c =
    subst (λ (s : CoreState). Shows s.desc (parts_in s.world) c.look_of.result) c.self.view_is
    (shows_world c.self.inside.desc c.self.inside.lead c.self.inside.devices.items c.self.inside.pages.items c.look_of.result
    (rw c.as_slice.ensures.value at c.look_of.ensures))

pub returns-clause-follows : goal.returns-clause-follows
returns-clause-follows c = λ past is.
    shown_alike c.args.self.now.desc past c.look_of.result
    (subst (λ (s : CoreState). IsValid s.desc) c.self.view_is c.self.invariant.fit.valid)
    (subst (λ (w : World). Shows c.args.self.now.desc (parts_in w) c.look_of.result) is.told (returns-clause-shows c))

pub returns-clause-staged : goal.returns-clause-staged
returns-clause-staged c = λ before mine is.
    staged_alike c.args.self.now.desc before mine c.args.self.now.world
    (subst (λ (s : CoreState). IsValid s.desc) c.self.view_is c.self.invariant.fit.valid) is c.look_of.result (returns-clause-shows c)
