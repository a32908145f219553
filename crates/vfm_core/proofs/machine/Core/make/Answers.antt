-- There is room for the entry, and the parts after it are kept.
use Rattle.std.proofs.Common.{drop, length, IsTrue, sym, subst, ◌∙◌}
use Rattle.vfm_plain.specs.Legal.{is_entry_of}
use Rattle.vfm_core.specs.CoreState.{CoreState, world_with}
use Rattle.vfm_core.proofs.Kept.{one_more, kept_after, written_back}
use Rattle.vfm_core.proofs.machine.Core.make.Goals as goal

pub push-requires : goal.push-requires
push-requires c =
    let named = subst (λ (s : CoreState). IsTrue (is_entry_of s.desc c.args.e)) (sym c.self.view_is) c.requires in
    let fine = rw (c.as_mut_slice.ensures.value, c.as_mut_slice-2.ensures.value) at c.in_ok-step_parts.ensures.guard in
    one_more c.self.inside.desc c.self.inside.journal.entries c.self.inside.journal.room
    (world_with c.self.inside.lead c.self.inside.devices.items c.self.inside.pages.items) c.args.e c.self.invariant named fine

pub invariant_of-self-2 : goal.invariant_of-self-2
invariant_of-self-2 c =
    let named = subst (λ (s : CoreState). IsTrue (is_entry_of s.desc c.args.e)) (sym c.self.view_is) c.requires in
    let fine = rw (c.as_mut_slice.ensures.value, c.as_mut_slice-2.ensures.value) at c.in_ok-step_parts.ensures.guard in
    let done = rw (c.as_mut_slice.ensures.value, c.as_mut_slice-2.ensures.value) at c.in_ok-step_parts.ensures.done in
    let devices = written_back c.self.inside.devices.len c.step_parts.new.devices (drop (length c.step_parts.new.devices) c.self.inside.devices.items) (c.step_parts.auto.devices ∙ c.as_mut_slice.ensures.len) in
    let pages = written_back c.self.inside.pages.len c.step_parts.new.pages (drop (length c.step_parts.new.pages) c.self.inside.pages.items) (c.step_parts.auto.pages ∙ c.as_mut_slice-2.ensures.len) in
    rw (c.push.ensures.entries, c.push.ensures.room, devices, pages, done)
    (kept_after c.self.inside.desc c.self.inside.journal.entries c.self.inside.journal.room
    (world_with c.self.inside.lead c.self.inside.devices.items c.self.inside.pages.items) c.args.e c.self.invariant named fine)
