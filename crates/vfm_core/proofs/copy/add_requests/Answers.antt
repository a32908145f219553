-- One request after the other.
use Rattle.std.proofs.Common.{slice_index_or, take, refl, ap, sym, ◌∙◌}
use Rattle.vfm_types.specs.Machine.{device_of, with_device}
use Rattle.vfm_core.specs.Copied.{grown_by}
use Rattle.vfm_core.proofs.Copies.{changed_again, grown_more, grown_none, grown_one, not_changed}
use Rattle.vfm_core.proofs.copy.add_requests.Goals as goal

pub loop-k-init : goal.loop-k-init
loop-k-init c =
    not_changed c.args.into.now c.args.d
    ∙ ap (with_device c.args.into.now c.args.d) (sym (grown_none (device_of c.args.into.now c.args.d)))

pub loop-k-preserved : goal.loop-k-preserved
loop-k-preserved c =
    let r = slice_index_or c.args.pending.now c.loop-k.k (0, 0) in
    changed_again c.args.into.now c.loop-k.into c.add_pending.new.self c.args.d (grown_by (take c.loop-k.k c.args.pending.now) (device_of c.args.into.now c.args.d))
    (grown_one r.0 r.1) c.requires.there c.loop-k.invariant c.add_pending.ensures
    ∙ ap (with_device c.args.into.now c.args.d)
    (grown_more (device_of c.args.into.now c.args.d) c.args.pending.now c.loop-k.k r.0 r.1 c.loop-k-test.true refl)
