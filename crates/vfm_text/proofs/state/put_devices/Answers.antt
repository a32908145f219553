-- A device more, and a device that stops the writer.
use Rattle.std.proofs.Common.{add-one, zero-add, arith}
use Rattle.std.proofs.lemmas.Result.{err_from_is_err_and}
use Rattle.vfm_types.specs.Machine.{no_device}
use Rattle.vfm_plain.specs.StateText.{described_text}
use Rattle.vfm_text.proofs.Parts.{numbered-more, numbered-parts}
use Rattle.vfm_text.proofs.state.put_devices.Goals as goal

pub returns-in_err-put_device : goal.returns-in_err-put_device
returns-in_err-put_device g c =
    let p = err_from_is_err_and c.from_residual.result c.from_residual.ensures.1 in
    let writer = g.met.P.TextWriter in
    rw (p.1, numbered-parts (described_text c.args.desc.now) 0 (g.M.MachineView.machine c.args.machine.now).devices c.loop-d.d no_device (omega arith), zero-add) (
    writer.stop_before _ _ _ _ (writer.stop_after _ _ _ _ _ c.loop-d.invariant c.in_err-put_device.ensures)
    )

pub loop-d-preserved : goal.loop-d-preserved
loop-d-preserved g c =
    rw (add-one, numbered-more (described_text c.args.desc.now) 0 (g.M.MachineView.machine c.args.machine.now).devices c.loop-d.d no_device (omega arith), zero-add) (
    g.met.P.TextWriter.more _ _ _ _ _ c.loop-d.invariant c.in_ok-put_device.ensures
    )
