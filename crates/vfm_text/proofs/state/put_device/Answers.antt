-- The lines of a device, one after another.
use Rattle.std.proofs.Common.{◌++◌}
use Rattle.std.specs.List.{flat_map}
use Rattle.std.proofs.lemmas.Result.{err_from_is_err_and, MatchResult-weaker}
use Rattle.vfm_types.specs.Desc.{shape_at}
use Rattle.vfm_types.specs.Machine.{device_of}
use Rattle.vfm_plain.specs.StateText.{counts_line, buf_line, bars_text, pending_line}
use Rattle.vfm_text.proofs.state.put_device.Goals as goal

pub returns-in_err-put_counts : goal.returns-in_err-put_counts
returns-in_err-put_counts g c =
    let p = err_from_is_err_and c.from_residual.result c.from_residual.ensures.1 in
    let writer = g.met.P.TextWriter in
    let device = device_of (g.M.MachineView.machine c.args.machine.now) c.args.d in
    let counts = counts_line c.args.d (shape_at c.args.desc.now c.args.d).name device in
    let buf = buf_line c.args.d device in
    let bar = bars_text c.args.d (shape_at c.args.desc.now c.args.d).bars device.bar in
    rw (p.1) (writer.stop_before _ _ (counts ++ buf ++ bar) (flat_map (pending_line c.args.d) device.pending) (writer.stop_before _ _ (counts ++ buf) bar (writer.stop_before _ _ counts buf c.in_err-put_counts.ensures)))

pub returns-in_err-put_buf : goal.returns-in_err-put_buf
returns-in_err-put_buf g c =
    let p = err_from_is_err_and c.from_residual-in_err-put_buf.result c.from_residual-in_err-put_buf.ensures.1 in
    let writer = g.met.P.TextWriter in
    let device = device_of (g.M.MachineView.machine c.args.machine.now) c.args.d in
    let counts = counts_line c.args.d (shape_at c.args.desc.now c.args.d).name device in
    let buf = buf_line c.args.d device in
    let bar = bars_text c.args.d (shape_at c.args.desc.now c.args.d).bars device.bar in
    rw (p.1) (writer.stop_before _ _ (counts ++ buf ++ bar) (flat_map (pending_line c.args.d) device.pending) (writer.stop_before _ _ (counts ++ buf) bar (writer.stop_after _ _ _ counts buf c.in_ok-put_counts.ensures c.in_err-put_buf.ensures)))

pub returns-in_err-put_bars : goal.returns-in_err-put_bars
returns-in_err-put_bars g c =
    let p = err_from_is_err_and c.from_residual-in_err-put_bars.result c.from_residual-in_err-put_bars.ensures.1 in
    let writer = g.met.P.TextWriter in
    let device = device_of (g.M.MachineView.machine c.args.machine.now) c.args.d in
    let counts = counts_line c.args.d (shape_at c.args.desc.now c.args.d).name device in
    let buf = buf_line c.args.d device in
    let bar = bars_text c.args.d (shape_at c.args.desc.now c.args.d).bars device.bar in
    rw (p.1) (writer.stop_before _ _ (counts ++ buf ++ bar) (flat_map (pending_line c.args.d) device.pending) (writer.stop_after _ _ _ (counts ++ buf) bar (writer.more _ _ _ counts buf c.in_ok-put_counts.ensures c.in_ok-put_buf.ensures) c.in_err-put_bars.ensures))

pub returns : goal.returns
returns g c =
    let writer = g.met.P.TextWriter in
    let device = device_of (g.M.MachineView.machine c.args.machine.now) c.args.d in
    let counts = counts_line c.args.d (shape_at c.args.desc.now c.args.d).name device in
    let buf = buf_line c.args.d device in
    let bar = bars_text c.args.d (shape_at c.args.desc.now c.args.d).bars device.bar in
    let before = writer.more _ _ _ (counts ++ buf) bar (writer.more _ _ _ counts buf c.in_ok-put_counts.ensures c.in_ok-put_buf.ensures) c.in_ok-put_bars.ensures in
    rw (← c.pending.ensures) (
    MatchResult-weaker c.put_pending.result c.put_pending.ensures
    (λ _ h. writer.more _ _ _ (counts ++ buf ++ bar) (flat_map (pending_line c.args.d) c.pending.result.now) before h)
    (λ _ h. writer.stop_after _ _ _ (counts ++ buf ++ bar) (flat_map (pending_line c.args.d) c.pending.result.now) before h)
    )
