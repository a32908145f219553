-- A BAR more.
use Rattle.std.proofs.Common.{◌∙◌}
use Rattle.vfm_report.specs.LineList.{lines_left}
use Rattle.vfm_report.proofs.Steps.{numbered-step}
use Rattle.vfm_report.proofs.device.read_several_bars.Goals as goal

pub loop-k-preserved : goal.loop-k-preserved
loop-k-preserved c =
    c.loop-k.invariant
    ∙ numbered-step c.args.d c.loop-k.k c.args.sizes.now c.loop-k.bytes.items c.append_bar.new.bytes.items (lines_left c.loop-k.lines)
    (lines_left c.append_bar.new.lines) c.loop-k-test.true c.in_ok-append_bar.ensures
