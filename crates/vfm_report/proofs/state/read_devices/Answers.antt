-- One of a row more, or a bad line.
use Rattle.std.proofs.Common.{◌+◌, ◌-◌, List, ◌++◌, ◌∙◌, ap, sym, arith}
use Rattle.std.proofs.lemmas.Result.{err_from_is_err_and}
use Rattle.vfm_report.specs.LineList.{lines_left}
use Rattle.vfm_types.specs.Desc.{device_count}
use Rattle.vfm_types.specs.Machine.{DeviceState}
use Rattle.vfm_report.specs.Found.{found_map, row}
use Rattle.vfm_report.specs.Readers.{device_reader}
use Rattle.vfm_report.proofs.Steps.{row-step, row-stop, stops}
use Rattle.vfm_report.proofs.state.read_devices.Goals as goal

pub returns-in_err-device : goal.returns-in_err-device
returns-in_err-device c =
    let p = err_from_is_err_and c.from_residual.result c.from_residual.ensures.1 in
    let D = c.args.desc.now in
    let reader = device_reader D in
    rw (p.1, p.2) (stops (λ (x : DeviceState). x) (λ (xs : List DeviceState). xs) c.in_err-device.field-0.0 (lines_left c.read_device.new.lines) (reader c.loop-d.d (lines_left c.loop-d.lines)) _ c.in_err-device.ensures (λ bad.
    c.loop-d.invariant ∙ row-stop reader (device_count D) c.loop-d.d c.loop-d.devices.items (lines_left c.loop-d.lines) (lines_left c.read_device.new.lines) (omega (arith, c.loop-d-test.true, c.len-d-end.ensures)) bad))

pub loop-d-preserved : goal.loop-d-preserved
loop-d-preserved c =
    let D = c.args.desc.now in
    let reader = device_reader D in
    let more = rw c.if-is_err.ensures.negation at c.push.ensures.items in
    c.loop-d.invariant
    ∙ row-step reader (device_count D) c.loop-d.d c.loop-d.devices.items (lines_left c.loop-d.lines) (lines_left c.read_device.new.lines) c.in_ok-device.device (omega (arith, c.loop-d-test.true, c.len-d-end.ensures)) c.in_ok-device.ensures
    ∙ ap (λ (items : List (DeviceState)). found_map (λ zs. items ++ zs) (row reader (device_count D - (c.loop-d.d + 1)) (c.loop-d.d + 1) (lines_left c.read_device.new.lines))) (sym more)
