-- The device is changed four times.
use Rattle.std.proofs.Common.{◌≡◌, ℕ, [], ap, sym, ◌∙◌}
use Rattle.vfm_types.specs.Machine.{DeviceState, device_of, with_device}
use Rattle.vfm_core.specs.Copied.{grown_by}
use Rattle.vfm_core.proofs.Copies.{changed_again}
use Rattle.vfm_core.proofs.copy.copy_device.Goals as goal

whole : (c : goal.After-add_requests)
    → grown_by c.pending.result.now (record { bar = c.bar.result.now; pending = []; buf = c.buf.result.now; accepted = c.counts-done.result.1; done = c.counts-done.result.1; lost = c.counts-done.result.2 })
    ≡ c.args.device.now.plain
whole c =
    rw (c.bar.ensures, c.buf.ensures, c.counts-done.ensures.done, c.counts-done.ensures.lost, c.pending.ensures)
    (ap (λ (accepted : ℕ). record c.args.device.now.plain { accepted = accepted }) (sym c.requires.room.accepted))

pub returns : goal.returns
returns c =
    let m = c.args.into.now in
    let d = c.args.d in
    let old = device_of m d in
    let bars : DeviceState = record old { bar = c.bar.result.now } in
    let bufs : DeviceState = record bars { buf = c.buf.result.now } in
    let none : DeviceState = record bufs { pending = []; accepted = c.counts-done.result.1; done = c.counts-done.result.1; lost = c.counts-done.result.2 } in
    let second = changed_again m c.set_bar.new.self c.set_buf.new.self d bars (λ (x : DeviceState). record x { buf = c.buf.result.now }) c.requires.there c.set_bar.ensures c.set_buf.ensures in
    let third = changed_again m c.set_buf.new.self c.restart.new.self d bufs
    (λ (x : DeviceState). record x { pending = []; accepted = c.counts-done.result.1; done = c.counts-done.result.1; lost = c.counts-done.result.2 })
    c.requires.there second c.restart.ensures in
    let fourth = changed_again m c.restart.new.self c.add_requests.new.into d none (grown_by c.pending.result.now) c.requires.there third c.add_requests.ensures in
    fourth ∙ ap (with_device m d) (whole c)
