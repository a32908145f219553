-- Either kind of words is answered as it is to be.
use Rattle.std.proofs.Common.{arith, refl, sym, ◌∙◌, ap}
use Rattle.vfm_top.specs.Outcome.{made_of, status_of}
use Rattle.vfm_top.proofs.Promises.{asked_load, asked_run, with_load, with_move}
use Rattle.vfm_top.proofs.call.run.Goals as goal

pub returns-in-Some : goal.returns-in-Some
returns-in-Some g c = c.in-Some.ensures.promises _

pub returns-in-Some-load_number : goal.returns-in-Some-load_number
returns-in-Some-load_number g c =
    let here = c.in-None.ensures in
    let outcome = c.outcome_of_load in
    let form = asked_load _ c.in-Some-load_number.number (sym c.load_number.ensures ∙ c.in-Some-load_number.is) in
    with_load _ c.in-Some-load_number.number (status_of outcome.result) (made_of outcome.result) form (omega arith)
    (outcome.ensures.outcome _
    (record { asked = form; small = omega arith; wires_before = refl; wires_now = refl; unread = here.unread refl; unaudited = here.untouched refl }))
    (here.unread refl) (here.untouched refl)
    (rw (← here.unwritten refl) c.print_load.ensures)

pub returns-in-None-load_number : goal.returns-in-None-load_number
returns-in-None-load_number g c =
    let here = c.in-None.ensures in
    let outcome = c.outcome_of_source in
    let unread = here.unread refl in
    let form = asked_run _ (here.machine.0 refl) c.abort_after.result c.abort_after.ensures (sym c.load_number.ensures ∙ c.in-None-load_number.is) in
    with_move _ c.abort_after.result (status_of outcome.result) (made_of outcome.result) form
    (outcome.ensures.outcome _
    (record { asked = form; before = sym unread; now = refl; wires_before = refl; wires_now = refl; unaudited = here.untouched refl }))
    (rw (← unread) outcome.ensures.read)
    (here.untouched refl)
    (rw (← here.unwritten refl) c.print_outcome.ensures)
