-- What one more entry makes of facts, kind by kind.
use Rattle.std.proofs.Common.{◌≡◌, ℕ, ◌+◌, ◌==◌, Bool, true, false, if◌then◌else◌, IsTrue, List, ◌∷◌, Some, None, refl, ◌∙◌, arith}
use Rattle.vfm_types.specs.declared.state.MigState.{MigState}
use Rattle.vfm_types.specs.declared.entry.Entry.{Entry}
use Rattle.vfm_types.specs.declared.entry.Entry.TheVariants.{Hold, Arc, Fail, Begin, Joint, Abort, Resume}
use Rattle.vfm_laws.specs.Facts.{move_facts, move_facts_after, is_beside_move, DeviceFacts, device_facts, device_facts_after, is_beside_device}

pub move_after : (e : Entry) (past : List Entry) → move_facts (e ∷ past) ≡ move_facts_after e (move_facts past)
move_after Begin past = refl
move_after Joint past = refl
move_after Abort past = refl
move_after (Fail d to) past = refl
move_after Resume past = refl
move_after e past = refl

-- an entry that touches none of these facts keeps them
pub move_kept : (e : Entry) (past : List Entry) → IsTrue (is_beside_move e) → move_facts (e ∷ past) ≡ move_facts past
move_kept Begin past beside = absurd cc
move_kept Joint past beside = absurd cc
move_kept Abort past beside = absurd cc
move_kept (Fail d to) past beside = absurd cc
move_kept Resume past beside = absurd cc
move_kept e past beside = refl

-- the same with the test of the device's number opened
hold_by : (same : Bool) (to : MigState) (f : DeviceFacts)
    → record { state = f.state; hold = if same then Some to else f.hold; arcs = f.arcs } ≡ (if same then record f { hold = Some to } else f)
hold_by true to f = refl
hold_by false to f = refl

more_arcs : (f : DeviceFacts) (n : ℕ) → n ≡ f.arcs → record { state = f.state; hold = f.hold; arcs = n } ≡ f
more_arcs f n is = rw is refl

arc_by : (same : Bool) (to : MigState) (f : DeviceFacts)
    → record { state = if same then to else f.state; hold = if same then None else f.hold; arcs = f.arcs + (if same then 1 else 0) }
    ≡ (if same then record { state = to; hold = None; arcs = f.arcs + 1 } else f)
arc_by true to f = refl
arc_by false to f = more_arcs f (f.arcs + 0) (omega arith)

fail_by : (same : Bool) (f : DeviceFacts)
    → record { state = f.state; hold = f.hold; arcs = f.arcs + (if same then 1 else 0) } ≡ (if same then record f { arcs = f.arcs + 1 } else f)
fail_by true f = refl
fail_by false f = more_arcs f (f.arcs + 0) (omega arith)

pub device_after : (d : ℕ) (e : Entry) (past : List Entry) → device_facts d (e ∷ past) ≡ device_facts_after d e (device_facts d past)
device_after d (Hold e to) past = hold_by (e == d) to (device_facts d past)
device_after d (Arc e to) past = arc_by (e == d) to (device_facts d past)
device_after d (Fail e to) past = fail_by (e == d) (device_facts d past)
device_after d Abort past = refl
device_after d Resume past = refl
device_after d e past = refl

-- an entry that touches none of a device's facts keeps them
beside_by : (same : Bool) (f g : DeviceFacts) → IsTrue (if same then false else true) → (if same then f else g) ≡ g
beside_by true f g beside = absurd cc
beside_by false f g beside = refl

pub device_kept : (d : ℕ) (e : Entry) (past : List Entry) → IsTrue (is_beside_device d e) → device_facts d (e ∷ past) ≡ device_facts d past
device_kept d (Hold e to) past beside = device_after d (Hold e to) past ∙ beside_by (e == d) _ _ beside
device_kept d (Arc e to) past beside = device_after d (Arc e to) past ∙ beside_by (e == d) _ _ beside
device_kept d (Fail e to) past beside = device_after d (Fail e to) past ∙ beside_by (e == d) _ _ beside
device_kept d Abort past beside = absurd cc
device_kept d Resume past beside = absurd cc
device_kept d e past beside = refl
