-- What a look wants depends on what it shows of the move and of the devices that there are.
use Rattle.std.proofs.Common.{◌≡◌, ℕ, ◌+◌, ◌<◌, ◌==◌, ◌&&◌, ◌||◌, not, Bool, nat_lt, nat_le, if◌then◌else◌, [], ◌∷◌, length, Option, is_none, is_some, unwrap_or, refl, ap, ◌∙◌}
use Rattle.vfm_types.specs.declared.desc.Desc.{Desc}
use Rattle.vfm_types.specs.declared.look.DevLook.{DevLook}
use Rattle.vfm_types.specs.declared.entry.Entry.{Entry}
use Rattle.vfm_types.specs.declared.entry.Entry.TheVariants.{Hold, Arc, Fail, Report, Pass, Copy, Begin, Joint, Abort}
use Rattle.vfm_types.specs.declared.state.MigState.{MigState}
use Rattle.vfm_types.specs.declared.state.MigState.TheVariants.{Stop, Running, StopCopy, PreCopy}
use Rattle.vfm_types.specs.State.{has_pre_copy}
use Rattle.vfm_types.specs.Desc.{shape_at}
use Rattle.vfm_types.specs.Paths.{same_state}
use Rattle.vfm_types.specs.Arcs.{is_p2p, is_stopped}
use Rattle.vfm_base.specs.Least.{all_below, least_below}
use Rattle.vfm_quiet.specs.declared.want.Want.{Want}
use Rattle.vfm_quiet.specs.declared.want.Want.TheVariants.{Do, Wait, Done}
use Rattle.vfm_quiet.specs.declared.move_look.MoveLook.{MoveLook}
use Rattle.vfm_quiet.specs.Seen.{seen, sees_ready, sees_reported, sees_all_in, sees_quiet, sees_warm, sees_decided, next_seen, next_or_stay, arc_or_fail, may_go_home, may_enter_pre_copy, may_be_held, may_go_out, way_out_of}
use Rattle.vfm_quiet.specs.Order.{do_for, part_of_pass, first_line, next_want, is_abort_asked, way_home, beginning, rest_of_pass, first_pass, another_pass, way_out, last_pass}
use Rattle.vfm_order.specs.Alike.{IsAlike}
use Rattle.vfm_order.proofs.Numbers.{least_is, all_below_same, least_below_same}
use Rattle.vfm_order.proofs.StagedLooks.{do_for_same}

module _ (D : Desc) (look other : MoveLook) (n : ℕ) (same : IsAlike look other) where
  -- tests of a device that agree below the count
  least_same : (first second : ℕ → Bool) → ((d : ℕ) → d < other.count → first d ≡ second d) → least_below look.count first ≡ least_below other.count second
  least_same first second agree = ap (λ (k : ℕ). least_below k first) same.count ∙ least_below_same other.count first second agree

  all_same : (first second : ℕ → Bool) → ((d : ℕ) → d < other.count → first d ≡ second d) → all_below look.count first ≡ all_below other.count second
  all_same first second agree = ap (λ (k : ℕ). all_below k first) same.count ∙ all_below_same other.count first second agree

  -- an entry for the least device that passes, or else another want
  for_same : (first second : ℕ → Bool) (make make_other : ℕ → Entry) (want want_other : Want) → ((d : ℕ) → d < other.count → first d ≡ second d)
      → ((d : ℕ) → d < other.count → make d ≡ make_other d) → want ≡ want_other
      → do_for make (least_below look.count first) want ≡ do_for make_other (least_below other.count second) want_other
  for_same first second make make_other want want_other agree makes wants =
      ap (λ (o : Option ℕ). do_for make o want) (least_same first second agree)
      ∙ do_for_same make make_other (least_below other.count second) want (λ d found. makes d (least_is other.count second d found).inside)
      ∙ ap (λ (w : Want). do_for make_other (least_below other.count second) w) wants

  all_in_same : (state : MigState) → sees_all_in look state ≡ sees_all_in other state
  all_in_same state =
      all_same (λ d. same_state (seen look d).state state) (λ d. same_state (seen other d).state state)
      (λ d inside. ap (λ (v : DevLook). same_state v.state state) (same.devices d inside))

  quiet_same : sees_quiet look ≡ sees_quiet other
  quiet_same =
      ap (λ (k : ℕ). k == 1 || all_below look.count (λ d. is_p2p (seen look d).state || is_stopped (seen look d).state)) same.count
      ∙ ap (λ (b : Bool). other.count == 1 || b)
      (all_same (λ d. is_p2p (seen look d).state || is_stopped (seen look d).state) (λ d. is_p2p (seen other d).state || is_stopped (seen other d).state)
      (λ d inside. ap (λ (v : DevLook). is_p2p v.state || is_stopped v.state) (same.devices d inside)))

  next_same : (goal : MigState) (d : ℕ) → d < other.count → next_seen D look d goal ≡ next_seen D other d goal
  next_same goal d inside = ap (λ (v : DevLook). next_or_stay v.state goal (shape_at D d).flags) (same.devices d inside)

  arc_same : (to to_other : MigState) (d : ℕ) → d < other.count → to ≡ to_other → arc_or_fail D look d to ≡ arc_or_fail D other d to_other
  arc_same to to_other d inside tos =
      ap (λ (v : DevLook). if v.arcs + 1 == (shape_at D d).fails then Fail d to else Arc d to) (same.devices d inside)
      ∙ ap (λ (s : MigState). arc_or_fail D other d s) tos

  home_same : way_home D look ≡ way_home D other
  home_same =
      for_same (λ d. may_go_home look d) (λ d. may_go_home other d) (λ d. Arc d (next_seen D look d Running)) (λ d. Arc d (next_seen D other d Running))
      (if sees_all_in look Running then Done else Wait) (if sees_all_in other Running then Done else Wait)
      (λ d inside.
      ap (λ (v : DevLook). not (same_state v.state Running) && sees_ready look d) (same.devices d inside)
      ∙ ap (λ (b : Bool). not (same_state (seen other d).state Running) && b) (same.ready d inside))
      (λ d inside. ap (Arc d) (next_same Running d inside))
      (ap (λ (b : Bool). if b then Done else Wait) (all_in_same Running))

  start_same : beginning D look ≡ beginning D other
  start_same =
      ap (λ (b : Bool). if b then Do Begin else Wait)
      (all_same (λ d. sees_warm D look d) (λ d. sees_warm D other d)
      (λ d inside.
      ap (λ (v : DevLook). nat_le D.begin v.completes || (v.unissued == 0 && v.undelivered == 0 && v.delivered == 0)) (same.devices d inside)))

  rest_same : rest_of_pass look ≡ rest_of_pass other
  rest_same =
      ap (λ (o : Option ℕ). do_for Copy o (part_of_pass look.part look.next_block)) same.next_copy
      ∙ ap (λ (o : Option ℕ). do_for Copy other.next_copy (part_of_pass o look.next_block)) same.part
      ∙ ap (λ (o : Option ℕ). do_for Copy other.next_copy (part_of_pass other.part o)) same.next_block

  first_same : first_pass D look ≡ first_pass D other
  first_same =
      for_same (λ d. may_enter_pre_copy D look d) (λ d. may_enter_pre_copy D other d) (λ d. arc_or_fail D look d PreCopy) (λ d. arc_or_fail D other d PreCopy)
      (Do (Pass 1)) (Do (Pass 1))
      (λ d inside. ap (λ (v : DevLook). has_pre_copy (shape_at D d).flags && same_state v.state Running) (same.devices d inside))
      (λ d inside. arc_same PreCopy PreCopy d inside refl) refl

  another_same : another_pass look ≡ another_pass other
  another_same =
      for_same (λ d. not (sees_reported look d)) (λ d. not (sees_reported other d)) Report Report (Do (Pass (look.passes + 1))) (Do (Pass (other.passes + 1)))
      (λ d inside. ap not (same.reported d inside)) (λ d inside. refl) (ap (λ (k : ℕ). Do (Pass (k + 1))) same.passes)

  last_same : last_pass look ≡ last_pass other
  last_same =
      ap (λ (k : ℕ). if k == 0 then Do (Pass 1) else another_pass look) same.passes
      ∙ ap (λ (w : Want). if other.passes == 0 then Do (Pass 1) else w) another_same

  held_same : (d : ℕ) → d < other.count → may_be_held D look d ≡ may_be_held D other d
  held_same d inside =
      let stops : MigState → Bool = λ s. same_state s Stop || same_state s StopCopy in
      ap (λ (v : DevLook). is_none v.held && not (is_stopped v.state) && (not (stops (next_seen D look d StopCopy)) || sees_quiet look)) (same.devices d inside)
      ∙ ap (λ (s : MigState). is_none (seen other d).held && not (is_stopped (seen other d).state) && (not (stops s) || sees_quiet look)) (next_same StopCopy d inside)
      ∙ ap (λ (b : Bool). is_none (seen other d).held && not (is_stopped (seen other d).state) && (not (stops (next_seen D other d StopCopy)) || b)) quiet_same

  out_same : way_out D look ≡ way_out D other
  out_same =
      let end : MoveLook → Want = λ l. if sees_all_in l StopCopy then Do Joint else Wait in
      let arcs : MoveLook → Want = λ l. do_for (λ d. arc_or_fail D l d (way_out_of l d)) (least_below l.count (λ d. may_go_out l d)) (end l) in
      for_same (λ d. may_be_held D look d) (λ d. may_be_held D other d) (λ d. Hold d (next_seen D look d StopCopy)) (λ d. Hold d (next_seen D other d StopCopy))
      (arcs look) (arcs other) held_same (λ d inside. ap (Hold d) (next_same StopCopy d inside))
      (for_same (λ d. may_go_out look d) (λ d. may_go_out other d) (λ d. arc_or_fail D look d (way_out_of look d)) (λ d. arc_or_fail D other d (way_out_of other d))
      (end look) (end other)
      (λ d inside.
      ap (λ (v : DevLook). (is_some v.held || same_state v.state Stop) && sees_ready look d) (same.devices d inside)
      ∙ ap (λ (b : Bool). (is_some (seen other d).held || same_state (seen other d).state Stop) && b) (same.ready d inside))
      (λ d inside.
      arc_same (way_out_of look d) (way_out_of other d) d inside (ap (λ (v : DevLook). unwrap_or v.held StopCopy) (same.devices d inside)))
      (ap (λ (b : Bool). if b then Do Joint else Wait) (all_in_same StopCopy)))

  decided_same : sees_decided D look ≡ sees_decided D other
  decided_same =
      ap (λ (k : ℕ). D.rounds == 0 || (nat_lt 0 k && look.ended && (nat_le D.rounds k || nat_le (length look.set) D.threshold))) same.passes
      ∙ ap (λ (b : Bool). D.rounds == 0 || (nat_lt 0 other.passes && b && (nat_le D.rounds other.passes || nat_le (length look.set) D.threshold))) same.ended
      ∙ ap (λ (k : ℕ). D.rounds == 0 || (nat_lt 0 other.passes && other.ended && (nat_le D.rounds other.passes || nat_le k D.threshold))) same.set

  asked_same : is_abort_asked look n ≡ is_abort_asked other n
  asked_same =
      ap (λ (k : ℕ). nat_lt 0 n && nat_le n k && look.ended) same.passes ∙ ap (λ (b : Bool). nat_lt 0 n && nat_le n other.passes && b) same.ended

  -- the order over its tests and wants
  order : (aborted resumed failed asked begun ended joint last decided : Bool) (passes : ℕ) (home start rest first more out final : Want) → Want
  order aborted resumed failed asked begun ended joint last decided passes home start rest first more out final =
      first_line
      ((aborted || resumed, home) ∷ (failed, Do Abort) ∷ (asked, Do Abort) ∷ (not begun, start) ∷ (not ended, rest)
      ∷ (not joint && nat_lt 0 D.rounds && passes == 0, first) ∷ (not joint && not decided, more) ∷ (not joint, out) ∷ (not last, final) ∷ [])

  order_same : order look.aborted look.resumed look.failed (is_abort_asked look n) look.begun look.ended look.joint look.last (sees_decided D look) look.passes
      (way_home D look) (beginning D look) (rest_of_pass look) (first_pass D look) (another_pass look) (way_out D look) (last_pass look)
      ≡ order other.aborted other.resumed other.failed (is_abort_asked other n) other.begun other.ended other.joint other.last (sees_decided D other) other.passes
      (way_home D other) (beginning D other) (rest_of_pass other) (first_pass D other) (another_pass other) (way_out D other) (last_pass other)
  order_same = cc (asked_same, decided_same, home_same, start_same, rest_same, first_same, another_same, out_same, last_same)

  pub same_want : next_want D look n ≡ next_want D other n
  unfolding order
  same_want = order_same
