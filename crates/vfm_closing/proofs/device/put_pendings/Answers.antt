-- Each turn puts the first record of those that are left.
use Rattle.std.specs.Prelude.{min}
use Rattle.std.proofs.Common.{◌≡◌, ◌∙◌, refl, ap, ℕ, ◌<◌, List, length, take, drop, rules, arith}
use Rattle.vfm_streams.specs.Sent.{push_all, pending_records}
use Rattle.vfm_closing.specs.Closing.{CarriesPart}
use Rattle.vfm_closing.proofs.Parts.{on_err}
use Rattle.vfm_closing.proofs.Pieces.{none_put, one_put, room_for_next, some_put}
use Rattle.vfm_closing.proofs.device.put_pendings.Goals as goal

pub loop-rest-init : goal.loop-rest-init
loop-rest-init g c = record {
  put = λ D starts all carried. none_put g.L.Link.sent D starts c.args.outlets.now c.args.stream c.args.pairs.now all carried;
  links = refl;
  failed = refl;
}

pub put_pending-requires-clause-count : goal.put_pending-requires-clause-count
put_pending-requires-clause-count g c κs within =
    let room = c.requires.room in
    let more : 0 < length c.loop-rest.rest.now = search (rules, arith) in
    room_for_next g.L.Link.sent room.desc room.starts c.loop-rest.outlets
    (record { stream = c.args.stream; pairs = c.args.pairs.now; before = room.all; rest = c.loop-rest.rest.now })
    (c.loop-rest.invariant.put room.desc room.starts room.all room.carries) c.requires.few more room.few c.requires.stream

pub returns-in_err-put_pending-clause-part : goal.returns-in_err-put_pending-clause-part
returns-in_err-put_pending-clause-part g c = λ D starts all carried.
    let so = c.loop-rest.invariant.put D starts all carried in
    on_err c.from_residual.result
    (CarriesPart g.L.Link.sent D starts (push_all c.args.stream (pending_records c.args.pairs.now) all) c.put_pending.new.self)
    (some_put g.L.Link.sent D starts c.loop-rest.outlets c.put_pending.new.self
    (record { stream = c.args.stream; pairs = c.args.pairs.now; before = all; rest = c.loop-rest.rest.now })
    so (c.in_err-put_pending.ensures.unchanged D starts so.now so.carries))

pub loop-rest-preserved : goal.loop-rest-preserved
loop-rest-preserved g c =
    let rest : List (ℕ × ℕ) = c.loop-rest.rest.now in
    let more : 0 < length c.loop-rest.rest.now = search (rules, arith) in
    let size : c.min.result ≡ min (length c.loop-rest.rest.now) 4096 = search (rules, arith) in
    record {
      put = λ D starts all carried.
          let so = c.loop-rest.invariant.put D starts all carried in
          one_put g.L.Link.sent D starts c.loop-rest.outlets c.put_pending.new.self
          (record { stream = c.args.stream; pairs = c.args.pairs.now; before = all; rest = c.loop-rest.rest.now })
          c.split_at.result.0.now c.split_at.result.1.now so more
          (c.split_at.ensures.front ∙ ap (λ (n : ℕ). take n c.loop-rest.rest.now) size)
          (c.split_at.ensures.back ∙ ap (λ (n : ℕ). drop n c.loop-rest.rest.now) size)
          (c.in_ok-put_pending.ensures.put D starts so.now so.carries);
      links = c.put_pending.ensures.links ∙ c.loop-rest.invariant.links;
      failed = c.put_pending.ensures.failed ∙ c.loop-rest.invariant.failed;
    }
