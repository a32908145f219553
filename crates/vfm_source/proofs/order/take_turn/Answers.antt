-- What is wanted is what the order wants of the run.
use Rattle.std.proofs.Common.{◌≡◌, None, IfOk, OnOk, ap, sym, subst}
use Rattle.vfm_drive.specs.Rounds.{with_made}
use Rattle.vfm_quiet.specs.declared.want.Want.{Want}
use Rattle.vfm_source.specs.declared.order.Turn.{Turn}
use Rattle.vfm_source.specs.Moving.{entry_made, past_in, turn_of}
use Rattle.vfm_source.proofs.order.take_turn.Goals as goal

pub make_next-requires-clause-wanted : goal.make_next-requires-clause-wanted
make_next-requires-clause-wanted g c κs within =
    record {
      abort_after = c.args.abort_after;
      want = sym (c.in-Do.ensures.order None (past_in c.args.core.now) c.requires.moving.moving.way.run);
    }

pub returns-in-Do-clause-order : goal.returns-in-Do-clause-order
returns-in-Do-clause-order g c =
    subst (λ (want : Want). IfOk c.make_next.result (λ (turn : Turn). turn ≡ turn_of want))
    (c.in-Do.ensures.order None (past_in c.args.core.now) c.requires.moving.moving.way.run) c.make_next.ensures.turn

pub returns-in-Do-clause-made : goal.returns-in-Do-clause-made
returns-in-Do-clause-made g c =
    subst (λ (want : Want). OnOk c.make_next.result (c.make_next.new.core ≡ with_made (entry_made want) c.args.core.now))
    (c.in-Do.ensures.order None (past_in c.args.core.now) c.requires.moving.moving.way.run) c.make_next.ensures.made

pub returns-in-Wait-clause-order : goal.returns-in-Wait-clause-order
returns-in-Wait-clause-order g c = ap turn_of (c.in-Wait.ensures.order None (past_in c.args.core.now) c.requires.moving.moving.way.run)

pub returns-in-Wait-clause-made : goal.returns-in-Wait-clause-made
returns-in-Wait-clause-made g c =
    ap (λ (want : Want). with_made (entry_made want) c.args.core.now)
    (c.in-Wait.ensures.order None (past_in c.args.core.now) c.requires.moving.moving.way.run)

pub returns-in-Done-clause-order : goal.returns-in-Done-clause-order
returns-in-Done-clause-order g c = ap turn_of (c.in-Done.ensures.order None (past_in c.args.core.now) c.requires.moving.moving.way.run)

pub returns-in-Done-clause-made : goal.returns-in-Done-clause-made
returns-in-Done-clause-made g c =
    ap (λ (want : Want). with_made (entry_made want) c.args.core.now)
    (c.in-Done.ensures.order None (past_in c.args.core.now) c.requires.moving.moving.way.run)
