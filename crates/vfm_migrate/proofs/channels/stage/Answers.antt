-- What came over new links is all that they received.
use Rattle.vfm_migrate.proofs.Offers.{LinkWords}
use Rattle.vfm_migrate.proofs.Stagings.{staged_desc, staged_for}
use Rattle.vfm_migrate.proofs.channels.stage.Goals as goal

pub returns-clause-staged : goal.returns-clause-staged
returns-clause-staged g c =
    let words : LinkWords g.row.L.Denot = record {
      ended = g.L.Link.ended;
      finished = g.L.Link.finished;
      failed_out = g.L.Link.failed_out;
      failed_in = g.L.Link.failed_in;
      sent = g.L.Link.sent;
      received = g.L.Link.received;
    } in
    staged_for words c.args.links.items c.stage.result.0.items c.stage.ensures.links c.requires.new c.args.desc.now
    c.stage.result.1
    c.stage.ensures.verdict c.stage.ensures.read_out c.stage.ensures.failed

pub returns-clause-desc : goal.returns-clause-desc
returns-clause-desc g c =
    let words : LinkWords g.row.L.Denot = record {
      ended = g.L.Link.ended;
      finished = g.L.Link.finished;
      failed_out = g.L.Link.failed_out;
      failed_in = g.L.Link.failed_in;
      sent = g.L.Link.sent;
      received = g.L.Link.received;
    } in
    staged_desc c.args.desc.now _ c.stage.result.1
    (staged_for words c.args.links.items c.stage.result.0.items c.stage.ensures.links c.requires.new c.args.desc.now
    c.stage.result.1
    c.stage.ensures.verdict c.stage.ensures.read_out c.stage.ensures.failed)
