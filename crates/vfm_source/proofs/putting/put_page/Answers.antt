-- There is an index for the page, and its bytes are those of the run's machine.
use Rattle.std.proofs.Common.{◌∙◌, ℕ, List, OnOk, subst, arith}
use Rattle.vfm_record.specs.Record.{Page}
use Rattle.vfm_streams.specs.Sent.{push, sent_in_passes}
use Rattle.vfm_outlets.specs.Carrying.{Carries}
use Rattle.vfm_source.proofs.Records.{index_there, page_now}
use Rattle.vfm_source.proofs.putting.put_page.Goals as goal

pub put-requires-clause-count : goal.put-requires-clause-count
put-requires-clause-count g c κs within =
    index_there g.L.Link.sent c.requires.conveying.course c.args.core.now c.args.outlets.now 0 c.desc.ensures.fits.valid
    c.requires.conveying.conveys (omega arith)

pub returns-clause-put : goal.returns-clause-put
returns-clause-put g c = λ course is.
    let D = c.args.core.now.desc in
    let all = sent_in_passes D course.past in
    subst (λ (bytes : List ℕ). OnOk c.put.result (Carries g.L.Link.sent D course.starts (push 0 (Page c.args.p bytes) all) c.put.new.self))
    (c.page.ensures.value ∙ page_now D course.past c.args.core.now.world c.args.p is.run c.requires.page)
    (c.put.ensures.put D course.starts all is.carries)
