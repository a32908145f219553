use Rattle.std.proofs.Common.{◌≤◌, length, ◌++◌, arith, rules}
use Rattle.std.proofs.lemmas.List.{length-append}
use Rattle.vfm_recv.proofs.Gathering.{waits, exact-head, exact-rest}
use Rattle.vfm_recv.proofs.intake.wanted.Goals as goal

pub returns-then-held-lt-HEAD_LEN-clause-exact : goal.returns-then-held-lt-HEAD_LEN-clause-exact
returns-then-held-lt-HEAD_LEN-clause-exact c more few =
    exact-head c.args.expect.now (c.args.held.now ++ more) (omega (arith, few, length-append c.args.held.now more))

pub overflow_sub-result-2 : goal.overflow_sub-result-2
overflow_sub-result-2 c =
    let long : 40 ≤ length c.args.held.now = search (rules, arith) in
    let more = waits c.args.expect.now c.args.held.now c.requires long in
    omega (arith, more, c.u32_at.ensures, c.seal_len.ensures)

pub returns-clause-some : goal.returns-clause-some
returns-clause-some c =
    let long : 40 ≤ length c.args.held.now = search (rules, arith) in
    let more = waits c.args.expect.now c.args.held.now c.requires long in
    omega (arith, more, c.u32_at.ensures, c.seal_len.ensures)

pub returns-clause-exact : goal.returns-clause-exact
returns-clause-exact c more few =
    let long : 40 ≤ length c.args.held.now = search (rules, arith) in
    let wait = waits c.args.expect.now c.args.held.now c.requires long in
    exact-rest c.args.expect.now c.args.held.now more c.requires long
    (omega (arith, few, wait, length-append c.args.held.now more, c.u32_at.ensures, c.seal_len.ensures))
