-- What is kept, at each state.
use Rattle.std.proofs.Common.{subst}
use Rattle.vfm_control.specs.declared.ends.SourceEnd.{SourceEnd}
use Rattle.vfm_control.specs.declared.ends.DestEnd.{DestEnd}
use Rattle.vfm_control.specs.Pair.{pair_after}
use Rattle.vfm_control.proofs.Keeping.{SourceKept, DestKept, kept}
use Rattle.vfm_control.proofs.pair_laws.ends_keep_their_digests.Goals as goal

pub returns-clause-offered : goal.returns-clause-offered
returns-clause-offered c own events digest is =
    let p = pair_after own events in
    (subst (λ (s : SourceEnd). SourceKept own s p.answer p.go) is (kept own events).source).0

pub returns-clause-heard : goal.returns-clause-heard
returns-clause-heard c own events digest is =
    let p = pair_after own events in
    (subst (λ (s : SourceEnd). SourceKept own s p.answer p.go) is (kept own events).source).0

pub returns-clause-go_sent : goal.returns-clause-go_sent
returns-clause-go_sent c own events digest is =
    let p = pair_after own events in
    (subst (λ (s : SourceEnd). SourceKept own s p.answer p.go) is (kept own events).source).0

pub returns-clause-staged : goal.returns-clause-staged
returns-clause-staged c own events digest is =
    let p = pair_after own events in
    subst (λ (t : DestEnd). DestKept own t p.answer p.go) is (kept own events).dest
