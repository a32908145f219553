-- The loader stands for one packet more.
use Rattle.std.proofs.Common.{ℕ, List, ◌∷◌, refl, ap, sym, ◌∙◌, subst}
use Rattle.vfm_record.specs.Tests.{record_at}
use Rattle.vfm_load.specs.declared.loader.Loader.{Loader}
use Rattle.vfm_load.specs.Stores.{is_digest}
use Rattle.vfm_load.specs.Loads.{records_of, SaysRecords}
use Rattle.vfm_load.proofs.LoadLemmas.{nothing_refused, none_in, after_dropped, after_refused, after_taken}
use Rattle.vfm_load.proofs.loader.Loader.apply.Goals as goal

pub returns-then-is_some-clause-after : goal.returns-then-is_some-clause-after
returns-then-is_some-clause-after c packets p after is =
    after_dropped c.args.desc.now c.args.self.now.stream packets p c.args.self.now _ after
    (record { valid = c.requires.made.valid; known = c.requires.made.known; stream = c.requires.made.stream; ours = c.requires.made.ours; fits = c.requires.made.fits })
    refl refl (sym c.if-is_some.ensures)

pub returns-in-Err-clause-after : goal.returns-in-Err-clause-after
returns-in-Err-clause-after c packets p after is =
    let D = c.args.desc.now in
    let s = c.args.self.now.stream in
    let open_ = sym c.if-is_some.ensures in
    let says = after.says (none_in c.args.self.now.refused open_) in
    let made = c.in-Err.ensures.made in
    after_refused D s packets p c.args.self.now _ after
    (record { valid = made.valid; known = made.known; stream = made.stream; ours = made.ours; fits = made.fits })
    (ap (λ (l : Loader). l.next) c.in-Err.ensures.rest) open_ c.args.index c.in-Err.place refl c.requires.next
    (c.in-Err.ensures.taken (records_of s packets) p (record { stored = says.stored; digest = says.digest }) is)

pub returns-in_default-clause-after : goal.returns-in_default-clause-after
returns-in_default-clause-after c packets p after is =
    let D = c.args.desc.now in
    let s = c.args.self.now.stream in
    let open_ = sym c.if-is_some.ensures in
    let says = after.says (none_in c.args.self.now.refused open_) in
    let taken = c.in_default.ensures.taken (records_of s packets) p (record { stored = says.stored; digest = says.digest }) is in
    let same = sym is.payload_is in
    let rest = c.in_default.ensures.rest in
    after_taken D s packets p c.args.self.now c.take.new.self after c.in_default.ensures.made (ap (λ (l : Loader). l.next) rest) open_
    (ap (λ (l : Loader). l.refused) rest ∙ nothing_refused c.args.self.now.refused open_) taken.0
    (subst (λ (bytes : List ℕ). SaysRecords c.take.new.self D s (record_at s bytes ∷ records_of s packets)) same taken.1)
    (ap (λ (l : Loader). l.closed) rest ∙ taken.2 ∙ ap (λ (bytes : List ℕ). is_digest (record_at s bytes)) same)
