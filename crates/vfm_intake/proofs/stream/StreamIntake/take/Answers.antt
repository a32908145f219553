use Rattle.std.proofs.Common.{◌≡◌, ◌∙◌, refl, sym, ap, subst, ⊎_elim, Bool, true, false, Err, rules}
use Rattle.std.proofs.lemmas.Bool.{false_from_ne_true}
use Rattle.vfm_reorder.specs.declared.buffer.ReorderBuf.{ReorderBuf}
use Rattle.vfm_reorder.specs.declared.faults.PutFault.{PutFault}
use Rattle.vfm_reorder.specs.declared.faults.PutFault.TheVariants as put_faults
use Rattle.vfm_reorder.specs.Buffers.{given, is_put, IsAfter}
use Rattle.vfm_intake.proofs.Steps.{stands-put, stands-told}
use Rattle.vfm_intake.proofs.stream.StreamIntake.take.Goals as goal

pub returns-in-Ok-clause-taken : goal.returns-in-Ok-clause-taken
returns-in-Ok-clause-taken c came p stands is =
    let before = c.args.self.now in
    let fresh : is_put before.buffer c.args.index ≡ false =
    false_from_ne_true (is_put before.buffer c.args.index) (λ old. let twice = c.put.ensures.doubled.1 old in let ok = c.in-Ok.is in absurd cc) in
    c.apply_ready.ensures.stands _
    (stands-put before (record before { buffer = c.put.new.self }) _ _ came p c.args.index is.index_is stands fresh
    (c.in-Ok.ensures.put stands.put p stands.after is) c.put.ensures.given refl refl)

pub returns-in-Err-Doubled-clause-taken : goal.returns-in-Err-Doubled-clause-taken
returns-in-Err-Doubled-clause-taken c came p stands is =
    let before = c.args.self.now in
    let fault = c.in-Err-Doubled.field-0 in
    let doubled : fault ≡ put_faults.Doubled c.args.index =
    ⊎_elim (λ (e : fault ≡ put_faults.Doubled c.args.index). e)
    (λ (e : fault ≡ put_faults.NoMemory).
    let clash : put_faults.Doubled c.in-Err-Doubled.field-0-0 ≡ put_faults.NoMemory = sym c.in-Err-Doubled.field-0-is ∙ e in absurd cc)
    c.in-Err-Doubled.ensures.faults in
    let old : is_put before.buffer c.args.index ≡ true = c.put.ensures.doubled.0 (c.in-Err-Doubled.is ∙ ap (λ (f : PutFault). Err f) doubled) in
    stands-told before c.tell.new.self _ _ came p c.args.index is.index_is stands old
    (subst (λ (buffer : ReorderBuf). IsAfter buffer stands.put) (sym c.tell.ensures.buffer) (c.in-Err-Doubled.ensures.unchanged stands.put stands.after))
    (ap given c.tell.ensures.buffer ∙ c.put.ensures.given) c.tell.ensures.loader c.tell.ensures.told
