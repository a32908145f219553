-- The encoding of a record in its two parts.
use Rattle.std.proofs.Common.{◌≡◌, ℕ, ◌+◌, ◌<◌, List, ◌++◌, length, vec_len, vec_capacity, OnOk, OnErr, sym, ap, ◌∙◌, subst, length-append}
use Rattle.vfm_record.specs.declared.record.Rec.{Rec}
use Rattle.vfm_record.specs.Record.{record_bytes, record_of}
use Rattle.vfm_record.proofs.Pairs.{pending_encoded}
use Rattle.vfm_record.proofs.writer.write.Goals as goal

pub returns-in-Engine-clause-ok : goal.returns-in-Engine-clause-ok
returns-in-Engine-clause-ok c = rw (c.in-Engine.is) (rw c.engine_head.ensures at c.put-in-Engine.ensures.ok)

-- head and bytes encode the pending requests
parts : (c : goal.After-put-in-Pending) → c.pending_head.result ++ c.in-Pending.bytes.now ≡ record_bytes (record_of c.args.r.now)
parts c =
    let writable = rw c.in-Pending.is at c.requires in
    ap (λ (l : List ℕ). l ++ c.in-Pending.bytes.now) c.pending_head.ensures
    ∙ pending_encoded c.in-Pending.count c.in-Pending.bytes.now writable.2 c.put-in-Pending.ensures.bytes
    ∙ ap (λ (r : Rec). record_bytes (record_of r)) (sym c.in-Pending.is)

pub returns-in-Pending-clause-ok : goal.returns-in-Pending-clause-ok
returns-in-Pending-clause-ok c =
    let P : List ℕ → Type 0 = λ l. OnOk c.put-in-Pending.result (c.put-in-Pending.new.out.items ≡ c.args.out.now.items ++ l) in
    subst P (parts c) c.put-in-Pending.ensures.ok

pub returns-in-Pending-clause-full : goal.returns-in-Pending-clause-full
returns-in-Pending-clause-full c =
    let P : ℕ → Type 0 = λ n. OnErr c.put-in-Pending.result (vec_capacity c.args.out.now < vec_len c.args.out.now + n) in
    let len = sym (length-append c.pending_head.result c.in-Pending.bytes.now) ∙ ap (λ (l : List ℕ). length l) (parts c) in
    subst P len c.put-in-Pending.ensures.full
