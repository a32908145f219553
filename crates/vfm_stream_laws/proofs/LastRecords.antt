-- The last record of each page and block that passes sent is its last copy or reading.
use Rattle.std.proofs.Common.{◌≡◌, ℕ, suc, ◌==◌, Bool, true, ◌&&◌, if◌then◌else◌, List, [], ◌∷◌, Some, refl, ap, sym, ◌∙◌, subst, arith, ⊎_elim, eqb-true, eq-eqb}
use Rattle.std.proofs.lemmas.Bool.{ne_eqb, cases_eq}
use Rattle.vfm_types.specs.declared.desc.Desc.{Desc}
use Rattle.vfm_types.specs.declared.entry.Entry.{Entry}
use Rattle.vfm_types.specs.declared.entry.Entry.TheVariants.{Copy as CopyOf, Block as BlockOf}
use Rattle.vfm_types.specs.Deliveries.{machine_of, page_bytes, block_bytes}
use Rattle.vfm_laws.proofs.Rising.{by_bool}
use Rattle.vfm_copying.specs.Copies.{last_copy, last_reading}
use Rattle.vfm_record.specs.Record.{Page, Block}
use Rattle.vfm_streams.specs.Sent.{records_of, push, sent_in_passes}
use Rattle.vfm_streams.specs.Loaded.{last_page, last_block, all_pairs}
use Rattle.vfm_streams.proofs.ClosedRecords.{pushed_same, pushed_other}

pub page_sent : (D : Desc) (past : List Entry) (p : ℕ) → last_page p (records_of 0 (sent_in_passes D past)) ≡ last_copy D p past
page_sent D [] p = refl
page_sent D (CopyOf q ∷ past) p =
    ap (last_page p) (pushed_same 0 (Page q (page_bytes (machine_of D past) q)) (sent_in_passes D past))
    ∙ by_bool (q == p)
    (λ b. (q == p) ≡ b → (if b then Some (page_bytes (machine_of D past) q) else last_page p (records_of 0 (sent_in_passes D past)))
    ≡ (if b then Some (page_bytes (machine_of D past) p) else last_copy D p past))
    (λ same e. ap (λ (k : ℕ). Some (page_bytes (machine_of D past) k)) (eqb-true q p e)) (λ other e. page_sent D past p) refl
page_sent D (BlockOf d b ∷ past) p =
    ap (last_page p) (pushed_other 0 (suc d) (Block b (block_bytes (machine_of D past) d b)) (sent_in_passes D past) (λ same. omega (arith, same)))
    ∙ page_sent D past p
page_sent D (entry ∷ past) p = page_sent D past p

-- a block that was read of this device, or of another
own_block : (D : Desc) (past : List Entry) (d c b : ℕ) → last_block b (records_of (suc d) (sent_in_passes D past)) ≡ last_reading D d b past
    → last_block b (records_of (suc d) (push (suc d) (Block c (block_bytes (machine_of D past) d c)) (sent_in_passes D past)))
    ≡ (if d == d && c == b then Some (block_bytes (machine_of D past) d b) else last_reading D d b past)
own_block D past d c b before =
    ap (last_block b) (pushed_same (suc d) (Block c (block_bytes (machine_of D past) d c)) (sent_in_passes D past))
    ∙ by_bool (c == b)
    (λ x. (c == b) ≡ x → (if x then Some (block_bytes (machine_of D past) d c) else last_block b (records_of (suc d) (sent_in_passes D past)))
    ≡ (if true && x then Some (block_bytes (machine_of D past) d b) else last_reading D d b past))
    (λ same e. ap (λ (k : ℕ). Some (block_bytes (machine_of D past) d k)) (eqb-true c b e)) (λ other e. before) refl
    ∙ ap (λ (x : Bool). if x && c == b then Some (block_bytes (machine_of D past) d b) else last_reading D d b past) (sym (eq-eqb d d refl))

pub block_sent : (D : Desc) (past : List Entry) (d b : ℕ) → last_block b (records_of (suc d) (sent_in_passes D past)) ≡ last_reading D d b past
block_sent D [] d b = refl
block_sent D (CopyOf q ∷ past) d b =
    ap (last_block b) (pushed_other (suc d) 0 (Page q (page_bytes (machine_of D past) q)) (sent_in_passes D past) (λ same. omega (arith, same)))
    ∙ block_sent D past d b
block_sent D (BlockOf e c ∷ past) d b =
    ⊎_elim
    (λ (same : e ≡ d).
    subst (λ (k : ℕ). last_block b (records_of (suc d) (push (suc k) (Block c (block_bytes (machine_of D past) k c)) (sent_in_passes D past)))
    ≡ (if k == d && c == b then Some (block_bytes (machine_of D past) d b) else last_reading D d b past)) (sym same)
    (own_block D past d c b (block_sent D past d b)))
    (λ (other : e ≡ d → ⊥).
    ap (last_block b) (pushed_other (suc d) (suc e) (Block c (block_bytes (machine_of D past) e c)) (sent_in_passes D past) (λ same. other (omega (arith, same))))
    ∙ block_sent D past d b
    ∙ ap (λ (x : Bool). if x && c == b then Some (block_bytes (machine_of D past) d b) else last_reading D d b past) (sym (ne_eqb e d other)))
    (cases_eq e d)
block_sent D (entry ∷ past) d b = block_sent D past d b

-- passes send no pending requests
pub no_pairs : (D : Desc) (past : List Entry) (d : ℕ) → all_pairs (records_of (suc d) (sent_in_passes D past)) ≡ []
no_pairs D [] d = refl
no_pairs D (CopyOf q ∷ past) d =
    ap all_pairs (pushed_other (suc d) 0 (Page q (page_bytes (machine_of D past) q)) (sent_in_passes D past) (λ same. omega (arith, same))) ∙ no_pairs D past d
no_pairs D (BlockOf e c ∷ past) d =
    ⊎_elim
    (λ (same : e ≡ d).
    subst (λ (k : ℕ). all_pairs (records_of (suc d) (push (suc k) (Block c (block_bytes (machine_of D past) e c)) (sent_in_passes D past))) ≡ []) (sym same)
    (ap all_pairs (pushed_same (suc d) (Block c (block_bytes (machine_of D past) e c)) (sent_in_passes D past)) ∙ no_pairs D past d))
    (λ (other : e ≡ d → ⊥).
    ap all_pairs (pushed_other (suc d) (suc e) (Block c (block_bytes (machine_of D past) e c)) (sent_in_passes D past) (λ same. other (omega (arith, same)))) ∙ no_pairs D past d)
    (cases_eq e d)
no_pairs D (entry ∷ past) d = no_pairs D past d
