-- Go as it was heard, and the machine that was taken over.
use Rattle.std.proofs.Common.{◌≡◌, ◌≢◌, ◌∙◌, refl, sym, ap, subst, ℕ, ◌<◌, ◌^◌, true, false, List, [], ◌∷◌, ◌++◌, reverse, Option, Some, Result, Ok, Err, is_ok}
use Rattle.std.proofs.lemmas.List.{append_cancel_left, append_assoc}
use Rattle.std.specs.Prelude.{unwrap_or, ⊤}
use Rattle.vfm_types.specs.declared.entry.Entry.{Entry}
use Rattle.vfm_types.specs.declared.entry.Entry.TheVariants.{Resume}
use Rattle.vfm_types.specs.Deliveries.{delivers}
use Rattle.vfm_types.specs.Requests.{plain}
use Rattle.vfm_plain.specs.Clean.{IsClean}
use Rattle.vfm_plain.specs.Legal.{IsLegal}
use Rattle.vfm_outside.specs.Told.{with_appended}
use Rattle.vfm_control.specs.declared.frame.Frame.TheVariants.{Go}
use Rattle.vfm_control.specs.declared.ends.DestEnd.TheVariants as dest
use Rattle.vfm_control.specs.Calls.{IsGoOf}
use Rattle.vfm_control.specs.Frame.{IsDigest, frame_at, frame_bytes}
use Rattle.vfm_control.specs.Pair.{PairState}
use Rattle.vfm_control.proofs.Calls.{read_go, finish_ok, finish_other}
use Rattle.vfm_control.proofs.Encoded.{again, one_frame}
use Rattle.vfm_core.specs.CoreState.{CoreState, FitsDesc}
use Rattle.vfm_core.specs.Machines.{machine_in}
use Rattle.vfm_core.proofs.Machines.{staged_clean, staged_plain}
use Rattle.vfm_drive.specs.Endings.{HasTakenOver}
use Rattle.vfm_handshake.specs.declared.fault.GoFault.{GoFault}
use Rattle.vfm_handshake.specs.declared.fault.GoFault.TheVariants as going
use Rattle.vfm_handshake.specs.Control.{Receipt, Heard, AnswersTo, IsNoGo, TakenBy, TakesOver}
use Rattle.vfm_dest.specs.Finishing.{HasJoined, StepsPair, without_value}

-- ---- what was heard

module _ (session : ℕ) (own : List ℕ) (r : Receipt) (told bytes : List ℕ) (before : r.before ≡ Some told) (now : r.now ≡ Some (told ++ bytes)) where
  heard-is : (heard : List ℕ) → Heard r heard → heard ≡ bytes
  heard-is heard is =
      append_cancel_left told heard bytes (ap (λ (o : Option (List ℕ)). unwrap_or o [])
      (sym (ap (λ (o : Option (List ℕ)). with_appended o heard) before) ∙ sym is.came ∙ now))

  answered : (result : Result ⊤ GoFault) → AnswersTo r (λ heard. TakenBy session own heard result) → TakenBy session own bytes result
  answered result to = subst (λ (heard : List ℕ). TakenBy session own heard result) (heard-is to.bytes to.heard) to.answers

  pub taken-by : (result : Result ⊤ GoFault) → result ≢ Err going.Link → TakesOver session own r result → TakenBy session own bytes result
  taken-by (Ok done) sound to = answered (Ok done) to
  taken-by (Err going.Link) sound to = absurd (sound refl)
  taken-by (Err (going.NoGo heard)) sound to = answered (Err (going.NoGo heard)) to
  taken-by (Err (going.Other ours theirs)) sound to = answered (Err (going.Other ours theirs)) to

-- the digests of two Go frames that are the same
go-digest : (session : ℕ) (one two : List ℕ) → Some (Go session one) ≡ Some (Go session two) → one ≡ two
go-digest session one two same =
    let frames : Go session one ≡ Go session two = one_frame (Go session one) (Go session two) same in
    cc

own-taken : (session : ℕ) (own bytes : List ℕ) (result : Result ⊤ GoFault) → frame_at session bytes ≡ Some (Go session own)
    → TakenBy session own bytes result → is_ok result ≡ true
own-taken session own bytes (Ok done) frame taken = refl
own-taken session own bytes (Err going.Link) frame taken = absurd taken
own-taken session own bytes (Err (going.NoGo heard)) frame taken = absurd (subst IsNoGo frame taken.1)
own-taken session own bytes (Err (going.Other ours theirs)) frame taken =
    absurd (taken.1 (go-digest session theirs own (sym taken.2 ∙ frame)))

-- a Go of the own digest isn't refused
pub own-refused : (session : ℕ) (own : List ℕ) (r : Receipt) (fault : GoFault) → TakesOver session own r (Err fault) → session < 2 ^ 64 → IsDigest own
    → (told : List ℕ) → r.before ≡ Some told → r.now ≡ Some (told ++ frame_bytes (Go session own)) → (fault ≡ going.Link → ⊥) → false ≡ true
own-refused session own r going.Link to small digest told before now sound = absurd (sound refl)
own-refused session own r (going.NoGo heard) to small digest told before now sound =
    own-taken session own (frame_bytes (Go session own)) (Err (going.NoGo heard)) (again (Go session own) (record { session = small; body = digest }))
    (taken-by session own r told (frame_bytes (Go session own)) before now (Err (going.NoGo heard)) (λ same. absurd cc) to)
own-refused session own r (going.Other ours theirs) to small digest told before now sound =
    own-taken session own (frame_bytes (Go session own)) (Err (going.Other ours theirs))
    (again (Go session own) (record { session = small; body = digest }))
    (taken-by session own r told (frame_bytes (Go session own)) before now (Err (going.Other ours theirs)) (λ same. absurd cc) to)

-- in the machine of both ends
steps : (p : PairState) (session : ℕ) (own bytes : List ℕ) (result : Result CoreState GoFault) → p.dest ≡ dest.Staged own → IsGoOf p session bytes
    → TakenBy session own bytes (without_value result) → StepsPair p own result
steps p session own bytes (Ok core) at go taken = finish_ok p session own bytes at go taken
steps p session own bytes (Err going.Link) at go taken = tt
steps p session own bytes (Err (going.NoGo heard)) at go taken = subst IsNoGo (read_go p session bytes go) taken.1
steps p session own bytes (Err (going.Other ours theirs)) at go taken = finish_other p session own theirs bytes at go taken.2 taken.1

pub pair-steps : (p : PairState) (session : ℕ) (own : List ℕ) (r : Receipt) (told bytes : List ℕ) (result : Result CoreState GoFault)
    → TakesOver session own r (without_value result) → p.dest ≡ dest.Staged own → r.before ≡ Some told → r.now ≡ Some (told ++ bytes)
    → IsGoOf p session bytes → StepsPair p own result
pair-steps p session own r told bytes (Err going.Link) to at before now go = tt
pair-steps p session own r told bytes (Ok core) to at before now go =
    steps p session own bytes (Ok core) at go
    (taken-by session own r told bytes before now (Ok tt) (λ same. absurd cc) to)
pair-steps p session own r told bytes (Err (going.NoGo heard)) to at before now go =
    steps p session own bytes (Err (going.NoGo heard)) at go
    (taken-by session own r told bytes before now (Err (going.NoGo heard)) (λ same. absurd cc) to)
pair-steps p session own r told bytes (Err (going.Other ours theirs)) to at before now go =
    steps p session own bytes (Err (going.Other ours theirs)) at go
    (taken-by session own r told bytes before now (Err (going.Other ours theirs)) (λ same. absurd cc) to)

-- ---- what was taken over

pub joined : (before : List Entry) (old new : CoreState) → old.entries ≡ [] → FitsDesc new.desc new.world → HasTakenOver old new before → HasJoined before new
joined before old new none fit taken =
    let more = taken.on.more in
    let list : (more ++ Resume ∷ []) ++ before ≡ more ++ Resume ∷ before = append_assoc more (Resume ∷ []) before in
    let staged = taken.on.run.0 in
    record {
      more = more;
      journal = taken.on.journal ∙ ap (λ (entries : List Entry). (entries ++ Resume ∷ []) ++ reverse more) none;
      legal = subst (IsLegal new.desc) list staged.legal;
      clean = subst (IsClean new.desc) list (staged_clean new.desc before (more ++ Resume ∷ []) new.world fit staged);
      ended = taken.ended;
      machine =
          subst (λ (all : List Entry). plain new.desc (delivers (reverse all)) ≡ Some (machine_in new.world)) list
          (staged_plain new.desc before (more ++ Resume ∷ []) new.world fit staged);
    }
