-- The pending requests of a device, cut into records: each can stand behind the counts and those before it.
use Rattle.std.proofs.Common.{◌≡◌, ℕ, zero, suc, ◌+◌, ◌*◌, ◌^◌, ◌<◌, ◌≤◌, ◌&&◌, not, Bool, true, false, if◌then◌else◌, nat_lt, nat_le, List, [], ◌∷◌, ◌++◌, length, map, take, drop, Option, Some, None, refl, ap, sym, ◌∙◌, subst, arith, append_assoc, length-append}
use Rattle.std.specs.Prelude.{min}
use Rattle.std.specs.List.{AllByRecursion}
use Rattle.std.proofs.lemmas.Bool.{lt-ltb, le-leb, le-ltb}
use Rattle.std.proofs.lemmas.List.{length-take}
use Rattle.vfm_types.specs.declared.desc.Desc.{Desc}
use Rattle.vfm_types.specs.Desc.{shape_at}
use Rattle.vfm_laws.specs.Queues.{IsRising}
use Rattle.vfm_laws.proofs.Rising.{rising_low}
use Rattle.vfm_record.specs.Record.{Record, Pending, FitsPair, shape_of_stream, IsRecordOf}
use Rattle.vfm_streams.specs.Sent.{chunks}
use Rattle.vfm_streams.specs.Packets.{kind_of}
use Rattle.vfm_streams.specs.Loaded.{has_engine, engine_device, engine_pend, all_pairs}
use Rattle.vfm_streams.specs.Judged.{AllFit, number_after, pairs_fault, pending_fault, stand_fault}
use Rattle.vfm_streams.proofs.Chunks.{joined}
use Rattle.vfm_streams.proofs.ClosedRecords.{onto}
use Rattle.vfm_stream_laws.proofs.FitRecords.{shape_is}

-- a piece that one record can have
abbrev pub IsPiece : List (ℕ × ℕ) → Type 0
IsPiece piece = (1 ≤ length piece) × (length piece ≤ 4096)

-- the pieces of a cut list
pub pieces_of : (most size : ℕ) (xs : List (ℕ × ℕ)) → 1 ≤ size → size ≤ 4096 → AllByRecursion IsPiece (chunks most size xs)
pieces_of zero size xs some few = tt
pieces_of (suc most) size [] some few = tt
pieces_of (suc most) size (x ∷ xs) some few =
    let len : length (take size (x ∷ xs)) ≡ min size (suc (length xs)) = length-take size (x ∷ xs) in
    ((omega arith, omega arith), pieces_of most size (drop size (x ∷ xs)) some few)

-- numbers that rise behind others
rising_behind : (low : ℕ) (front back : List (ℕ × ℕ)) (high : ℕ) → IsRising low (front ++ back) high → IsRising (number_after low front) back high
rising_behind low [] back high rising = rising
rising_behind low (r ∷ front) back high rising = rising_behind (r.0 + 1) front back high rising.1

-- requests that were accepted, of jobs that are there
abbrev pub AllJobs : ℕ → List (ℕ × ℕ) → Type 0
AllJobs jobs pairs = AllByRecursion (λ (r : ℕ × ℕ). r.1 < jobs) pairs

no_pair_fault : (accepted jobs low i : ℕ) (piece rest : List (ℕ × ℕ)) → IsRising low (piece ++ rest) accepted → AllJobs jobs piece
    → pairs_fault accepted jobs low i piece ≡ None
no_pair_fault accepted jobs low i [] rest rising all = refl
no_pair_fault accepted jobs low i (r ∷ piece) rest rising all =
    let above : r.0 + 1 ≤ accepted = rising_low (r.0 + 1) (piece ++ rest) accepted rising.1 in
    ap₃ (nat_le low r.0) (nat_lt r.0 accepted) (nat_lt r.1 jobs) (pairs_fault accepted jobs (r.0 + 1) (i + 1) piece)
    (le-leb low r.0 rising.0) (lt-ltb r.0 accepted (omega arith)) (lt-ltb r.1 jobs all.0)
    ∙ no_pair_fault accepted jobs (r.0 + 1) (i + 1) piece rest rising.1 all.1
  where
    ap₃ : (a b c : Bool) (o : Option ℕ) → a ≡ true → b ≡ true → c ≡ true
        → (if not (a && b) then Some (3 + 8 * i) else (if not c then Some (7 + 8 * i) else o)) ≡ o
    ap₃ true true true o x y z = refl
    ap₃ false b c o x y z = absurd (cc)
    ap₃ true false c o x y z = absurd (cc)
    ap₃ true true false o x y z = absurd (cc)

all_front : (jobs : ℕ) (piece rest : List (ℕ × ℕ)) → AllJobs jobs (piece ++ rest) → AllJobs jobs piece × AllJobs jobs rest
all_front jobs [] rest all = (tt, all)
all_front jobs (r ∷ piece) rest all = let parts = all_front jobs piece rest all.1 in ((all.0, parts.0), parts.1)

pairs_fit : (low accepted jobs : ℕ) (piece rest : List (ℕ × ℕ)) → IsRising low (piece ++ rest) accepted → accepted < 2 ^ 32 → jobs ≤ 2 ^ 32 → AllJobs jobs piece
    → AllByRecursion FitsPair piece
pairs_fit low accepted jobs [] rest rising few some all = tt
pairs_fit low accepted jobs (r ∷ piece) rest rising few some all =
    let above : r.0 + 1 ≤ accepted = rising_low (r.0 + 1) (piece ++ rest) accepted rising.1 in
    let job : r.1 < jobs = all.0 in
    ((omega arith, omega arith), pairs_fit (r.0 + 1) accepted jobs piece rest rising.1 few some all.1)

-- what stands before pieces of pending requests: the counts of the device, and the requests before these
pub record Behind (D : Desc) (d accepted : ℕ) (pending : List (ℕ × ℕ)) (older : List Record) (front back : List (ℕ × ℕ)) : Type 0 where
  pub counted : has_engine older ≡ true
  pub announced : engine_pend older ≡ length pending
  pub numbers : (engine_device older).accepted ≡ accepted
  pub came : all_pairs older ≡ front
  pub all : pending ≡ front ++ back

module _ (D : Desc) (d accepted : ℕ) (pending : List (ℕ × ℕ)) (few : accepted < 2 ^ 32) (some : length (shape_at D d).jobs ≤ 2 ^ 32)
    (rising : IsRising 0 pending accepted) (jobs : AllJobs (length (shape_at D d).jobs) pending) where
  piece_fits : (front piece rest : List (ℕ × ℕ)) → IsPiece piece → pending ≡ front ++ (piece ++ rest) → IsRecordOf D (suc d) (Pending piece)
  piece_fits front piece rest is all =
      let behind = rising_behind 0 front (piece ++ rest) accepted (subst (λ (xs : List (ℕ × ℕ)). IsRising 0 xs accepted) all rising) in
      let these = (all_front (length (shape_at D d).jobs) piece rest
      (all_front (length (shape_at D d).jobs) front (piece ++ rest) (subst (AllJobs (length (shape_at D d).jobs)) all jobs)).1).0 in
      record {
        fits = (omega arith, pairs_fit (number_after 0 front) accepted (length (shape_at D d).jobs) piece rest behind few some these);
        of = (omega arith, is.0, is.1);
      }

  piece_stands : (older : List Record) (front piece rest : List (ℕ × ℕ)) → Behind D d accepted pending older front (piece ++ rest)
      → stand_fault D (suc d) (kind_of (Pending piece)) older (Pending piece) ≡ None
  piece_stands older front piece rest behind =
      ap (λ (b : Bool). if not false && b then pending_fault D (suc d) older piece else Some 0) behind.counted
      ∙ ap (λ (b : Bool). if b then Some 1 else pairs_fault (engine_device older).accepted (length (shape_of_stream D (suc d)).jobs) (number_after 0 (all_pairs older)) 0 piece) room
      ∙ ap (λ (k : ℕ). pairs_fault k (length (shape_of_stream D (suc d)).jobs) (number_after 0 (all_pairs older)) 0 piece) behind.numbers
      ∙ ap (λ (shape : _). pairs_fault accepted (length shape.jobs) (number_after 0 (all_pairs older)) 0 piece) (shape_is D d)
      ∙ ap (λ (xs : List (ℕ × ℕ)). pairs_fault accepted (length (shape_at D d).jobs) (number_after 0 xs) 0 piece) behind.came
      ∙ no_pair_fault accepted (length (shape_at D d).jobs) (number_after 0 front) 0 piece rest
      (rising_behind 0 front (piece ++ rest) accepted (subst (λ (xs : List (ℕ × ℕ)). IsRising 0 xs accepted) behind.all rising))
      (all_front (length (shape_at D d).jobs) piece rest
      (all_front (length (shape_at D d).jobs) front (piece ++ rest) (subst (AllJobs (length (shape_at D d).jobs)) behind.all jobs)).1).0
    where
      room : nat_lt (engine_pend older) (length (all_pairs older) + length piece) ≡ false
      room =
          let total : length pending ≡ length front + length (piece ++ rest) = ap (length {A = ℕ × ℕ}) behind.all ∙ length-append front (piece ++ rest) in
          let part : length (piece ++ rest) ≡ length piece + length rest = length-append piece rest in
          let came : length (all_pairs older) ≡ length front = ap (length {A = ℕ × ℕ}) behind.came in
          let announced : engine_pend older ≡ length pending = behind.announced in
          le-ltb (engine_pend older) (length (all_pairs older) + length piece) (omega arith)

  pub pieces_fit : (pieces : List (List (ℕ × ℕ))) (older : List Record) (front : List (ℕ × ℕ)) → AllByRecursion IsPiece pieces
      → Behind D d accepted pending older front (joined pieces) → AllFit D (suc d) older → AllFit D (suc d) (onto (map Pending pieces) older)
  pieces_fit [] older front each behind fit = fit
  pieces_fit (piece ∷ pieces) older front each behind fit =
      pieces_fit pieces (Pending piece ∷ older) (front ++ piece) each.1
      (record {
        counted = behind.counted;
        announced = behind.announced;
        numbers = behind.numbers;
        came = ap (λ (xs : List (ℕ × ℕ)). xs ++ piece) behind.came;
        all = behind.all ∙ sym (append_assoc front piece (joined pieces));
      })
      (piece_fits front piece (joined pieces) each.0 behind.all, piece_stands older front piece (joined pieces) behind, fit)
