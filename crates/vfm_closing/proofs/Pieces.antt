-- Pending requests as records, piece by piece.
use Rattle.std.specs.Prelude.{min}
use Rattle.std.proofs.Common.{◌≡◌, ◌∙◌, refl, sym, ap, ap₂, subst, ℕ, zero, suc, ◌+◌, ◌-◌, ◌<◌, ◌≤◌, Option, List, [], ◌∷◌, length, map, take, drop, slice_index_or, arith, ⊎_elim}
use Rattle.std.proofs.lemmas.Bool.{cases_lt}
use Rattle.std.proofs.lemmas.List.{length-drop, length-map, take_all, drop_all}
use Rattle.vfm_types.specs.declared.desc.Desc.{Desc}
use Rattle.vfm_record.specs.Record.{Record, Pending}
use Rattle.vfm_streams.specs.Sent.{Sent, push, push_all, chunks, pairs_of_a_record, pending_records}
use Rattle.vfm_streams.proofs.Costs.{few_chunks}
use Rattle.vfm_outlets.specs.declared.outlets.Outlets.{Outlets}
use Rattle.vfm_outlets.specs.Carrying.{Carries}
use Rattle.vfm_closing.specs.Closing.{CarriesPart}
use Rattle.vfm_closing.proofs.Parts.{grows_all, whole_part}
use Rattle.vfm_closing.proofs.Room.{index_of, pushed_length}

chunks_none : (most size : ℕ) → chunks {X = ℕ × ℕ} most size [] ≡ []
chunks_none zero size = refl
chunks_none (suc most) size = refl

-- more room for pieces than there are makes no other pieces
enough_pieces : (a b size : ℕ) (xs : List (ℕ × ℕ)) → 0 < size → length xs ≤ a → length xs ≤ b → chunks a size xs ≡ chunks b size xs
enough_pieces a b size [] some first second = chunks_none a size ∙ sym (chunks_none b size)
enough_pieces zero b size (x ∷ xs) some first second = absurd (omega (arith, first))
enough_pieces (suc a) zero size (x ∷ xs) some first second = absurd (omega (arith, second))
enough_pieces (suc a) (suc b) size (x ∷ xs) some first second =
    let left : length (drop size (x ∷ xs)) ≡ suc (length xs) - size = length-drop size (x ∷ xs) in
    ap (λ (rest : List (List (ℕ × ℕ))). take size (x ∷ xs) ∷ rest)
    (enough_pieces a b size (drop size (x ∷ xs)) some (omega (arith, left, some, first)) (omega (arith, left, some, second)))

-- one piece and the rest
cut_once : (size : ℕ) (xs : List (ℕ × ℕ)) → 0 < size → 0 < length xs
    → chunks (length xs) size xs ≡ take size xs ∷ chunks (length (drop size xs)) size (drop size xs)
cut_once size [] some more = absurd (omega (arith, more))
cut_once size (x ∷ xs) some more =
    let left : length (drop size (x ∷ xs)) ≡ suc (length xs) - size = length-drop size (x ∷ xs) in
    ap (λ (rest : List (List (ℕ × ℕ))). take size (x ∷ xs) ∷ rest)
    (enough_pieces (length xs) (length (drop size (x ∷ xs))) size (drop size (x ∷ xs)) some (omega (arith, left, some)) (omega arith))

-- a size above the length is as good as the length
take_least : (size : ℕ) (xs : List (ℕ × ℕ)) → take (min (length xs) size) xs ≡ take size xs
take_least size xs =
    ⊎_elim
    (λ (low : length xs < size).
    let is : min (length xs) size ≡ length xs = omega (arith, low) in
    ap (λ (n : ℕ). take n xs) is ∙ take_all (length xs) xs (omega arith) ∙ sym (take_all size xs (omega (arith, low))))
    (λ (high : size ≤ length xs).
    let is : min (length xs) size ≡ size = omega (arith, high) in ap (λ (n : ℕ). take n xs) is)
    (cases_lt (length xs) size)

drop_least : (size : ℕ) (xs : List (ℕ × ℕ)) → drop (min (length xs) size) xs ≡ drop size xs
drop_least size xs =
    ⊎_elim
    (λ (low : length xs < size).
    let is : min (length xs) size ≡ length xs = omega (arith, low) in
    ap (λ (n : ℕ). drop n xs) is ∙ drop_all (length xs) xs (omega arith) ∙ sym (drop_all size xs (omega (arith, low))))
    (λ (high : size ≤ length xs).
    let is : min (length xs) size ≡ size = omega (arith, high) in ap (λ (n : ℕ). drop n xs) is)
    (cases_lt (length xs) size)

-- the first record of pending requests, and the others
pub pending_first : (xs : List (ℕ × ℕ)) → 0 < length xs
    → pending_records xs ≡ Pending (take (min (length xs) 4096) xs) ∷ pending_records (drop (min (length xs) 4096) xs)
unfolding pairs_of_a_record
pending_first xs more =
    ap (map Pending) (cut_once 4096 xs (omega arith) more)
    ∙ ap₂ (λ (piece rest : List (ℕ × ℕ)). Pending piece ∷ map Pending (chunks (length rest) 4096 rest)) (sym (take_least 4096 xs)) (sym (drop_least 4096 xs))

-- no pending requests make no records
pub pending_none : (xs : List (ℕ × ℕ)) → length xs ≡ 0 → pending_records xs ≡ []
pending_none [] none = refl
pending_none (x ∷ xs) none = absurd (omega (arith, none))

-- there are at most 13 records of them
pub few_records : (xs : List (ℕ × ℕ)) → length xs ≤ 50000 → length (pending_records xs) ≤ 13
unfolding pairs_of_a_record
few_records xs few =
    let records : length (pending_records xs) ≡ length (chunks (length xs) 4096 xs) = length-map (chunks (length xs) 4096 xs) Pending in
    omega (arith, records, few_chunks (length xs) 4096 xs, few)

-- ---- some of them put

-- the pending requests of a stream, what was carried before them, and those that are left
pub record Putting : Type 0 where
  pub stream : ℕ
  pub pairs : List (ℕ × ℕ)
  pub before : List Sent
  pub rest : List (ℕ × ℕ)

-- what is carried now, and what is left, are together all of them after what was carried before
pub record PutSoFar {L : Type 0} (sent : L → Option (List ℕ)) (D : Desc) (starts : List (Option (List ℕ))) (outlets : Outlets L) (p : Putting) : Type 0 where
  pub now : List Sent
  pub carries : Carries sent D starts now outlets
  pub goes_on : push_all p.stream (pending_records p.rest) now ≡ push_all p.stream (pending_records p.pairs) p.before

-- nothing is put yet
pub none_put : {L : Type 0} (sent : L → Option (List ℕ)) (D : Desc) (starts : List (Option (List ℕ))) (outlets : Outlets L) (stream : ℕ)
    (pairs : List (ℕ × ℕ)) (all : List Sent) → Carries sent D starts all outlets
    → PutSoFar sent D starts outlets (record { stream = stream; pairs = pairs; before = all; rest = pairs })
none_put sent D starts outlets stream pairs all carried = record { now = all; carries = carried; goes_on = refl }

-- there is an index for the next one, since there are at most 13
pub room_for_next : {L : Type 0} (sent : L → Option (List ℕ)) (D : Desc) (starts : List (Option (List ℕ))) (outlets : Outlets L) (p : Putting)
    → PutSoFar sent D starts outlets p → length p.pairs ≤ 50000 → 0 < length p.rest → length p.before + 13 ≤ 4294967295 → p.stream ≤ 8
    → slice_index_or outlets.counts p.stream 0 < 4294967295
room_for_next sent D starts outlets p so few more room low =
    let both : length so.now + length (pending_records p.rest) ≡ length p.before + length (pending_records p.pairs) =
    sym (pushed_length p.stream (pending_records p.rest) so.now) ∙ ap (length {A = Sent}) so.goes_on
    ∙ pushed_length p.stream (pending_records p.pairs) p.before in
    let next : length (pending_records p.rest) ≡ suc (length (pending_records (drop (min (length p.rest) 4096) p.rest))) =
    ap (length {A = Record}) (pending_first p.rest more) in
    index_of sent D starts so.now outlets p.stream so.carries (omega (arith, both, next, few_records p.pairs few, room)) low

-- one more is put
pub one_put : {L : Type 0} (sent : L → Option (List ℕ)) (D : Desc) (starts : List (Option (List ℕ))) (old new : Outlets L) (p : Putting)
    (piece after : List (ℕ × ℕ)) → (so : PutSoFar sent D starts old p) → 0 < length p.rest
    → piece ≡ take (min (length p.rest) 4096) p.rest → after ≡ drop (min (length p.rest) 4096) p.rest
    → Carries sent D starts (push p.stream (Pending piece) so.now) new → PutSoFar sent D starts new (record p { rest = after })
one_put sent D starts old new p piece after so more is left carried =
    record {
      now = push p.stream (Pending piece) so.now;
      carries = carried;
      goes_on =
          ap₂ (λ (front back : List (ℕ × ℕ)). push_all p.stream (pending_records back) (push p.stream (Pending front) so.now)) is left
          ∙ ap (λ (records : List Record). push_all p.stream records so.now) (sym (pending_first p.rest more))
          ∙ so.goes_on;
    }

-- all are put
pub all_put : {L : Type 0} (sent : L → Option (List ℕ)) (D : Desc) (starts : List (Option (List ℕ))) (outlets : Outlets L) (p : Putting)
    → PutSoFar sent D starts outlets p → length p.rest ≡ 0 → Carries sent D starts (push_all p.stream (pending_records p.pairs) p.before) outlets
all_put sent D starts outlets p so none =
    subst (λ (all : List Sent). Carries sent D starts all outlets)
    (ap (λ (records : List Record). push_all p.stream records so.now) (sym (pending_none p.rest none)) ∙ so.goes_on) so.carries

-- the rest isn't put
pub some_put : {L : Type 0} (sent : L → Option (List ℕ)) (D : Desc) (starts : List (Option (List ℕ))) (old new : Outlets L) (p : Putting)
    → (so : PutSoFar sent D starts old p) → Carries sent D starts so.now new
    → CarriesPart sent D starts (push_all p.stream (pending_records p.pairs) p.before) new
some_put sent D starts old new p so carried =
    subst (λ (whole : List Sent). CarriesPart sent D starts whole new) so.goes_on
    (whole_part sent D starts so.now (push_all p.stream (pending_records p.rest) so.now) new
    (grows_all p.stream (pending_records p.rest) so.now) carried)
