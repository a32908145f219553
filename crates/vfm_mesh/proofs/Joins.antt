-- A mesh with one stream more is a mesh.
use Rattle.std.proofs.Common.{◌≡◌, ◌∙◌, refl, sym, ap, subst, ℕ, zero, suc, ◌<◌, ◌≤◌, List, [], ◌∷◌, ◌++◌, length, take, drop, slice_index_or, slice_set, arith, ⊎_elim}
use Rattle.std.proofs.lemmas.Bool.{cases_lt}
use Rattle.std.proofs.lemmas.List.{length-append, get_or_append_left}
use Rattle.vfm_mesh.specs.Feeds.{RingId}
use Rattle.vfm_mesh.specs.Meshes.{appended, IsStream, AreJoined}

pub length-appended : {X : Type 0} (rows : List (List X)) (xs : List X) → length (appended rows xs) ≡ length rows
length-appended [] xs = refl
length-appended (row ∷ rows) [] = refl
length-appended (row ∷ rows) (x ∷ xs) = ap suc (length-appended rows xs)

-- one row more has its element
pub appended-more : {X : Type 0} (rows : List (List X)) (xs : List X) (k : ℕ) (x : X) → length xs ≡ k → k < length rows
    → slice_set (appended (take k rows) xs ++ drop k rows) k (slice_index_or (appended (take k rows) xs ++ drop k rows) k [] ++ x ∷ [])
    ≡ appended (take (suc k) rows) (xs ++ x ∷ []) ++ drop (suc k) rows
appended-more [] xs k x len inside = absurd (omega (arith, inside))
appended-more (row ∷ rows) [] zero x len inside = refl
appended-more (row ∷ rows) [] (suc k) x len inside = absurd (omega (arith, len))
appended-more (row ∷ rows) (y ∷ xs) zero x len inside = absurd (omega (arith, len))
appended-more (row ∷ rows) (y ∷ xs) (suc k) x len inside =
    ap (λ (l : List (List _)). (row ++ y ∷ []) ∷ l) (appended-more rows xs k x (omega (arith, len)) (omega (arith, inside)))

-- a row with one element more, which is that of the list
record Longer {X : Type 0} (rows : List (List X)) (xs : List X) (k : ℕ) : Type 0 where
  item : X
  row : slice_index_or (appended rows xs) k [] ≡ slice_index_or rows k [] ++ item ∷ []
  at : (d : X) → slice_index_or xs k d ≡ item

longer : {X : Type 0} (rows : List (List X)) (xs : List X) (k : ℕ) → length xs ≡ length rows → k < length rows → Longer rows xs k
longer [] xs k same inside = absurd (omega (arith, inside))
longer (row ∷ rows) [] k same inside = absurd (omega (arith, same))
longer (row ∷ rows) (x ∷ xs) zero same inside = record { item = x; row = refl; at = λ d. refl }
longer (row ∷ rows) (x ∷ xs) (suc k) same inside =
    let l = longer rows xs k (omega (arith, same)) (omega (arith, inside)) in
    record { item = l.item; row = l.row; at = l.at }

-- the element behind a list
last-of : {X : Type 0} (xs : List X) (x : X) (n : ℕ) (d : X) → length xs ≡ n → slice_index_or (xs ++ x ∷ []) n d ≡ x
last-of [] x zero d len = refl
last-of [] x (suc n) d len = absurd (omega (arith, len))
last-of (y ∷ xs) x zero d len = absurd (omega (arith, len))
last-of (y ∷ xs) x (suc n) d len = last-of xs x n d (omega (arith, len))

module _ (fans funnels : List (List RingId)) (rings : List RingId) (mesh : AreJoined fans funnels) (same : length rings ≡ length fans) where
  len : length (appended fans rings) ≡ length fans
  len = length-appended fans rings

  -- the streams that were there
  old_stream : (s : ℕ) → s < length funnels → IsStream (appended fans rings) (slice_index_or funnels s []) s
  old_stream s below =
      let old = mesh.each s below in
      record {
        channels = old.channels ∙ sym len;
        inside = λ k inside.
            let l = longer fans rings k same (omega (arith, inside, len)) in
            let before = old.inside k (omega (arith, inside, len)) in
            subst (λ (row : List RingId). s < length row) (sym l.row) (omega (arith, before, length-append (slice_index_or fans k []) (l.item ∷ [])));
        joined = λ k d inside.
            let l = longer fans rings k same (omega (arith, inside, len)) in
            ap (λ (row : List RingId). slice_index_or row s d) l.row
            ∙ get_or_append_left (slice_index_or fans k []) (l.item ∷ []) d s (old.inside k (omega (arith, inside, len)))
            ∙ old.joined k d (omega (arith, inside, len));
      }

  -- the new one
  new_stream : IsStream (appended fans rings) rings (length funnels)
  new_stream = record {
    channels = same ∙ sym len;
    inside = λ k inside.
        let l = longer fans rings k same (omega (arith, inside, len)) in
        let count = mesh.streams k (omega (arith, inside, len)) in
        subst (λ (row : List RingId). length funnels < length row) (sym l.row) (omega (arith, count, length-append (slice_index_or fans k []) (l.item ∷ [])));
    joined = λ k d inside.
        let l = longer fans rings k same (omega (arith, inside, len)) in
        let count = mesh.streams k (omega (arith, inside, len)) in
        ap (λ (row : List RingId). slice_index_or row (length funnels) d) l.row
        ∙ last-of (slice_index_or fans k []) l.item (length funnels) d count
        ∙ sym (l.at d);
  }

  pub stream-more : AreJoined (appended fans rings) (funnels ++ rings ∷ [])
  stream-more = record {
    streams = λ k inside.
        let l = longer fans rings k same (omega (arith, inside, len)) in
        let count = mesh.streams k (omega (arith, inside, len)) in
        ap (λ (row : List RingId). length row) l.row
        ∙ omega (arith, count, length-append (slice_index_or fans k []) (l.item ∷ []), length-append funnels (rings ∷ []));
    each = λ s inside.
        ⊎_elim
        (λ (below : s < length funnels).
        subst (λ (l : List RingId). IsStream (appended fans rings) l s) (sym (get_or_append_left funnels (rings ∷ []) [] s below)) (old_stream s below))
        (λ (above : length funnels ≤ s).
        let last : length funnels ≡ s = omega (arith, above, inside, length-append funnels (rings ∷ [])) in
        subst (λ (t : ℕ). IsStream (appended fans rings) (slice_index_or (funnels ++ rings ∷ []) t []) t) last
        (subst (λ (l : List RingId). IsStream (appended fans rings) l (length funnels)) (sym (last-of funnels rings (length funnels) [] refl)) new_stream))
        (cases_lt s (length funnels));
  }
