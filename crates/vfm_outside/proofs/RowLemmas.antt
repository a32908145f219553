-- Rows of new links, one pair after the other.
use Rattle.std.proofs.Common.{◌≡◌, ◌∙◌, sym, subst, ℕ, zero, suc, ◌+◌, ◌*◌, ◌<◌, List, [], ◌∷◌, ◌++◌, length, map, inl, inr, arith}
use Rattle.std.specs.Prelude.{slice_index_or}
use Rattle.std.specs.List.{All}
use Rattle.std.proofs.lemmas.Bool.{cases_lt}
use Rattle.std.proofs.lemmas.List.{length-append, get_or_append_left, get_or_push, map-append}
use Rattle.std.proofs.lemmas.List.Elements.{All-append}
use Rattle.vfm_outside.specs.declared.ring_link.RingLink.{RingLink}
use Rattle.vfm_outside.specs.Links.{Told, IsNew}
use Rattle.vfm_outside.specs.RingEnds.{ring_told, Settings, IsMade, AreMade, AreJoined, AreRows}

-- what holds of each place of a row holds of a row with one more, where it holds of that one
each_more : (P : ℕ → RingLink → Type 0) (row : List RingLink) (link : RingLink)
    → ((k : ℕ) (d : RingLink) → k < length row → P k (slice_index_or row k d)) → P (length row) link
    → (k : ℕ) (d : RingLink) → k < length (row ++ link ∷ []) → P k (slice_index_or (row ++ link ∷ []) k d)
each_more P row link each last k d below =
    elim (cases_lt k (length row)) [
      | inl lt ↦ subst (P k) (sym (get_or_append_left row (link ∷ []) d k lt)) (each k d lt)
      | inr le ↦
          let here : length row ≡ k = omega (arith, length-append row (link ∷ [])) in
          subst (P k) (sym (get_or_push row link d k here)) (subst (λ (n : ℕ). P n link) here last)
    ]

one_new : (link : RingLink) → IsNew (ring_told link) → (k : ℕ) (d : Told) → k < length (ring_told link ∷ []) → IsNew (slice_index_or (ring_told link ∷ []) k d)
one_new link is zero d below = is
one_new link is (suc k) d below = absurd (omega arith)

all_new_more : (row : List RingLink) (link : RingLink) → All IsNew (map ring_told row) → IsNew (ring_told link) → All IsNew (map ring_told (row ++ link ∷ []))
all_new_more row link each last =
    subst (All IsNew) (sym (map-append ring_told row (link ∷ [])))
    (All-append IsNew (map ring_told row) (ring_told link ∷ []) each (one_new link last))

made_more : (settings : Settings) (first k : ℕ) (row : List RingLink) (link : RingLink) → length row ≡ k → AreMade settings first row
    → IsMade settings (first + 2 * k) link → AreMade settings first (row ++ link ∷ [])
made_more settings first k row link count each last =
    each_more (λ n l. IsMade settings (first + 2 * n) l) row link each
    (subst (λ (n : ℕ). IsMade settings (first + 2 * n) link) (sym count) last)

joined_more : (source dest : List RingLink) (near far : RingLink) → length source ≡ length dest
    → ((k : ℕ) (d e : RingLink) → k < length source → AreJoined (slice_index_or source k d) (slice_index_or dest k e)) → AreJoined near far
    → (k : ℕ) (d e : RingLink) → k < length (source ++ near ∷ []) → AreJoined (slice_index_or (source ++ near ∷ []) k d) (slice_index_or (dest ++ far ∷ []) k e)
joined_more source dest near far counts each last k d e below =
    elim (cases_lt k (length source)) [
      | inl lt ↦
          let there : k < length dest = omega (arith, counts) in
          subst (λ (l : RingLink). AreJoined (slice_index_or (source ++ near ∷ []) k d) l) (sym (get_or_append_left dest (far ∷ []) e k there))
          (subst (λ (l : RingLink). AreJoined l (slice_index_or dest k e)) (sym (get_or_append_left source (near ∷ []) d k lt)) (each k d e lt))
      | inr le ↦
          let here : length source ≡ k = omega (arith, length-append source (near ∷ [])) in
          subst (λ (l : RingLink). AreJoined (slice_index_or (source ++ near ∷ []) k d) l) (sym (get_or_push dest far e k (sym counts ∙ here)))
          (subst (λ (l : RingLink). AreJoined l far) (sym (get_or_push source near d k here)) last)
    ]

-- one more channel
pub rows_more : (settings : Settings) (k : ℕ) (source dest : List RingLink) (near far : RingLink) → AreRows settings k source dest
    → IsNew (ring_told near) → IsNew (ring_told far) → IsMade settings (2 + 2 * k) near → IsMade settings (2 + 2 * k + 1) far
    → AreJoined near far → AreRows settings (k + 1) (source ++ near ∷ []) (dest ++ far ∷ [])
rows_more settings k source dest near far rows near_new far_new near_made far_made joined =
    let number : 2 + 2 * k + 1 ≡ 3 + 2 * k = omega arith in
    record {
      source_count = omega (arith, length-append source (near ∷ []), rows.source_count);
      dest_count = omega (arith, length-append dest (far ∷ []), rows.dest_count);
      source_new = all_new_more source near rows.source_new near_new;
      dest_new = all_new_more dest far rows.dest_new far_new;
      source_made = made_more settings 2 k source near rows.source_count rows.source_made near_made;
      dest_made = made_more settings 3 k dest far rows.dest_count rows.dest_made (subst (λ (n : ℕ). IsMade settings n far) number far_made);
      joined = joined_more source dest near far (rows.source_count ∙ sym rows.dest_count) rows.joined joined;
    }
