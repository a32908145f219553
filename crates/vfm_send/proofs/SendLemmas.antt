-- Steps of bytes through a sender.
use Rattle.std.proofs.Common.{◌≡◌, ◌∙◌, refl, sym, ap, ℕ, ◌+◌, ◌-◌, ◌≤◌, Option, List, [], ◌++◌, length, take, drop, arith}
use Rattle.std.proofs.lemmas.List.{take-append-drop, drop-drop, take_rest, length-append, take_at, drop_at, drop_all}
use Rattle.std.proofs.Math.Seq.{take-add}
use borrow.Rule.Slice.PartMut.{put_mid}
use Rattle.vfm_outside.specs.Told.{with_appended, with_appended-with_appended}
use Rattle.vfm_send.specs.Sends.{SentPrefix}

-- what was given stays where some of what is left is sent
pub given_stays : (start now : Option (List ℕ)) (items lent : List ℕ) (at k : ℕ) → lent ≡ items
    → now ≡ with_appended start (take k (take (length lent - at) (drop at lent)))
    → with_appended now (drop (at + k) items) ≡ with_appended start (drop at items)
given_stays start now items lent at k same sent =
    let piece : take (length lent - at) (drop at lent) ≡ drop at items = take_rest lent at ∙ ap (λ (l : List ℕ). drop at l) same in
    ap (λ (o : Option (List ℕ)). with_appended o (drop (at + k) items)) (sent ∙ ap (λ (l : List ℕ). with_appended start (take k l)) piece)
    ∙ with_appended-with_appended start (take k (drop at items)) (drop (at + k) items)
    ∙ ap (λ (l : List ℕ). with_appended start (take k (drop at items) ++ l)) (sym (drop-drop k at items))
    ∙ ap (with_appended start) (take-append-drop k (drop at items))

-- a list, and a prefix of what follows it, are a prefix of both
pub take-after : (first rest : List ℕ) (n k : ℕ) → length first ≡ n → take (n + k) (first ++ rest) ≡ first ++ take k rest
take-after first rest n k len =
    take-add n k (first ++ rest)
    ∙ ap (λ (l : List ℕ). l ++ take k (drop n (first ++ rest))) (take_at first rest n len)
    ∙ ap (λ (l : List ℕ). first ++ take k l) (drop_at first rest n len)

-- all that was left is sent, and a prefix of the mark
pub prefix_more : (start mid now : Option (List ℕ)) (left mark : List ℕ) (k : ℕ)
    → mid ≡ with_appended start left → now ≡ with_appended mid (take k mark) → k ≤ length mark → SentPrefix start now (left ++ mark)
prefix_more start mid now left mark k all more within = record {
  count = length left + k;
  within = omega (arith, length-append left mark);
  sent =
      more
      ∙ ap (λ (o : Option (List ℕ)). with_appended o (take k mark)) all
      ∙ with_appended-with_appended start left (take k mark)
      ∙ ap (with_appended start) (sym (take-after left mark (length left) k refl));
}

-- the bytes of a mark in its array
pub mark_is : (first zeros digest head : List ℕ) (n : ℕ) → length head ≡ 40 → length zeros ≡ 32 → first ≡ head
    → take (40 + n) (put_mid 40 32 (first ++ zeros) digest) ≡ head ++ take n (digest ++ [])
mark_is first zeros digest head n len blank same =
    let first_len : length first ≡ 40 = ap length same ∙ len in
    let none : drop 32 (drop 40 (first ++ zeros)) ≡ [] = ap (λ (l : List ℕ). drop 32 l) (drop_at first zeros 40 first_len) ∙ drop_all 32 zeros (omega (arith, blank)) in
    let whole : put_mid 40 32 (first ++ zeros) digest ≡ first ++ (digest ++ []) =
    ap (λ (l : List ℕ). l ++ (digest ++ drop 32 (drop 40 (first ++ zeros)))) (take_at first zeros 40 first_len)
    ∙ ap (λ (l : List ℕ). first ++ (digest ++ l)) none in
    ap (λ (l : List ℕ). take (40 + n) l) whole
    ∙ take-after first (digest ++ []) 40 n first_len
    ∙ ap (λ (l : List ℕ). l ++ take n (digest ++ [])) same
