-- Lists of requests: a queue numbered one more, and an item brought to the first place.
use Rattle.std.proofs.Common.{◌≡◌, ℕ, ◌+◌, ◌-◌, ◌<◌, ◌&&◌, Bool, true, false, Decides, eqb, eq-eqb, get_or, ap₂, List, [], ◌∷◌, ◌++◌, length, take, drop, remove, refl, sym, ap, ◌∙◌, add-one, append_assoc, arith}
use Rattle.std.proofs.lemmas.Bool.{false≢true}
use Rattle.std.proofs.lemmas.Bool.Decides.{Decides-eqb}
use Rattle.std.proofs.lemmas.List.{take_more, drop-drop, drop_at, take-take, length-take-le, length-drop}
use Rattle.vfm_types.specs.Machine.{numbered}

-- one more request is numbered
pub numbered-push : (n : ℕ) (jobs : List ℕ) (job : ℕ) → numbered n (jobs ++ job ∷ []) ≡ numbered n jobs ++ (n + length jobs, job) ∷ []
numbered-push n [] job = let e : n ≡ n + 0 = omega arith in ap (λ k. (k, job) ∷ []) e
numbered-push n (j ∷ jobs) job =
    let e : n + 1 + length jobs ≡ n + length (j ∷ jobs) = omega arith in
    ap (λ rest. (n, j) ∷ rest) (numbered-push (n + 1) jobs job ∙ ap (λ k. numbered (n + 1) jobs ++ (k, job) ∷ []) e)

-- the item at start + k is rotated to start
pub front_brought : {X : Type 0} → (xs ys : List X) (start k n : ℕ) → start + k < length xs → n ≡ k + 1 → ys ≡ drop (length (take n (drop start xs)) - 1) (take n (drop start xs)) ++ take (length (take n (drop start xs)) - 1) (take n (drop start xs)) → drop (start + 1) (take start xs ++ (ys ++ drop n (drop start xs))) ≡ remove (drop start xs) k
front_brought {X} xs ys start k n h en ey =
    let zs : List X = drop start xs in
    let all : ℕ = length (take n zs) in
    let count : all ≡ k + 1 = length-take-le n zs (omega (arith, length-drop start xs)) ∙ en in
    let last : all - 1 ≡ k = omega arith in
    let one : List X = drop k (take n zs) in
    let single : length one ≡ 1 = omega (arith, length-drop k (take n zs)) in
    let whole : length (take start xs) ≡ start = length-take-le start xs (omega arith) in
    sym (drop-drop 1 start (take start xs ++ (ys ++ drop n zs)))
    ∙ ap (drop 1) (drop_at (take start xs) (ys ++ drop n zs) start whole)
    ∙ ap (λ (w : List X). drop 1 (w ++ drop n zs)) (ey ∙ ap (λ (m : ℕ). drop m (take n zs) ++ take m (take n zs)) last)
    ∙ ap (drop 1) (append_assoc one (take k (take n zs)) (drop n zs))
    ∙ drop_at one (take k (take n zs) ++ drop n zs) 1 single
    ∙ ap (λ (w : List X). w ++ drop n zs) (take-take k n zs (omega arith))
    ∙ ap (λ (m : ℕ). take k zs ++ drop m zs) (en ∙ add-one k)

-- a queue's requests, one more of them numbered
pub numbered_more : (queue : List ℕ) (i : ℕ) (old new : List (ℕ × ℕ)) → i < length queue → old ≡ numbered 0 (take i queue) → new ≡ old ++ (i, get_or queue i 0) ∷ [] → new ≡ numbered 0 (take (i + 1) queue)
numbered_more queue i old new within numbered_old pushed =
    let count : 0 + length (take i queue) ≡ i = omega (arith, length-take-le i queue (omega arith)) in
    pushed ∙ ap (λ (xs : List (ℕ × ℕ)). xs ++ (i, get_or queue i 0) ∷ []) numbered_old
    ∙ ap (λ (k : ℕ). numbered 0 (take i queue) ++ (k, get_or queue i 0) ∷ []) (sym count)
    ∙ sym (numbered-push 0 (take i queue) (get_or queue i 0))
    ∙ ap (numbered 0) (sym (take_more queue i 0 within))

-- whether two requests are the same
pub request_Decides : (a b : ℕ × ℕ) → Decides (eqb a.0 b.0 && eqb a.1 b.1) (a ≡ b)
request_Decides a b = (λ h. same (both (eqb a.0 b.0) (eqb a.1 b.1) h), λ e. ap₂ (λ (x y : Bool). x && y) (eq-eqb a.0 b.0 (ap (λ (x : ℕ × ℕ). x.0) e)) (eq-eqb a.1 b.1 (ap (λ (x : ℕ × ℕ). x.1) e)))
  where
    both : (x y : Bool) → (x && y) ≡ true → (x ≡ true) × (y ≡ true)
    both true y h = (refl, h)
    both false y h = absurd (false≢true h)

    same : (eqb a.0 b.0 ≡ true) × (eqb a.1 b.1 ≡ true) → a ≡ b
    same h = ap₂ (λ (x y : ℕ). (x, y)) ((Decides-eqb a.0 b.0).0 h.0) ((Decides-eqb a.1 b.1).0 h.1)
