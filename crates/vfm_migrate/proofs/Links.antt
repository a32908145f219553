-- Links by what they tell: one link at a place, what was new, and fronts of what was sent.
use Rattle.std.proofs.Common.{◌≡◌, ℕ, zero, suc, ◌+◌, ◌-◌, ◌<◌, ◌≤◌, false, List, [], ◌∷◌, ◌++◌, length, map, take, drop, slice_get, slice_index_or, Option, None, Some, IfSome, refl, ap, sym, ◌∙◌, subst, arith, append-nil, ⊎_elim}
use Rattle.std.proofs.lemmas.Bool.{cases_lt}
use Rattle.std.proofs.lemmas.List.{take-append-drop, take-append-le}
use Rattle.std.proofs.Math.Seq.{take-append-add}
use Rattle.std.specs.Option.{IsSomeAnd}
use Rattle.vfm_outside.specs.Told.{TellsNone, with_appended}
use Rattle.vfm_outside.specs.Links.{Told}
use Rattle.vfm_move.specs.Contact.{Line}
use Rattle.vfm_move.specs.Carried.{IsFront}

-- what two functions say of the link at a place
pub same_at : {L A B X : Type 0} (f : L → A) (g : L → B) (of_first : A → X) (of_second : B → X)
    → ((link : L) → of_first (f link) ≡ of_second (g link))
    → (links : List L) (k : ℕ) (a : A) (b : B) → k < length links
    → of_first (slice_index_or (map f links) k a) ≡ of_second (slice_index_or (map g links) k b)
same_at f g of_first of_second same [] k a b inside = absurd (omega (arith, inside))
same_at f g of_first of_second same (link ∷ links) zero a b inside = same link
same_at f g of_first of_second same (link ∷ links) (suc k) a b inside =
    same_at f g of_first of_second same links k a b (omega (arith, inside))

-- what holds at each place holds of what is got there
pub got : {X : Type 0} (P : ℕ → X → Type 0) (xs : List X)
    → ((k : ℕ) (d : X) → k < length xs → P k (slice_index_or xs k d)) → (k : ℕ)
    → IfSome (slice_get xs k) (P k)
got P [] each k = tt
got P (x ∷ xs) each zero = each 0 x (omega arith)
got {X} P (x ∷ xs) each (suc k) =
    got (λ (j : ℕ) (y : X). P (suc j) y) xs (λ j d inside. each (suc j) d (omega (arith, inside))) k

-- a fact of what is there, made of another
pub if_some : {X : Type 0} (o : Option X) (P Q : X → Type 0) → ((x : X) → P x → Q x) → IfSome o P → IfSome o Q
if_some None P Q more is = tt
if_some (Some x) P Q more is = more x is

-- where nothing was told before, these bytes are all that is told
pub appended_told : (was now : Option (List ℕ)) (bytes : List ℕ) → TellsNone was → now ≡ with_appended was bytes
    → IfSome now (λ told. told ≡ bytes)
appended_told None now bytes none is = subst (λ (o : Option (List ℕ)). IfSome o (λ told. told ≡ bytes)) (sym is) tt
appended_told (Some told) now bytes none is =
    subst (λ (o : Option (List ℕ)). IfSome o (λ all. all ≡ bytes)) (sym is) (ap (λ (l : List ℕ). l ++ bytes) none)

-- the first bytes of some
pub first_bytes : (count : ℕ) (bytes : List ℕ) → IsFront (take count bytes) bytes
first_bytes count bytes = record { rest = drop count bytes; is = sym (take-append-drop count bytes) }

-- the first of some bytes, of which the whole is a part
pub front_of : (first front whole : List ℕ) → IsFront first front → IsFront front whole → IsFront first whole
front_of first front whole one two =
    record {
      rest = one.rest ++ two.rest;
      is =
          two.is ∙ ap (λ (l : List ℕ). l ++ two.rest) one.is
          ∙ append_again first one.rest two.rest;
    }
  where
    append_again : (xs ys zs : List ℕ) → (xs ++ ys) ++ zs ≡ xs ++ (ys ++ zs)
    append_again [] ys zs = refl
    append_again (x ∷ xs) ys zs = ap (λ (l : List ℕ). x ∷ l) (append_again xs ys zs)

-- the first of two pieces: a front of one, and behind all of it a front of the other
pub record TwoFronts (first second both : List ℕ) : Type 0 where
  pub one : List ℕ
  pub other : List ℕ
  pub begun : IsFront one first
  pub cut : IsFront other second
  pub are : both ≡ one ++ other

pub two_fronts : (count : ℕ) (first second : List ℕ) → TwoFronts first second (take count (first ++ second))
two_fronts count first second =
    ⊎_elim
    (λ (short : count < length first).
    record {
      one = take count first;
      other = [];
      begun = first_bytes count first;
      cut = record { rest = second; is = refl };
      are = take-append-le count first second (omega (arith, short)) ∙ sym (append-nil (take count first));
    })
    (λ (long : length first ≤ count).
    let more = count - length first in
    let all : count ≡ length first + more = omega (arith, long) in
    record {
      one = first;
      other = take more second;
      begun = record { rest = []; is = sym (append-nil first) };
      cut = first_bytes more second;
      are = ap (λ (n : ℕ). take n (first ++ second)) all ∙ take-append-add first second more;
    })
    (cases_lt count (length first))

-- a link that tells nothing, and a line that carried nothing
abbrev pub nothing : Told
nothing = record { ended = false; failed_out = 0; failed_in = 0; sent = None; received = None }

abbrev pub silent_line : Line
silent_line = record { ended = false; failed_out = 0; failed_in = 0; sent = []; received = [] }

-- of a link that is there
pub there_is : (P : Told → Type 0) (links : List Told) (k : ℕ) → k < length links
    → ((d : Told) → P (slice_index_or links k d))
    → IsSomeAnd (slice_get links k) P
there_is P [] k low is = absurd (omega (arith, low))
there_is P (link ∷ links) zero low is = is link
there_is P (link ∷ links) (suc k) low is = there_is P links k (omega (arith, low)) is
