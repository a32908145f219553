-- Each kind of line of a report is read exactly.
use Rattle.std.proofs.Common.{◌≡◌, ℕ, ◌<◌, ◌^◌, ◌&&◌, List, [], ◌∷◌, length, Option, Some, None, true, refl, ap, sym, subst, ◌∙◌, decimal, arith}
use Rattle.std.specs.Prelude.{codes, nat_lt, ◌≤◌, if◌then◌else◌}
use Rattle.std.proofs.lemmas.List.{append_cancel_right}
use Rattle.std.specs.Option.{option_map}
use Rattle.std.proofs.lemmas.Bool.{and_parts, lt-ltb, ltb-true}
use Rattle.std.proofs.lemmas.Option.{same_Some, cond_some}
use Rattle.hex.specs.Hex.{encode_lower, IsBytes}
use Rattle.vfm_types.specs.declared.entry.Entry.{Entry}
use Rattle.vfm_types.specs.declared.desc.Desc.{Desc}
use Rattle.vfm_types.specs.Desc.{shape_at}
use Rattle.vfm_plain.specs.Legal.{is_entry_of}
use Rattle.vfm_report.specs.Same.{same_text}
use Rattle.vfm_report.specs.Split.{is_without, words_of}
use Rattle.vfm_report.specs.Counted.{one_word, two_words}
use Rattle.vfm_report.specs.Numbers.{number_of}
use Rattle.vfm_report.specs.HexWord.{is_hex, hex_value}
use Rattle.vfm_report.specs.Maybe.{◌>>=◌}
use Rattle.vfm_report.specs.StateLines.{after_word, number_then, named_word, counts_of, bar_word, pending_of}
use Rattle.vfm_report.specs.StatusLine.{is_status_line}
use Rattle.vfm_report.specs.Entries.{entry_of_line}
use Rattle.vfm_report.specs.Readers.{bytes_if, counts_in, bar_in, pending_in, entry_if, entry_in, status_in}
use Rattle.vfm_report.specs.Printed.{IsSized, IsPrintedRequest, AreCounts, IsPrintedEntry}
use Rattle.vfm_report.proofs.Texts.{same_text-refl, same_text-eq}
use Rattle.vfm_report.proofs.Numerals.{number_below-decimal, number_below-is}
use Rattle.vfm_report.proofs.Blanks.{without-decimal, without-hex, without-name}
use Rattle.vfm_report.proofs.HexWords.{digits-own, is_hex-is, is_hex-own}
use Rattle.vfm_report.proofs.Joins.{joined, all_without, joined-split, split-joined}
use Rattle.vfm_report.proofs.EntryWords.{entry_words, entry_of_line-is, entry_of_line-own, entry_line-words, two-is, one-is}
use Rattle.vfm_report.proofs.Exact.{ExactLine}

-- words as a line without its line feed
abbrev pub line_of : List (List ℕ) → List ℕ
line_of words = joined 32 words

-- the words of such a line
words-back : (w : List ℕ) (ws : List (List ℕ)) → all_without 32 (w ∷ ws) → words_of (line_of (w ∷ ws)) ≡ w ∷ ws
words-back w ws h = split-joined 32 w ws h

-- a line that has these words is their line
line-back : (l : List ℕ) (ws : List (List ℕ)) → words_of l ≡ ws → l ≡ line_of ws
line-back l ws h = sym (joined-split 32 l) ∙ ap (joined 32) h

-- ---- one step

then-is : {A B : Type 0} (o : Option A) (f : A → Option B) (b : B) → (o >>= f) ≡ Some b → (a : A) × (o ≡ Some a) × (f a ≡ Some b)
then-is None f b h = absurd cc
then-is (Some a) f b h = (a, refl, h)

after-is : (text : List ℕ) (ws rest : List (List ℕ)) → after_word text ws ≡ Some rest → ws ≡ text ∷ rest
after-is text [] rest h = absurd cc
after-is text (w ∷ ws) rest h =
    let p = cond_some (same_text w text) ws rest h in
    (λ i. same_text-eq w text p.0 i ∷ p.1 i)

after-own : (text : List ℕ) (rest : List (List ℕ)) → after_word text (text ∷ rest) ≡ Some rest
after-own text rest = rw (same_text-refl text) refl

number-then-is : (ws : List (List ℕ)) (p : ℕ × List (List ℕ)) → number_then ws ≡ Some p → (ws ≡ decimal p.0 ∷ p.1) × (p.0 < 2 ^ 32)
number-then-is [] p h = absurd cc
number-then-is (w ∷ ws) p h = by (number_of w) refl h
  where
    by : (o : Option ℕ) → number_of w ≡ o → option_map (λ n. (n, ws)) o ≡ Some p → (w ∷ ws ≡ decimal p.0 ∷ p.1) × (p.0 < 2 ^ 32)
    by None is h = absurd cc
    by (Some n) is h =
        let same = same_Some (n, ws) p h in
        let read = number_below-is (2 ^ 32) w n is in
        ((λ i. sym read.1 i ∷ ws) ∙ (λ i. decimal (same i).0 ∷ (same i).1), subst (λ (q : ℕ × List (List ℕ)). q.0 < 2 ^ 32) same read.0)

number-then-own : (n : ℕ) (ws : List (List ℕ)) → n < 2 ^ 32 → number_then (decimal n ∷ ws) ≡ Some (n, ws)
number-then-own n ws lt = rw (number_below-decimal (2 ^ 32) n lt (omega arith)) refl

-- ---- lines of bytes

named-is : (name : List ℕ) (n : ℕ) (ws : List (List ℕ)) (w : List ℕ) → named_word name n ws ≡ Some w → ws ≡ name ∷ decimal n ∷ w ∷ []
named-is name n ws w h =
    let a = then-is (after_word name ws) _ w h in
    let b = then-is (after_word (decimal n) a.0) _ w a.2 in
    after-is name ws a.0 a.1 ∙ ap (λ (r : List (List ℕ)). name ∷ r) (after-is (decimal n) a.0 b.0 b.1 ∙ ap (λ (r : List (List ℕ)). decimal n ∷ r) (one-is b.0 w b.2))

named-own : (name : List ℕ) (n : ℕ) (w : List ℕ) → named_word name n (name ∷ decimal n ∷ w ∷ []) ≡ Some w
named-own name n w = rw (same_text-refl name, same_text-refl (decimal n)) refl

bytes_if-is : (size : ℕ) (o : Option (List ℕ)) (bytes : List ℕ) → bytes_if size o ≡ Some bytes → IsSized size bytes × (o ≡ Some (encode_lower bytes))
bytes_if-is size None bytes h = absurd cc
bytes_if-is size (Some w) bytes h =
    let p = cond_some (is_hex size w) (hex_value w) bytes h in
    let is = is_hex-is size w p.0 in
    (subst (IsSized size) p.1 (record { many = is.1; small = is.2 }), ap (λ (v : List ℕ). Some v) (sym is.0 ∙ ap encode_lower p.1))

bytes_if-own : (size : ℕ) (bytes : List ℕ) → IsSized size bytes → bytes_if size (Some (encode_lower bytes)) ≡ Some bytes
bytes_if-own size bytes h = rw (is_hex-own size bytes h.many h.small, (digits-own bytes h.small).1) refl

-- no blank or line feed is among the digits
pub hex-without : (b : ℕ) (bytes : List ℕ) → b < 48 → IsBytes bytes → is_without b (encode_lower bytes) ≡ true
hex-without b bytes low h = without-hex b (encode_lower bytes) low (digits-own bytes h).0

-- the words of a line of bytes
abbrev pub byte_words : List ℕ → ℕ → List ℕ → List (List ℕ)
byte_words name n bytes = name ∷ decimal n ∷ encode_lower bytes ∷ []

pub byte-words-without : (b : ℕ) (name : List ℕ) (n : ℕ) (bytes : List ℕ) → b < 48 → is_without b name ≡ true → IsBytes bytes → all_without b (byte_words name n bytes)
byte-words-without b name n bytes low clear h = (clear, (without-decimal b n low, (hex-without b bytes low h, tt)))

pub bytes-exact : (name : List ℕ) (n size : ℕ) → is_without 32 name ≡ true → ExactLine (λ bytes. line_of (byte_words name n bytes)) (IsSized size) (λ l. bytes_if size (named_word name n (words_of l)))
bytes-exact name n size clear =
    record {
      sound = λ l bytes h.
          let p = bytes_if-is size (named_word name n (words_of l)) bytes h in
          (p.0, line-back l (byte_words name n bytes) (named-is name n (words_of l) (encode_lower bytes) p.1));
      own = λ bytes h.
          rw (words-back name (decimal n ∷ encode_lower bytes ∷ []) (byte-words-without 32 name n bytes (omega arith) clear h.small), named-own name n (encode_lower bytes))
          (bytes_if-own size bytes h);
    }

-- ---- one BAR of several

abbrev pub bar_words : ℕ → ℕ → List ℕ → List (List ℕ)
bar_words d k bytes = codes "bar" ∷ decimal d ∷ decimal k ∷ encode_lower bytes ∷ []

pub bar-words-without : (b d k : ℕ) (bytes : List ℕ) → b < 48 → IsBytes bytes → all_without b (bar_words d k bytes)
bar-words-without b d k bytes low h = (bar-clear b low, (without-decimal b d low, (without-decimal b k low, (hex-without b bytes low h, tt))))
  where
    bar-clear : (b : ℕ) → b < 48 → is_without b (codes "bar") ≡ true
    bar-clear b low = without-name b (codes "bar") low refl

bar-is : (d k : ℕ) (ws : List (List ℕ)) (w : List ℕ) → bar_word d k ws ≡ Some w → ws ≡ codes "bar" ∷ decimal d ∷ decimal k ∷ w ∷ []
bar-is d k ws w h =
    let a = then-is (after_word (codes "bar") ws) _ w h in
    after-is (codes "bar") ws a.0 a.1 ∙ ap (λ (r : List (List ℕ)). codes "bar" ∷ r) (named-is (decimal d) k a.0 w a.2)

bar-own : (d k : ℕ) (w : List ℕ) → bar_word d k (codes "bar" ∷ decimal d ∷ decimal k ∷ w ∷ []) ≡ Some w
bar-own d k w = rw (same_text-refl (decimal d), same_text-refl (decimal k)) refl

pub bar-exact : (d k size : ℕ) → ExactLine (λ bytes. line_of (bar_words d k bytes)) (IsSized size) (bar_in d k size)
bar-exact d k size =
    record {
      sound = λ l bytes h.
          let p = bytes_if-is size (bar_word d k (words_of l)) bytes h in
          (p.0, line-back l (bar_words d k bytes) (bar-is d k (words_of l) (encode_lower bytes) p.1));
      own = λ bytes h.
          rw (words-back (codes "bar") (decimal d ∷ decimal k ∷ encode_lower bytes ∷ []) (bar-words-without 32 d k bytes (omega arith) h.small), bar-own d k (encode_lower bytes))
          (bytes_if-own size bytes h);
    }

-- ---- a pending request

abbrev pub pending_words : ℕ → ℕ × ℕ → List (List ℕ)
pending_words d r = codes "pend" ∷ decimal d ∷ decimal r.0 ∷ decimal r.1 ∷ []

pub pending-words-without : (b d : ℕ) (r : ℕ × ℕ) → b < 48 → all_without b (pending_words d r)
pending-words-without b d r low = (without-name b (codes "pend") low refl, (without-decimal b d low, (without-decimal b r.0 low, (without-decimal b r.1 low, tt))))

pending-is : (d jobs : ℕ) (ws : List (List ℕ)) (r : ℕ × ℕ) → pending_of d jobs ws ≡ Some r → (ws ≡ pending_words d r) × (r.0 < 2 ^ 32) × (r.1 < jobs)
pending-is d jobs ws r h =
    let a = then-is (after_word (codes "pend") ws) _ r h in
    let b = then-is (after_word (decimal d) a.0) _ r a.2 in
    let t = then-is (two_words b.0) _ r b.2 in
    let n = then-is (number_of t.0.0) _ r t.2 in
    let j = then-is (number_of t.0.1) _ r n.2 in
    let p = cond_some (nat_lt j.0 jobs) (n.0, j.0) r j.2 in
    let n-is = number_below-is (2 ^ 32) t.0.0 n.0 n.1 in
    let j-is = number_below-is (2 ^ 32) t.0.1 j.0 j.1 in
    let words : ws ≡ pending_words d (n.0, j.0) =
    after-is (codes "pend") ws a.0 a.1 ∙ ap (λ (q : List (List ℕ)). codes "pend" ∷ q) (after-is (decimal d) a.0 b.0 b.1 ∙ ap (λ (q : List (List ℕ)). decimal d ∷ q) (two-is b.0 t.0 t.1 ∙ (λ i. sym n-is.1 i ∷ sym j-is.1 i ∷ []))) in (
      words ∙ ap (pending_words d) p.1,
      subst (λ (q : ℕ × ℕ). q.0 < 2 ^ 32) p.1 n-is.0,
      subst (λ (q : ℕ × ℕ). q.1 < jobs) p.1 (ltb-true j.0 jobs p.0),
    )

pending-own : (d jobs : ℕ) (r : ℕ × ℕ) → r.0 < 2 ^ 32 → r.1 < jobs → jobs ≤ 2 ^ 32 → pending_of d jobs (pending_words d r) ≡ Some r
pending-own d jobs r n j few =
    rw (same_text-refl (decimal d), number_below-decimal (2 ^ 32) r.0 n (omega arith), number_below-decimal (2 ^ 32) r.1 (omega arith) (omega arith), lt-ltb r.1 jobs j) refl

pub pending-exact : (D : Desc) (d : ℕ) → length (shape_at D d).jobs ≤ 2 ^ 32 → ExactLine (λ r. line_of (pending_words d r)) (IsPrintedRequest D d) (pending_in D d)
pending-exact D d few =
    record {
      sound = λ l r h.
          let p = pending-is d (length (shape_at D d).jobs) (words_of l) r h in
          (record { number = p.1; job = p.2 }, line-back l (pending_words d r) p.0);
      own = λ r h.
          rw (words-back (codes "pend") (decimal d ∷ decimal r.0 ∷ decimal r.1 ∷ []) (pending-words-without 32 d r (omega arith)))
          (pending-own d (length (shape_at D d).jobs) r h.number h.job few);
    }

-- ---- a device's counts

abbrev pub counts_words : ℕ → List ℕ → ℕ × ℕ × ℕ → List (List ℕ)
counts_words d name c =
    codes "device" ∷ decimal d ∷ name ∷ codes "accepted" ∷ decimal c.0 ∷ codes "done" ∷ decimal c.1 ∷ codes "lost" ∷ decimal c.2 ∷ []

pub counts-words-without : (b d : ℕ) (name : List ℕ) (c : ℕ × ℕ × ℕ) → b < 48 → is_without b name ≡ true → all_without b (counts_words d name c)
counts-words-without b d name c low clear =
    (without-name b (codes "device") low refl, (without-decimal b d low, (clear, (without-name b (codes "accepted") low refl, (without-decimal b c.0 low, (without-name b (codes "done") low refl, (without-decimal b c.1 low, (without-name b (codes "lost") low refl, (without-decimal b c.2 low, tt)))))))))

-- a first word, and what is read after it
after-step : {B : Type 0} (text : List ℕ) (ws : List (List ℕ)) (f : List (List ℕ) → Option B) (b : B) (R : List (List ℕ) → Type 0) → (after_word text ws >>= f) ≡ Some b
    → ((rest : List (List ℕ)) → f rest ≡ Some b → R (text ∷ rest)) → R ws
after-step text ws f b R h next =
    let a = then-is (after_word text ws) f b h in
    subst R (sym (after-is text ws a.0 a.1)) (next a.0 a.2)

-- a number, and what is read after it
number-step : {B : Type 0} (ws : List (List ℕ)) (f : ℕ × List (List ℕ) → Option B) (b : B) (R : List (List ℕ) → Type 0) → (number_then ws >>= f) ≡ Some b
    → ((n : ℕ) (rest : List (List ℕ)) → n < 2 ^ 32 → f (n, rest) ≡ Some b → R (decimal n ∷ rest)) → R ws
number-step ws f b R h next =
    let a = then-is (number_then ws) f b h in
    let is = number-then-is ws a.0 a.1 in
    subst R (sym is.0) (next a.0.0 a.0.1 is.1 a.2)

-- a number that is the only word
last-step : {B : Type 0} (ws : List (List ℕ)) (f : ℕ → Option B) (b : B) (R : List (List ℕ) → Type 0) → (one_word ws >>= (λ w. number_of w >>= f)) ≡ Some b
    → ((n : ℕ) → n < 2 ^ 32 → f n ≡ Some b → R (decimal n ∷ [])) → R ws
last-step ws f b R h next =
    let a = then-is (one_word ws) (λ w. number_of w >>= f) b h in
    let n = then-is (number_of a.0) f b a.2 in
    let is = number_below-is (2 ^ 32) a.0 n.0 n.1 in
    subst R (sym (one-is ws a.0 a.1 ∙ (λ i. sym is.1 i ∷ []))) (next n.0 is.0 n.2)

counts-is : (d : ℕ) (name : List ℕ) (ws : List (List ℕ)) (c : ℕ × ℕ × ℕ) → counts_of d name ws ≡ Some c → (ws ≡ counts_words d name c) × AreCounts c
counts-is d name ws c h =
    let R : List (List ℕ) → Type 0 = λ q. (q ≡ counts_words d name c) × AreCounts c in
    after-step (codes "device") ws _ c R h (λ r1 h1.
    after-step (decimal d) r1 _ c (λ q. R (codes "device" ∷ q)) h1 (λ r2 h2.
    after-step name r2 _ c (λ q. R (codes "device" ∷ decimal d ∷ q)) h2 (λ r3 h3.
    after-step (codes "accepted") r3 _ c (λ q. R (codes "device" ∷ decimal d ∷ name ∷ q)) h3 (λ r4 h4.
    number-step r4 _ c (λ q. R (codes "device" ∷ decimal d ∷ name ∷ codes "accepted" ∷ q)) h4 (λ a r5 small-a h5.
    after-step (codes "done") r5 _ c (λ q. R (codes "device" ∷ decimal d ∷ name ∷ codes "accepted" ∷ decimal a ∷ q)) h5 (λ r6 h6.
    number-step r6 _ c (λ q. R (codes "device" ∷ decimal d ∷ name ∷ codes "accepted" ∷ decimal a ∷ codes "done" ∷ q)) h6 (λ e r7 small-e h7.
    after-step (codes "lost") r7 _ c (λ q. R (codes "device" ∷ decimal d ∷ name ∷ codes "accepted" ∷ decimal a ∷ codes "done" ∷ decimal e ∷ q)) h7 (λ r8 h8.
    last-step r8 _ c (λ q. R (codes "device" ∷ decimal d ∷ name ∷ codes "accepted" ∷ decimal a ∷ codes "done" ∷ decimal e ∷ codes "lost" ∷ q)) h8 (λ l small-l h9.
    let same = same_Some (a, e, l) c h9 in
    (ap (counts_words d name) same, subst AreCounts same (record { accepted = small-a; done = small-e; lost = small-l })))))))))))

counts-own : (d : ℕ) (name : List ℕ) (c : ℕ × ℕ × ℕ) → AreCounts c → counts_of d name (counts_words d name c) ≡ Some c
counts-own d name c h =
    rw (same_text-refl (decimal d), same_text-refl name, number_below-decimal (2 ^ 32) c.0 h.accepted (omega (arith, h.accepted)), number_below-decimal (2 ^ 32) c.1 h.done (omega (arith, h.done)), number_below-decimal (2 ^ 32) c.2 h.lost (omega (arith, h.lost))) refl

pub counts-exact : (D : Desc) (d : ℕ) → is_without 32 (shape_at D d).name ≡ true → ExactLine (λ c. line_of (counts_words d (shape_at D d).name c)) AreCounts (counts_in D d)
counts-exact D d clear =
    record {
      sound = λ l c h.
          let p = counts-is d (shape_at D d).name (words_of l) c h in
          (p.1, line-back l (counts_words d (shape_at D d).name c) p.0);
      own = λ c h. rw (split-joined 32 (codes "device") _ (counts-words-without 32 d (shape_at D d).name c (omega arith) clear)) (counts-own d (shape_at D d).name c h);
    }

-- ---- an entry, and a status line

entry_if-is : (D : Desc) (o : Option Entry) (e : Entry) → entry_if D o ≡ Some e → (o ≡ Some e) × (is_entry_of D e ≡ true)
entry_if-is D None e h = absurd cc
entry_if-is D (Some x) e h =
    let p = cond_some (is_entry_of D x) x e h in
    (ap (λ (y : Entry). Some y) p.1, subst (λ (y : Entry). is_entry_of D y ≡ true) p.1 p.0)

pub entry-exact : (D : Desc) → ExactLine (λ e. line_of (entry_words e)) (IsPrintedEntry D) (entry_in D)
entry-exact D =
    record {
      sound = λ l e h.
          let p = entry_if-is D (entry_of_line l) e h in
          let is = entry_of_line-is l e p.0 in
          (record { there = p.1; fits = is.1 }, append_cancel_right l (line_of (entry_words e)) (10 ∷ []) (is.0 ∙ entry_line-words e));
      own = λ e h.
          rw (entry_of_line-own (line_of (entry_words e)) e (sym (entry_line-words e), h.fits), h.there) refl;
    }

-- a status line, as it is
pub record IsStatus (D : Desc) (l : List ℕ) : Type 0 where
  pub feed : is_without 10 l ≡ true
  pub is : is_status_line D l ≡ true

pub status-exact : (D : Desc) → ExactLine (λ l. l) (IsStatus D) (status_in D)
status-exact D =
    record {
      sound = λ l x h.
          let p = cond_some (is_without 10 l && is_status_line D l) l x h in
          let parts = and_parts (is_without 10 l) (is_status_line D l) p.0 in
          (subst (IsStatus D) p.1 (record { feed = parts.0; is = parts.1 }), p.1);
      own = λ l h. rw (h.feed, h.is) refl;
    }

-- this line
pub title-exact : (title : List ℕ) → ExactLine (λ (u : Unit {0}). title) (λ u. Unit {0}) (λ l. if same_text l title then Some tt else None)
title-exact title =
    record {
      sound = λ l u h. let p = cond_some (same_text l title) tt u h in (tt, same_text-eq l title p.0);
      own = λ u h. rw (same_text-refl title) refl;
    }
