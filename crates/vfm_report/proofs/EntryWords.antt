-- The words of an entry's line, and the entry of such words.
use Rattle.std.proofs.Common.{◌≡◌, ℕ, ◌<◌, ◌^◌, ◌&&◌, List, [], ◌∷◌, ◌++◌, Option, Some, None, true, false, Bool, refl, ap, sym, ◌∙◌, cond, decimal, IsTrue, arith}
use Rattle.std.specs.Prelude.{codes, nat_lt, MatchOption}
use Rattle.std.specs.Option.{option_map, option_or, option_and_then}
use Rattle.std.proofs.lemmas.Bool.{and_from, and_parts, lt-ltb, ltb-true}
use Rattle.std.proofs.lemmas.List.{append_cancel_right}
use Rattle.std.proofs.lemmas.Option.{same_Some, none-some}
use Rattle.vfm_types.specs.declared.state.MigState.{MigState}
use Rattle.vfm_types.specs.declared.state.MigState.TheVariants.{Error, Stop, Running, StopCopy, Resuming, RunningP2p, PreCopy, PreCopyP2p}
use Rattle.vfm_types.specs.declared.entry.Entry.{Entry}
use Rattle.vfm_types.specs.declared.entry.Entry.TheVariants.{Issue, Deliver, Complete, Hold, Arc, Fail, Report, Pass, Copy, Block, Dry, Begin, Joint, Abort, Resume}
use Rattle.vfm_types.specs.State.{state_number}
use Rattle.vfm_types.specs.Entry.{entry_fits}
use Rattle.vfm_plain.specs.Text.{state_name}
use Rattle.vfm_plain.specs.EntryText.{entry_line}
use Rattle.vfm_report.specs.Same.{same_text}
use Rattle.vfm_report.specs.Split.{words_of}
use Rattle.vfm_report.specs.Counted.{no_word, one_word, two_words}
use Rattle.vfm_report.specs.Numbers.{number_of, device_of}
use Rattle.vfm_report.specs.States.{state_named}
use Rattle.vfm_report.specs.Entries.{both, device_and_number, device_and_state, only_number, only_device, counted_entry, moving_entry, single_entry, bare_entry, entry_of_words, entry_of_line, IsEntryLine, IsNoEntryLine}
use Rattle.vfm_report.proofs.Texts.{same_text-eq}
use Rattle.vfm_report.proofs.Numerals.{number_below-decimal, number_below-is}
use Rattle.vfm_report.proofs.Blanks.{without-decimal, blankless-state}
use Rattle.vfm_report.proofs.Joins.{joined, all_without, joined-split, split-joined}

-- the words of an entry: its name, and those after it
abbrev pub entry_words : Entry → List (List ℕ)
entry_words (Issue d n) = codes "issue" ∷ decimal d ∷ decimal n ∷ []
entry_words (Deliver d n) = codes "deliver" ∷ decimal d ∷ decimal n ∷ []
entry_words (Complete d n) = codes "complete" ∷ decimal d ∷ decimal n ∷ []
entry_words (Hold d to) = codes "hold" ∷ decimal d ∷ state_name to ∷ []
entry_words (Arc d to) = codes "arc" ∷ decimal d ∷ state_name to ∷ []
entry_words (Fail d to) = codes "fail" ∷ decimal d ∷ state_name to ∷ []
entry_words (Report d) = codes "report" ∷ decimal d ∷ []
entry_words (Pass k) = codes "pass" ∷ decimal k ∷ []
entry_words (Copy p) = codes "copy" ∷ decimal p ∷ []
entry_words (Block d b) = codes "block" ∷ decimal d ∷ decimal b ∷ []
entry_words (Dry d) = codes "dry" ∷ decimal d ∷ []
entry_words Begin = codes "begin" ∷ []
entry_words Joint = codes "joint" ∷ []
entry_words Abort = codes "abort" ∷ []
entry_words Resume = codes "resume" ∷ []

-- its line is these words, with blanks between them
pub entry_line-words : (e : Entry) → entry_line e ≡ joined 32 (entry_words e) ++ 10 ∷ []
entry_line-words (Issue d n) = refl
entry_line-words (Deliver d n) = refl
entry_line-words (Complete d n) = refl
entry_line-words (Hold d to) = refl
entry_line-words (Arc d to) = refl
entry_line-words (Fail d to) = refl
entry_line-words (Report d) = refl
entry_line-words (Pass k) = refl
entry_line-words (Copy p) = refl
entry_line-words (Block d b) = refl
entry_line-words (Dry d) = refl
entry_line-words Begin = refl
entry_line-words Joint = refl
entry_line-words Abort = refl
entry_line-words Resume = refl

-- a device of 8 bits and a number of 32
fit : (d n : ℕ) → (nat_lt d (2 ^ 8) && nat_lt n (2 ^ 32)) ≡ true → (d < 2 ^ 8) × (n < 2 ^ 32)
fit d n h = let parts = and_parts (nat_lt d (2 ^ 8)) (nat_lt n (2 ^ 32)) h in (ltb-true _ _ parts.0, ltb-true _ _ parts.1)

fit-from : (d n : ℕ) → d < 2 ^ 8 → n < 2 ^ 32 → (nat_lt d (2 ^ 8) && nat_lt n (2 ^ 32)) ≡ true
fit-from d n low high = and_from (nat_lt d (2 ^ 8)) (nat_lt n (2 ^ 32)) (lt-ltb d (2 ^ 8) low) (lt-ltb n (2 ^ 32) high)

small-state : (s : MigState) → state_number s < 2 ^ 32
small-state Error = omega arith
small-state Stop = omega arith
small-state Running = omega arith
small-state StopCopy = omega arith
small-state Resuming = omega arith
small-state RunningP2p = omega arith
small-state PreCopy = omega arith
small-state PreCopyP2p = omega arith

state_named-name : (s : MigState) → state_named (state_name s) ≡ Some s
state_named-name Error = refl
state_named-name Stop = refl
state_named-name Running = refl
state_named-name StopCopy = refl
state_named-name Resuming = refl
state_named-name RunningP2p = refl
state_named-name PreCopy = refl
state_named-name PreCopyP2p = refl

-- a test of a name, and what it says
name-step : {X : Type 0} (word name : List ℕ) (x : X) (rest : Option X) (y : X) (P : X → Type 0) → cond (same_text word name) (Some x) rest ≡ Some y → (name ≡ word → P x) → (rest ≡ Some y → P y) → P y
name-step {X} word name x rest y P h here other = by (same_text word name) (λ t. sym (same_text-eq word name t)) h
  where
    by : (t : Bool) → (t ≡ true → name ≡ word) → cond t (Some x) rest ≡ Some y → P y
    by true is h = rw (← same_Some x y h) (here (is refl))
    by false is h = other h

pub state_named-is : (word : List ℕ) (s : MigState) → state_named word ≡ Some s → state_name s ≡ word
state_named-is word s h =
    let P : MigState → Type 0 = λ q. state_name q ≡ word in
    name-step word _ _ _ s P h (λ e. e) (λ h1.
    name-step word _ _ _ s P h1 (λ e. e) (λ h2.
    name-step word _ _ _ s P h2 (λ e. e) (λ h3.
    name-step word _ _ _ s P h3 (λ e. e) (λ h4.
    name-step word _ _ _ s P h4 (λ e. e) (λ h5.
    name-step word _ _ _ s P h5 (λ e. e) (λ h6.
    name-step word _ _ _ s P h6 (λ e. e) (λ h7.
    name-step word _ _ _ s P h7 (λ e. e) (λ h8. absurd cc))))))))

pub two-is : (ws : List (List ℕ)) (p : List ℕ × List ℕ) → two_words ws ≡ Some p → ws ≡ p.0 ∷ p.1 ∷ []
two-is [] p h = absurd cc
two-is (a ∷ []) p h = absurd cc
two-is (a ∷ b ∷ []) p h = ap (λ (q : List ℕ × List ℕ). q.0 ∷ q.1 ∷ []) (same_Some (a, b) p h)
two-is (a ∷ b ∷ c ∷ ws) p h = absurd cc

pub one-is : (ws : List (List ℕ)) (w : List ℕ) → one_word ws ≡ Some w → ws ≡ w ∷ []
one-is [] p h = absurd cc
one-is (a ∷ []) w h = ap (λ (q : List ℕ). q ∷ []) (same_Some a w h)
one-is (a ∷ b ∷ ws) p h = absurd cc

no-is : (ws : List (List ℕ)) (u : Unit {0}) → no_word ws ≡ Some u → ws ≡ []
no-is [] u h = refl
no-is (a ∷ ws) u h = absurd cc

then-some : {X Y : Type 0} (f : X → Option Y) (o : Option X) (y : Y) → option_and_then f o ≡ Some y → (x : X) × (o ≡ Some x) × (f x ≡ Some y)
then-some f None y h = absurd cc
then-some f (Some x) y h = (x, refl, h)

both-is : {X Y : Type 0} (o : Option X) (q : Option Y) (p : X × Y) → both o q ≡ Some p → (o ≡ Some p.0) × (q ≡ Some p.1)
both-is None q p h = absurd cc
both-is (Some x) None p h = absurd cc
both-is (Some x) (Some y) p h =
    let e = same_Some (x, y) p h in (λ i. Some (e i).0, λ i. Some (e i).1)

-- what is read of the words after a name
pub device_and_number-is : (ws : List (List ℕ)) (p : ℕ × ℕ) → device_and_number ws ≡ Some p → (ws ≡ decimal p.0 ∷ decimal p.1 ∷ []) × (p.0 < 2 ^ 8) × (p.1 < 2 ^ 32)
device_and_number-is ws p h =
    let words = then-some _ (two_words ws) p h in
    let parts = both-is (device_of words.0.0) (number_of words.0.1) p words.2 in
    let d = number_below-is (2 ^ 8) words.0.0 p.0 parts.0 in
    let n = number_below-is (2 ^ 32) words.0.1 p.1 parts.1 in
    (two-is ws words.0 words.1 ∙ (λ i. sym d.1 i ∷ sym n.1 i ∷ []), d.0, n.0)

device_and_state-is : (ws : List (List ℕ)) (p : ℕ × MigState) → device_and_state ws ≡ Some p → (ws ≡ decimal p.0 ∷ state_name p.1 ∷ []) × (p.0 < 2 ^ 8)
device_and_state-is ws p h =
    let words = then-some _ (two_words ws) p h in
    let parts = both-is (device_of words.0.0) (state_named words.0.1) p words.2 in
    let d = number_below-is (2 ^ 8) words.0.0 p.0 parts.0 in
    let to = state_named-is words.0.1 p.1 parts.1 in
    (two-is ws words.0 words.1 ∙ (λ i. sym d.1 i ∷ sym to i ∷ []), d.0)

only_number-is : (ws : List (List ℕ)) (n : ℕ) → only_number ws ≡ Some n → (ws ≡ decimal n ∷ []) × (n < 2 ^ 32)
only_number-is ws n h =
    let words = then-some _ (one_word ws) n h in
    let is = number_below-is (2 ^ 32) words.0 n words.2 in
    (one-is ws words.0 words.1 ∙ (λ i. sym is.1 i ∷ []), is.0)

only_device-is : (ws : List (List ℕ)) (n : ℕ) → only_device ws ≡ Some n → (ws ≡ decimal n ∷ []) × (n < 2 ^ 8)
only_device-is ws n h =
    let words = then-some _ (one_word ws) n h in
    let is = number_below-is (2 ^ 8) words.0 n words.2 in
    (one-is ws words.0 words.1 ∙ (λ i. sym is.1 i ∷ []), is.0)

-- the words are those of an entry whose numbers fit
abbrev HasWords : List (List ℕ) → Entry → Type 0
HasWords words e = (words ≡ entry_words e) × IsTrue (entry_fits e)

-- a test of a name before what is read after it
step : {A : Type 0} (word name : List ℕ) (f : A → Entry) (o : Option A) (rest : Option Entry) (e : Entry) (P : Entry → Type 0) → cond (same_text word name) (option_map f o) rest ≡ Some e
    → (word ≡ name → (a : A) → o ≡ Some a → P (f a)) → (rest ≡ Some e → P e) → P e
step {A} word name f o rest e P h here other = by (same_text word name) (same_text-eq word name) o h here
  where
    by : (t : Bool) → (t ≡ true → word ≡ name) → (o : Option A) → cond t (option_map f o) rest ≡ Some e → (word ≡ name → (a : A) → o ≡ Some a → P (f a)) → P e
    by true is (Some a) h here = rw (← same_Some (f a) e h) (here (is refl) a refl)
    by true is None h here = absurd cc
    by false is o h here = other h

counted-is : (name : List ℕ) (ws : List (List ℕ)) (e : Entry) → counted_entry name ws ≡ Some e → HasWords (name ∷ ws) e
counted-is name ws e h =
    let P = HasWords (name ∷ ws) in
    let read = device_and_number-is ws in
    step name _ (λ p. Issue p.0 p.1) (device_and_number ws) _ e P h (λ same p is. let r = read p is in ((λ i. same i ∷ r.0 i), fit-from p.0 p.1 r.1 r.2)) (λ h1.
    step name _ (λ p. Deliver p.0 p.1) (device_and_number ws) _ e P h1 (λ same p is. let r = read p is in ((λ i. same i ∷ r.0 i), fit-from p.0 p.1 r.1 r.2)) (λ h2.
    step name _ (λ p. Complete p.0 p.1) (device_and_number ws) _ e P h2 (λ same p is. let r = read p is in ((λ i. same i ∷ r.0 i), fit-from p.0 p.1 r.1 r.2)) (λ h3.
    step name _ (λ p. Block p.0 p.1) (device_and_number ws) _ e P h3 (λ same p is. let r = read p is in ((λ i. same i ∷ r.0 i), fit-from p.0 p.1 r.1 r.2)) (λ h4. absurd cc))))

moving-is : (name : List ℕ) (ws : List (List ℕ)) (e : Entry) → moving_entry name ws ≡ Some e → HasWords (name ∷ ws) e
moving-is name ws e h =
    let P = HasWords (name ∷ ws) in
    let read = device_and_state-is ws in
    step name _ (λ p. Hold p.0 p.1) (device_and_state ws) _ e P h (λ same p is. let r = read p is in ((λ i. same i ∷ r.0 i), fit-from p.0 (state_number p.1) r.1 (small-state p.1))) (λ h1.
    step name _ (λ p. Arc p.0 p.1) (device_and_state ws) _ e P h1 (λ same p is. let r = read p is in ((λ i. same i ∷ r.0 i), fit-from p.0 (state_number p.1) r.1 (small-state p.1))) (λ h2.
    step name _ (λ p. Fail p.0 p.1) (device_and_state ws) _ e P h2 (λ same p is. let r = read p is in ((λ i. same i ∷ r.0 i), fit-from p.0 (state_number p.1) r.1 (small-state p.1))) (λ h3. absurd cc)))

single-is : (name : List ℕ) (ws : List (List ℕ)) (e : Entry) → single_entry name ws ≡ Some e → HasWords (name ∷ ws) e
single-is name ws e h =
    let P = HasWords (name ∷ ws) in
    step name _ Report (only_device ws) _ e P h (λ same d is. let r = only_device-is ws d is in ((λ i. same i ∷ r.0 i), fit-from d 0 r.1 (omega arith))) (λ h1.
    step name _ Dry (only_device ws) _ e P h1 (λ same d is. let r = only_device-is ws d is in ((λ i. same i ∷ r.0 i), fit-from d 0 r.1 (omega arith))) (λ h2.
    step name _ Pass (only_number ws) _ e P h2 (λ same k is. let r = only_number-is ws k is in ((λ i. same i ∷ r.0 i), fit-from 0 k (omega arith) r.1)) (λ h3.
    step name _ Copy (only_number ws) _ e P h3 (λ same p is. let r = only_number-is ws p is in ((λ i. same i ∷ r.0 i), fit-from 0 p (omega arith) r.1)) (λ h4. absurd cc))))

bare-is : (name : List ℕ) (ws : List (List ℕ)) (e : Entry) → bare_entry name ws ≡ Some e → HasWords (name ∷ ws) e
bare-is name ws e h =
    let P = HasWords (name ∷ ws) in
    step name _ (λ (u : Unit {0}). Begin) (no_word ws) _ e P h (λ same u is. ((λ i. same i ∷ no-is ws u is i), refl)) (λ h1.
    step name _ (λ (u : Unit {0}). Joint) (no_word ws) _ e P h1 (λ same u is. ((λ i. same i ∷ no-is ws u is i), refl)) (λ h2.
    step name _ (λ (u : Unit {0}). Abort) (no_word ws) _ e P h2 (λ same u is. ((λ i. same i ∷ no-is ws u is i), refl)) (λ h3.
    step name _ (λ (u : Unit {0}). Resume) (no_word ws) _ e P h3 (λ same u is. ((λ i. same i ∷ no-is ws u is i), refl)) (λ h4. absurd cc))))

either : {X : Type 0} (o q : Option X) (x : X) (P : X → Type 0) → option_or o q ≡ Some x → (o ≡ Some x → P x) → (q ≡ Some x → P x) → P x
either None q x P h first second = second h
either (Some y) q x P h first second = first h

-- words that are read as an entry are its words
pub entry_of_words-is : (ws : List (List ℕ)) (e : Entry) → entry_of_words ws ≡ Some e → HasWords ws e
entry_of_words-is [] e h = absurd cc
entry_of_words-is (name ∷ ws) e h =
    let P = HasWords (name ∷ ws) in
    either (counted_entry name ws) _ e P h (counted-is name ws e) (λ h1.
    either (moving_entry name ws) _ e P h1 (moving-is name ws e) (λ h2.
    either (single_entry name ws) _ e P h2 (single-is name ws e) (bare-is name ws e)))

-- the words of an entry are read as that entry
pub entry_of_words-own : (e : Entry) → IsTrue (entry_fits e) → entry_of_words (entry_words e) ≡ Some e
entry_of_words-own (Issue d n) h = let f = fit d n h in rw (number_below-decimal (2 ^ 8) d f.0 (omega arith), number_below-decimal (2 ^ 32) n f.1 (omega arith)) refl
entry_of_words-own (Deliver d n) h = let f = fit d n h in rw (number_below-decimal (2 ^ 8) d f.0 (omega arith), number_below-decimal (2 ^ 32) n f.1 (omega arith)) refl
entry_of_words-own (Complete d n) h = let f = fit d n h in rw (number_below-decimal (2 ^ 8) d f.0 (omega arith), number_below-decimal (2 ^ 32) n f.1 (omega arith)) refl
entry_of_words-own (Hold d to) h = let f = fit d (state_number to) h in rw (number_below-decimal (2 ^ 8) d f.0 (omega arith), state_named-name to) refl
entry_of_words-own (Arc d to) h = let f = fit d (state_number to) h in rw (number_below-decimal (2 ^ 8) d f.0 (omega arith), state_named-name to) refl
entry_of_words-own (Fail d to) h = let f = fit d (state_number to) h in rw (number_below-decimal (2 ^ 8) d f.0 (omega arith), state_named-name to) refl
entry_of_words-own (Report d) h = let f = fit d 0 h in rw (number_below-decimal (2 ^ 8) d f.0 (omega arith)) refl
entry_of_words-own (Pass k) h = let f = fit 0 k h in rw (number_below-decimal (2 ^ 32) k f.1 (omega arith)) refl
entry_of_words-own (Copy p) h = let f = fit 0 p h in rw (number_below-decimal (2 ^ 32) p f.1 (omega arith)) refl
entry_of_words-own (Block d b) h = let f = fit d b h in rw (number_below-decimal (2 ^ 8) d f.0 (omega arith), number_below-decimal (2 ^ 32) b f.1 (omega arith)) refl
entry_of_words-own (Dry d) h = let f = fit d 0 h in rw (number_below-decimal (2 ^ 8) d f.0 (omega arith)) refl
entry_of_words-own Begin h = refl
entry_of_words-own Joint h = refl
entry_of_words-own Abort h = refl
entry_of_words-own Resume h = refl

-- no word of an entry has a blank
blankless : (e : Entry) → IsTrue (entry_fits e) → all_without 32 (entry_words e)
blankless (Issue d n) h = let f = fit d n h in (refl, (without-decimal 32 d (omega arith), (without-decimal 32 n (omega arith), tt)))
blankless (Deliver d n) h = let f = fit d n h in (refl, (without-decimal 32 d (omega arith), (without-decimal 32 n (omega arith), tt)))
blankless (Complete d n) h = let f = fit d n h in (refl, (without-decimal 32 d (omega arith), (without-decimal 32 n (omega arith), tt)))
blankless (Hold d to) h = let f = fit d (state_number to) h in (refl, (without-decimal 32 d (omega arith), (blankless-state to, tt)))
blankless (Arc d to) h = let f = fit d (state_number to) h in (refl, (without-decimal 32 d (omega arith), (blankless-state to, tt)))
blankless (Fail d to) h = let f = fit d (state_number to) h in (refl, (without-decimal 32 d (omega arith), (blankless-state to, tt)))
blankless (Report d) h = let f = fit d 0 h in (refl, (without-decimal 32 d (omega arith), tt))
blankless (Pass k) h = let f = fit 0 k h in (refl, (without-decimal 32 k (omega arith), tt))
blankless (Copy p) h = let f = fit 0 p h in (refl, (without-decimal 32 p (omega arith), tt))
blankless (Block d b) h = let f = fit d b h in (refl, (without-decimal 32 d (omega arith), (without-decimal 32 b (omega arith), tt)))
blankless (Dry d) h = let f = fit d 0 h in (refl, (without-decimal 32 d (omega arith), tt))
blankless Begin h = (refl, tt)
blankless Joint h = (refl, tt)
blankless Abort h = (refl, tt)
blankless Resume h = (refl, tt)

split-words : (ws : List (List ℕ)) → all_without 32 ws → (ws ≡ [] → ⊥) → words_of (joined 32 ws) ≡ ws
split-words [] h some = absurd (some refl)
split-words (w ∷ ws) h some = split-joined 32 w ws h

some-words : (e : Entry) → entry_words e ≡ [] → ⊥
some-words (Issue d n) h = absurd cc
some-words (Deliver d n) h = absurd cc
some-words (Complete d n) h = absurd cc
some-words (Hold d to) h = absurd cc
some-words (Arc d to) h = absurd cc
some-words (Fail d to) h = absurd cc
some-words (Report d) h = absurd cc
some-words (Pass k) h = absurd cc
some-words (Copy p) h = absurd cc
some-words (Block d b) h = absurd cc
some-words (Dry d) h = absurd cc
some-words Begin h = absurd cc
some-words Joint h = absurd cc
some-words Abort h = absurd cc
some-words Resume h = absurd cc

-- a line that is read as an entry is its line
pub entry_of_line-is : (text : List ℕ) (e : Entry) → entry_of_line text ≡ Some e → IsEntryLine text e
entry_of_line-is text e h =
    let is = entry_of_words-is (words_of text) e h in
    (ap (λ (t : List ℕ). t ++ 10 ∷ []) (sym (joined-split 32 text) ∙ ap (joined 32) is.0) ∙ sym (entry_line-words e), is.1)

-- the line of an entry is read as that entry
pub entry_of_line-own : (text : List ℕ) (e : Entry) → IsEntryLine text e → entry_of_line text ≡ Some e
entry_of_line-own text e h =
    let same = append_cancel_right text (joined 32 (entry_words e)) (10 ∷ []) (h.0 ∙ entry_line-words e) in
    ap entry_of_line same ∙ ap entry_of_words (split-words (entry_words e) (blankless e h.1) (some-words e)) ∙ entry_of_words-own e h.1

-- what is read of a line is exactly the entry that has it
pub exact : (text : List ℕ) (o : Option Entry) → o ≡ entry_of_line text → MatchOption o (IsNoEntryLine text) (IsEntryLine text)
exact text None h = λ e fits is. none-some e (h ∙ entry_of_line-own text e (is, fits))
exact text (Some e) h = entry_of_line-is text e (sym h)
