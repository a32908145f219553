-- What every list of events keeps: whose digest each end has, and which frames were sent by then.
use Rattle.std.proofs.Common.{◌≡◌, ℕ, Bool, true, false, cond, List, [], ◌∷◌, Option, Some, None, refl, sym, ap, ◌∙◌, subst}
use Rattle.std.specs.Str.{bytes_eq}
use Rattle.std.specs.Cmp.Lexicographic.{same_text}
use Rattle.vfm_control.specs.declared.ends.SourceEnd.{SourceEnd}
use Rattle.vfm_control.specs.declared.ends.SourceEnd.TheVariants as source
use Rattle.vfm_control.specs.declared.ends.DestEnd.{DestEnd}
use Rattle.vfm_control.specs.declared.ends.DestEnd.TheVariants as dest
use Rattle.vfm_control.specs.declared.ends.Answer.{Answer}
use Rattle.vfm_control.specs.declared.ends.Answer.TheVariants as answers
use Rattle.vfm_control.specs.declared.ends.PairEvent.{PairEvent}
use Rattle.vfm_control.specs.declared.ends.PairEvent.TheVariants.{Stage, Refuse, DeliverAnswer, DeliverGo, SendGo, GiveUp, StopSource, StopDest}
use Rattle.vfm_control.specs.Pair.{PairState, pair_step, pair_after}

-- the destination has confirmed the source's digest
abbrev pub Confirmed : List ℕ → Option Answer → Type 0
Confirmed own answer = answer ≡ Some (answers.Staged own)

-- Go was sent with the source's own digest, which the destination had confirmed
abbrev pub GoKept : List ℕ → Option Answer → Option (List ℕ) → Type 0
GoKept own answer None = Unit {0}
GoKept own answer (Some go) = (go ≡ own) × Confirmed own answer

-- a source knows its own digest; it has heard and sent only what was confirmed, and runs only where it hasn't sent Go
abbrev pub SourceKept : List ℕ → SourceEnd → Option Answer → Option (List ℕ) → Type 0
SourceKept own (source.Offered digest) answer go = (digest ≡ own) × (go ≡ None)
SourceKept own (source.Heard digest) answer go = (digest ≡ own) × (go ≡ None) × Confirmed own answer
SourceKept own (source.GoSent digest) answer go = (digest ≡ own) × (go ≡ Some own)
SourceKept own source.Resumed answer go = go ≡ None
SourceKept own source.Stopped answer go = Unit {0}

-- a destination has answered what it says, and runs only where it got Go with its own digest
abbrev pub DestKept : List ℕ → DestEnd → Option Answer → Option (List ℕ) → Type 0
DestKept own dest.Staging answer go = (answer ≡ None) × (go ≡ None)
DestKept own (dest.Staged digest) answer go = answer ≡ Some (answers.Staged digest)
DestKept own (dest.Refused refusal) answer go = answer ≡ Some (answers.Refused refusal)
DestKept own (dest.Running digest) answer go = (digest ≡ own) × (go ≡ Some own)
DestKept own dest.Stopped answer go = Unit {0}

pub record Kept (own : List ℕ) (p : PairState) : Type 0 where
  pub sent : GoKept own p.answer p.go
  pub source : SourceKept own p.source p.answer p.go
  pub dest : DestKept own p.dest p.answer p.go

-- an answer that comes where there was none, and before Go
first_answer : (own : List ℕ) (s : SourceEnd) (before after : Option Answer) → before ≡ None → SourceKept own s before None → SourceKept own s after None
first_answer own (source.Offered digest) before after none k = k
first_answer own (source.Heard digest) before after none k = absurd cc
first_answer own (source.GoSent digest) before after none k = absurd cc
first_answer own source.Resumed before after none k = k
first_answer own source.Stopped before after none k = tt

-- a Go that comes where there was none, and after the answer
first_go : (own : List ℕ) (t : DestEnd) (answer : Option Answer) (go : List ℕ) → Confirmed own answer → DestKept own t answer None → DestKept own t answer (Some go)
first_go own dest.Staging answer go confirmed k = absurd cc
first_go own (dest.Staged digest) answer go confirmed k = k
first_go own (dest.Refused refusal) answer go confirmed k = k
first_go own (dest.Running digest) answer go confirmed k = absurd cc
first_go own dest.Stopped answer go confirmed k = tt

abbrev Keeps : List ℕ → PairEvent → SourceEnd → DestEnd → Option Answer → Option (List ℕ) → Type 0
Keeps own e s t a g =
    Kept own (record { source = s; dest = t; answer = a; go = g })
    → Kept own (pair_step (record { source = s; dest = t; answer = a; go = g }) e)

keeps_stage : (own digest : List ℕ) (s : SourceEnd) (t : DestEnd) (a : Option Answer) (g : Option (List ℕ)) → Keeps own (Stage digest) s t a g
keeps_stage own digest s dest.Staging a None k =
    record { sent = tt; source = first_answer own s a (Some (answers.Staged digest)) k.dest.0 k.source; dest = refl }
keeps_stage own digest s dest.Staging a (Some go) k = let none = k.dest.1 in absurd cc
keeps_stage own digest s (dest.Staged x) a g k = k
keeps_stage own digest s (dest.Refused x) a g k = k
keeps_stage own digest s (dest.Running x) a g k = k
keeps_stage own digest s dest.Stopped a g k = k

keeps_refuse : (own : List ℕ) (refusal : _) (s : SourceEnd) (t : DestEnd) (a : Option Answer) (g : Option (List ℕ)) → Keeps own (Refuse refusal) s t a g
keeps_refuse own refusal s dest.Staging a None k =
    record { sent = tt; source = first_answer own s a (Some (answers.Refused refusal)) k.dest.0 k.source; dest = refl }
keeps_refuse own refusal s dest.Staging a (Some go) k = let none = k.dest.1 in absurd cc
keeps_refuse own refusal s (dest.Staged x) a g k = k
keeps_refuse own refusal s (dest.Refused x) a g k = k
keeps_refuse own refusal s (dest.Running x) a g k = k
keeps_refuse own refusal s dest.Stopped a g k = k

-- an offered source that hears a digest
heard : (same : Bool) (own x digest : List ℕ) (g : Option (List ℕ)) → same ≡ bytes_eq x digest → (digest ≡ own) × (g ≡ None)
    → SourceKept own (cond same (source.Heard digest) (source.Offered digest)) (Some (answers.Staged x)) g
heard true own x digest g e k = (k.0, k.1, ap (λ (d : List ℕ). Some (answers.Staged d)) (same_text x digest e ∙ k.0))
heard false own x digest g e k = k

keeps_deliver_answer : (own : List ℕ) (s : SourceEnd) (t : DestEnd) (a : Option Answer) (g : Option (List ℕ)) → Keeps own DeliverAnswer s t a g
keeps_deliver_answer own s t None g k = k
keeps_deliver_answer own (source.Offered digest) t (Some (answers.Staged x)) g k =
    record { sent = k.sent; source = heard (bytes_eq x digest) own x digest g refl k.source; dest = k.dest }
keeps_deliver_answer own (source.Offered digest) t (Some (answers.Refused x)) g k = k
keeps_deliver_answer own (source.Heard digest) t (Some x) g k = k
keeps_deliver_answer own (source.GoSent digest) t (Some x) g k = k
keeps_deliver_answer own source.Resumed t (Some x) g k = k
keeps_deliver_answer own source.Stopped t (Some x) g k = k

-- a destination that gets Go with a digest
ran : (same : Bool) (own x digest : List ℕ) (a : Option Answer) → same ≡ bytes_eq x digest → x ≡ own → a ≡ Some (answers.Staged digest)
    → DestKept own (cond same (dest.Running digest) (dest.Staged digest)) a (Some x)
ran true own x digest a e is k = (sym (same_text x digest e) ∙ is, ap (λ (d : List ℕ). Some d) is)
ran false own x digest a e is k = k

keeps_deliver_go : (own : List ℕ) (s : SourceEnd) (t : DestEnd) (a : Option Answer) (g : Option (List ℕ)) → Keeps own DeliverGo s t a g
keeps_deliver_go own s t a None k = k
keeps_deliver_go own s dest.Staging a (Some x) k = k
keeps_deliver_go own s (dest.Staged digest) a (Some x) k =
    record { sent = k.sent; source = k.source; dest = ran (bytes_eq x digest) own x digest a refl k.sent.0 k.dest }
keeps_deliver_go own s (dest.Refused y) a (Some x) k = k
keeps_deliver_go own s (dest.Running y) a (Some x) k = k
keeps_deliver_go own s dest.Stopped a (Some x) k = k

keeps_send_go : (own : List ℕ) (s : SourceEnd) (t : DestEnd) (a : Option Answer) (g : Option (List ℕ)) → Keeps own SendGo s t a g
keeps_send_go own (source.Heard digest) t a g k =
    let before : DestKept own t a None = subst (λ (o : Option (List ℕ)). DestKept own t a o) k.source.1 k.dest in
    record {
      sent = (k.source.0, k.source.2);
      source = (k.source.0, ap (λ (d : List ℕ). Some d) k.source.0);
      dest = first_go own t a digest k.source.2 before;
    }
keeps_send_go own (source.Offered digest) t a g k = k
keeps_send_go own (source.GoSent digest) t a g k = k
keeps_send_go own source.Resumed t a g k = k
keeps_send_go own source.Stopped t a g k = k

keeps_give_up : (own : List ℕ) (s : SourceEnd) (t : DestEnd) (a : Option Answer) (g : Option (List ℕ)) → Keeps own GiveUp s t a g
keeps_give_up own (source.Offered digest) t a g k = record { sent = k.sent; source = k.source.1; dest = k.dest }
keeps_give_up own (source.Heard digest) t a g k = record { sent = k.sent; source = k.source.1; dest = k.dest }
keeps_give_up own (source.GoSent digest) t a g k = k
keeps_give_up own source.Resumed t a g k = k
keeps_give_up own source.Stopped t a g k = k

keeps : (own : List ℕ) (e : PairEvent) (p : PairState) → Kept own p → Kept own (pair_step p e)
keeps own (Stage digest) p k = keeps_stage own digest p.source p.dest p.answer p.go k
keeps own (Refuse refusal) p k = keeps_refuse own refusal p.source p.dest p.answer p.go k
keeps own DeliverAnswer p k = keeps_deliver_answer own p.source p.dest p.answer p.go k
keeps own DeliverGo p k = keeps_deliver_go own p.source p.dest p.answer p.go k
keeps own SendGo p k = keeps_send_go own p.source p.dest p.answer p.go k
keeps own GiveUp p k = keeps_give_up own p.source p.dest p.answer p.go k
keeps own StopSource p k = record { sent = k.sent; source = tt; dest = k.dest }
keeps own StopDest p k = record { sent = k.sent; source = k.source; dest = tt }

pub kept : (own : List ℕ) (events : List PairEvent) → Kept own (pair_after own events)
unfolding pair_after
kept own [] = record { sent = tt; source = (refl, refl); dest = (refl, refl) }
kept own (e ∷ past) = keeps own e (pair_after own past) (kept own past)
