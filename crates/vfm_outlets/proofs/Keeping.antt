-- What channels carry when what waits is sent, and when they are ended.
use Rattle.std.proofs.Common.{◌≡◌, ◌∙◌, refl, sym, ap, ap₂, subst, ℕ, zero, suc, ◌+◌, ◌<◌, ◌≤◌, Bool, true, false, Option, None, List, [], ◌∷◌, ◌++◌, length, map, slice_index_or, arith}
use Rattle.std.proofs.lemmas.List.{append-nil, length-map}
use Rattle.vfm_types.specs.declared.desc.Desc.{Desc}
use Rattle.vfm_outside.specs.Told.{with_appended, with_appended-with_appended}
use Rattle.vfm_packet.specs.Packet.{packet_bytes}
use Rattle.vfm_send.specs.declared.sender.Sender.{Sender}
use Rattle.vfm_send.specs.Sends.{given, has_failed, left, link_of, mark_of, SentPrefix}
use Rattle.vfm_streams.specs.Sent.{Sent}
use Rattle.vfm_outlets.specs.declared.outlets.Outlets.{Outlets}
use Rattle.vfm_outlets.specs.Carrying.{Carries, EachChanged, Ends, all_given, links_of, share_of, with_shares}
use Rattle.vfm_outlets.proofs.Faring.{said_at, some_of}
use Rattle.vfm_outlets.proofs.Prefixes.{prefix_goes_on}
use Rattle.vfm_outlets.proofs.Shares.{length_shares}

-- what is said of the link of each sender
pub of_links : {L Y : Type 0} (f : L → Y) (senders : List (Sender L)) → map f (map link_of senders) ≡ map (λ s. f (link_of s)) senders
of_links f [] = refl
of_links {L} {Y} f (s ∷ senders) = ap (λ (ys : List Y). f (link_of s) ∷ ys) (of_links f senders)

-- the same before and after, said of senders, is the same said of their links
pub links_same : {L Y : Type 0} (f : L → Y) (before now : List (Sender L)) → map (λ s. f (link_of s)) now ≡ map (λ s. f (link_of s)) before
    → map f (map link_of now) ≡ map f (map link_of before)
links_same f before now same = of_links f now ∙ same ∙ sym (of_links f before)

-- the share of one channel among all
pub shares_at : (D : Desc) (all : List Sent) (k n : ℕ) (starts : List (Option (List ℕ))) → n < length starts
    → slice_index_or (with_shares D all k starts) n None ≡ with_appended (slice_index_or starts n None) (share_of D all (k + n))
shares_at D all k n [] inside = absurd (omega (arith, inside))
shares_at D all k zero (start ∷ starts) inside =
    let here : k ≡ k + 0 = omega arith in ap (λ (j : ℕ). with_appended start (share_of D all j)) here
shares_at D all k (suc n) (start ∷ starts) inside =
    let next : k + 1 + n ≡ k + suc n = omega arith in
    shares_at D all (k + 1) n starts (omega (arith, inside))
    ∙ ap (λ (j : ℕ). with_appended (slice_index_or starts n None) (share_of D all j)) next

-- there is a start for each channel
pub starts_count : {L : Type 0} (sent : L → Option (List ℕ)) (D : Desc) (starts : List (Option (List ℕ))) (all : List Sent) (outlets : Outlets L)
    → Carries sent D starts all outlets → length starts ≡ length outlets.senders.items
starts_count sent D starts all outlets carried =
    sym (length_shares D all 0 starts) ∙ ap (length {A = Option (List ℕ)}) (sym carried.given) ∙ length-map outlets.senders.items (given sent)

-- what the link of a channel has sent and what waits are its share, after what it had sent at the start
pub channel_given : {L : Type 0} (sent : L → Option (List ℕ)) (D : Desc) (starts : List (Option (List ℕ))) (all : List Sent) (outlets : Outlets L)
    (k : ℕ) (d : Sender L) → Carries sent D starts all outlets → k < length outlets.senders.items
    → with_appended (sent (link_of (slice_index_or outlets.senders.items k d))) (left (slice_index_or outlets.senders.items k d))
    ≡ with_appended (slice_index_or starts k None) (share_of D all k)
channel_given sent D starts all outlets k d carried inside =
    sym (said_at (given sent) outlets.senders.items k d None inside)
    ∙ ap (λ (told : List (Option (List ℕ))). slice_index_or told k None) carried.given
    ∙ shares_at D all 0 k starts (omega (arith, inside, starts_count sent D starts all outlets carried))
    ∙ (let first : 0 + k ≡ k = omega arith in ap (λ (j : ℕ). with_appended (slice_index_or starts k None) (share_of D all j)) first)

-- and what it has sent is a prefix of that
pub channel_begun : {L : Type 0} (sent : L → Option (List ℕ)) (D : Desc) (starts : List (Option (List ℕ))) (all : List Sent) (outlets : Outlets L)
    (k : ℕ) (d : Sender L) → Carries sent D starts all outlets → k < length outlets.senders.items
    → SentPrefix (slice_index_or starts k None) (sent (link_of (slice_index_or outlets.senders.items k d))) (share_of D all k)
channel_begun {L} sent D starts all outlets k d carried inside =
    let link : L = link_of d in
    subst (λ (l : L). SentPrefix (slice_index_or starts k None) (sent l) (share_of D all k)) (said_at link_of outlets.senders.items k d link inside)
    (carried.begun k link (omega (arith, inside, carried.channels)))

-- what waited is sent, or a prefix of it
pub carries_sent : {L : Type 0} (sent : L → Option (List ℕ)) (D : Desc) (starts : List (Option (List ℕ))) (all : List Sent) (old new : Outlets L)
    → Carries sent D starts all old → length new.senders.items ≡ length old.senders.items → new.version ≡ old.version → new.session ≡ old.session
    → new.counts ≡ old.counts → all_given sent new ≡ all_given sent old
    → EachChanged (λ (was now : Sender L). SentPrefix (sent (link_of was)) (sent (link_of now)) (left was)) old.senders.items new.senders.items
    (length old.senders.items) → Carries sent D starts all new
carries_sent {L} sent D starts all old new carried count version session counted same each =
    record {
      channels = count ∙ carried.channels;
      version = version ∙ carried.version;
      session = session ∙ carried.session;
      given = same ∙ carried.given;
      begun = λ k link inside.
          let before : k < length old.senders.items = omega (arith, inside, carried.channels) in
          let after : k < length new.senders.items = omega (arith, before, count) in
          let d : Sender L = some_of old.senders.items k before in
          let was : Sender L = slice_index_or old.senders.items k d in
          let now : Sender L = slice_index_or new.senders.items k d in
          let start : Option (List ℕ) = slice_index_or starts k None in
          subst (λ (l : L). SentPrefix start (sent l) (share_of D all k)) (sym (said_at link_of new.senders.items k d link after))
          (subst (λ (bytes : List ℕ). SentPrefix start (sent (link_of now)) bytes) (append-nil (share_of D all k))
          (prefix_goes_on start (sent (link_of was)) (sent (link_of now)) (share_of D all k) (left was) []
          (channel_begun sent D starts all old k d carried before) (channel_given sent D starts all old k d carried before)
          (subst (λ (bytes : List ℕ). SentPrefix (sent (link_of was)) (sent (link_of now)) bytes) (sym (append-nil (left was))) (each k d before))));
      counts = λ s within. ap (λ (cs : List ℕ). slice_index_or cs s 0) counted ∙ carried.counts s within;
    }

-- what a call that ends did to a sender
abbrev pub SenderEnds : {L : Type 0} → (L → Option (List ℕ)) → (L → Bool) → Bool → ℕ → ℕ → Sender L → Sender L → Type 0
SenderEnds sent finished abort session version was now = Ends abort session version (record {
  failed = has_failed now;
  before = sent (link_of was);
  left = left was;
  now = sent (link_of now);
  finished = finished (link_of now);
})

-- each channel was ended: it has sent its share and the packet that ends it, or a prefix
pub shares_ended : {L : Type 0} (sent : L → Option (List ℕ)) (finished : L → Bool) (abort : Bool) (D : Desc) (starts : List (Option (List ℕ)))
    (all : List Sent) (old : Outlets L) (now : List (Sender L)) → Carries sent D starts all old → length now ≡ length old.senders.items
    → EachChanged (SenderEnds sent finished abort old.session old.version) old.senders.items now (length old.senders.items)
    → (k : ℕ) (link : L) → k < D.channels → Ends abort D.session D.version (record {
      failed = slice_index_or (map has_failed now) k false;
      before = slice_index_or starts k None;
      left = share_of D all k;
      now = sent (slice_index_or (map link_of now) k link);
      finished = finished (slice_index_or (map link_of now) k link);
    })
shares_ended {L} sent finished abort D starts all old now carried count each k link inside =
    let before : k < length old.senders.items = omega (arith, inside, carried.channels) in
    let after : k < length now = omega (arith, before, count) in
    let d : Sender L = some_of old.senders.items k before in
    let was : Sender L = slice_index_or old.senders.items k d in
    let is : Sender L = slice_index_or now k d in
    let start : Option (List ℕ) = slice_index_or starts k None in
    let mark : List ℕ = packet_bytes (mark_of abort D.session D.version) in
    let begun = channel_begun sent D starts all old k d carried before in
    let whole = channel_given sent D starts all old k d carried before in
    let ends : SenderEnds sent finished abort D.session D.version was is =
    subst (λ (v : ℕ). SenderEnds sent finished abort D.session v was is) carried.version
    (subst (λ (s : ℕ). SenderEnds sent finished abort s old.version was is) carried.session (each k d before)) in
    let there : link_of is ≡ slice_index_or (map link_of now) k link = sym (said_at link_of now k d link after) in
    subst
    (λ (l : L). Ends abort D.session D.version (record {
      failed = slice_index_or (map has_failed now) k false;
      before = start;
      left = share_of D all k;
      now = sent l;
      finished = finished l;
    })) there
    (record {
      whole = λ fine.
          let done = ends.whole (sym (said_at has_failed now k d false after) ∙ fine) in (
            done.0
                ∙ sym (with_appended-with_appended (sent (link_of was)) (left was) mark)
                ∙ ap (λ (told : Option (List ℕ)). with_appended told mark) whole
                ∙ with_appended-with_appended start (share_of D all k) mark,
            done.1,
          );
      begun = prefix_goes_on start (sent (link_of was)) (sent (link_of is)) (share_of D all k) (left was) mark begun whole ends.begun;
    })
