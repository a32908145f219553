-- The channels of an offer, from its beginning to its end, by what their links tell.
use Rattle.std.proofs.Common.{◌≡◌, ℕ, ◌<◌, not, Bool, true, false, Option, None, Some, IfNone, IfSome, List, [], length, map, replicate, slice_index_or, refl, ap, sym, ◌∙◌, subst, arith, append-nil}
use Rattle.std.proofs.lemmas.Bool.{false≢true}
use Rattle.std.proofs.lemmas.List.{get_or-map, get_or-replicate, length-map}
use Rattle.vfm_types.specs.declared.desc.Desc.{Desc}
use Rattle.vfm_types.specs.declared.entry.Entry.{Entry}
use Rattle.vfm_send.specs.Sends.{link_of}
use Rattle.vfm_streams.specs.Sent.{Sent, sent as all_sent}
use Rattle.vfm_streams.specs.Packets.{share}
use Rattle.vfm_outlets.specs.declared.outlets.Outlets.{Outlets}
use Rattle.vfm_outlets.specs.Carrying.{AllFare, Carries, Ends, Fares, FirstFailed, all_failed, links_of, share_of}
use Rattle.vfm_outlets.proofs.Faring.{first_flag, no_flag}
use Rattle.vfm_closing.specs.Closing.{CarriesPart}
use Rattle.vfm_closing.proofs.Parts.{part_share}
use Rattle.vfm_source.specs.Offers.{Told, told, untold}
use Rattle.vfm_source.proofs.Outcomes.{ChannelFacts, channel_facts}
use Rattle.vfm_source.proofs.Told.{At, at, below_first}

-- What links tell, by their words.
pub record Words (L : Type 0) : Type 0 where
  pub sent : L → Option (List ℕ)
  pub finished : L → Bool
  pub failed_out : L → ℕ

-- how the channels stood before an offer, when they were closed, and once they were ended
pub record Stages (L : Type 0) : Type 0 where
  pub first : Outlets L
  pub closed : Outlets L
  pub last : Outlets L

-- whether channel k has failed in the end
abbrev pub flag_of : {L : Type 0} → Stages L → ℕ → Bool
flag_of stages k = slice_index_or (all_failed stages.last) k false

-- what they had sent before
abbrev pub starts_of : {L : Type 0} → Words L → Stages L → List (Option (List ℕ))
starts_of words stages = map words.sent (links_of stages.first)

-- What is known of them: they carried this part of what was to be sent, or all of it where all was put, and were then ended.
pub record AreEnded {L : Type 0} (words : Words L) (D : Desc) (past : List Entry) (closed : Bool) (stages : Stages L) : Type 0 where
  pub first : length stages.first.senders.items ≡ D.channels
  pub last : length stages.last.senders.items ≡ D.channels
  pub unfailed : all_failed stages.first ≡ replicate (length (links_of stages.first)) false
  pub fares : AllFare words.failed_out stages.first stages.last
  pub part : CarriesPart words.sent D (starts_of words stages) (all_sent D past) stages.closed
  pub whole : closed ≡ true → Carries words.sent D (starts_of words stages) (all_sent D past) stages.closed
  pub shares : (all : List Sent) → Carries words.sent D (starts_of words stages) all stages.closed → (k : ℕ) (link : L) → k < D.channels
      → Ends (not closed) D.session D.version (record {
        failed = slice_index_or (all_failed stages.last) k false;
        before = slice_index_or (starts_of words stages) k None;
        left = share_of D all k;
        now = words.sent (slice_index_or (links_of stages.last) k link);
        finished = words.finished (slice_index_or (links_of stages.last) k link);
      })

-- what a link tells
abbrev pub tell : {L : Type 0} → Words L → L → Told
tell words link = told words.sent words.finished words.failed_out link

module _ {L : Type 0} (words : Words L) (D : Desc) (past : List Entry) (closed : Bool) (stages : Stages L) (is : AreEnded words D past closed stages)
    (k : ℕ) (inside : k < D.channels) where
  inside_first : k < length (links_of stages.first)
  inside_first =
      let count = is.first in
      let many = length-map stages.first.senders.items link_of in omega (arith, inside, count, many)

  inside_last : k < length (links_of stages.last)
  inside_last =
      let count = is.last in
      let many = length-map stages.last.senders.items link_of in omega (arith, inside, count, many)

  -- its link before, and in the end
  was : At (tell words) (links_of stages.first) k untold
  was = at (tell words) (links_of stages.first) k untold inside_first

  now : At (tell words) (links_of stages.last) k untold
  now = at (tell words) (links_of stages.last) k untold inside_last

  start : slice_index_or (starts_of words stages) k None ≡ words.sent was.here
  start =
      get_or-map words.sent (links_of stages.first) k was.here None inside_first ∙ ap words.sent (was.there was.here)

  unfailed : slice_index_or (all_failed stages.first) k false ≡ false
  unfailed =
      ap (λ (flags : List Bool). slice_index_or flags k false) is.unfailed
      ∙ get_or-replicate (length (links_of stages.first)) k false false inside_first

  fares : Fares false (flag_of stages k) (words.failed_out was.here) (words.failed_out now.here)
  fares =
      subst (λ (flag : Bool). Fares flag (flag_of stages k) (words.failed_out was.here) (words.failed_out now.here)) unfailed
      (subst (λ (link : L). Fares (slice_index_or (all_failed stages.first) k false) (flag_of stages k) (words.failed_out was.here) (words.failed_out link)) (now.there was.here)
      (subst (λ (link : L). Fares (slice_index_or (all_failed stages.first) k false) (flag_of stages k) (words.failed_out link)
      (words.failed_out (slice_index_or (links_of stages.last) k was.here))) (was.there was.here)
      (is.fares k was.here (let count = is.first in omega (arith, inside, count)))))

  ends : (all : List Sent) → Carries words.sent D (starts_of words stages) all stages.closed
      → Ends (not closed) D.session D.version (record {
        failed = flag_of stages k;
        before = words.sent was.here;
        left = share_of D all k;
        now = words.sent now.here;
        finished = words.finished now.here;
      })
  ends all carries =
      subst (λ (before : Option (List ℕ)). Ends (not closed) D.session D.version (record {
        failed = flag_of stages k;
        before = before;
        left = share_of D all k;
        now = words.sent now.here;
        finished = words.finished now.here;
      })) start
      (subst (λ (link : L). Ends (not closed) D.session D.version (record {
        failed = flag_of stages k;
        before = slice_index_or (starts_of words stages) k None;
        left = share_of D all k;
        now = words.sent link;
        finished = words.finished link;
      })) (now.there now.here) (is.shares all carries k now.here inside))

  by : (b : Bool) → closed ≡ b → ChannelFacts closed D (share D past k) (tell words was.here) (tell words now.here) (flag_of stages k)
  by true all =
      channel_facts closed D (share D past k) (share D past k) (tell words was.here) (tell words now.here) (flag_of stages k)
      (ends (all_sent D past) (is.whole all)) fares (λ same. refl) (record { rest = []; is = sym (append-nil (share D past k)) })
  by false unclosed =
      channel_facts closed D (share D past k) (share_of D is.part.part k) (tell words was.here) (tell words now.here) (flag_of stages k)
      (ends is.part.part is.part.carries) fares (λ whole. absurd (false≢true (sym unclosed ∙ whole)))
      (record {
        rest = share_of D is.part.rest k;
        is = part_share words.sent D (starts_of words stages) (all_sent D past) stages.closed is.part k;
      })

  pub facts_at : ChannelFacts closed D (share D past k) (slice_index_or (map (tell words) (links_of stages.first)) k untold)
      (slice_index_or (map (tell words) (links_of stages.last)) k untold) (flag_of stages k)
  facts_at =
      subst (λ (x : Told). ChannelFacts closed D (share D past k) x (slice_index_or (map (tell words) (links_of stages.last)) k untold) (flag_of stages k)) (sym was.told)
      (subst (λ (x : Told). ChannelFacts closed D (share D past k) (tell words was.here) x (flag_of stages k)) (sym now.told) (by closed refl))

-- the least channel that failed, by the flags
module _ {L : Type 0} (outlets : Outlets L) (n channels : ℕ) (many : n ≡ channels) (there : length outlets.senders.items ≡ channels) where
  pub none_failed : (channel : Option ℕ) → FirstFailed outlets.senders.items n channel
      → IfNone channel ((k : ℕ) → k < channels → slice_index_or (all_failed outlets) k false ≡ false)
  none_failed None first = λ k inside. no_flag outlets n (omega (arith, many, there)) first k (omega (arith, inside, many))
  none_failed (Some least) first = tt

  pub some_failed : (channel : Option ℕ) → FirstFailed outlets.senders.items n channel
      → IfSome channel (λ least. (least < channels) × (slice_index_or (all_failed outlets) least false ≡ true)
      × ((k : ℕ) → k < least → slice_index_or (all_failed outlets) k false ≡ false))
  some_failed None first = tt
  some_failed (Some least) first =
      let is = first_flag outlets n least (omega (arith, many, there)) first in (
        omega (arith, is.0, many),
        is.1,
        λ k below. below_first outlets.senders.items n least (omega (arith, many, there)) first k below,
      )
