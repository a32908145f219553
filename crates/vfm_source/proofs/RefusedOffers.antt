-- An offer that was given up before it began.
use Rattle.std.proofs.Common.{◌≡◌, ℕ, ◌⊎◌, Bool, true, false, Option, Some, None, Err, [], refl, ap, inl, inr}
use Rattle.vfm_types.specs.Phases.{is_failed}
use Rattle.vfm_outside.specs.Counts.{Rose}
use Rattle.vfm_streams.specs.Packets.{share}
use Rattle.vfm_source.specs.declared.fault.OfferFault.{OfferFault}
use Rattle.vfm_source.specs.Offers.{AllFinished, AllSent, FailsBeforePass, HasCause, IsFine, Offer, Offers, StopsAtPass, Told, abort_bytes, now_at, was_at}
use Rattle.vfm_source.specs.Refusals.{AllRefused, FailedOrFine, IsFirstRefusal, fault_of_refusal}

fine_or_failed : (failed : Bool) (was now : Told) → FailedOrFine failed was now → IsFine was now ⊎ Rose was.failed_out now.failed_out
fine_or_failed true was now rose = inr rose
fine_or_failed false was now fine = inl fine

module _ (offer : Offer) (none : offer.past ≡ []) (all : AllRefused (abort_bytes offer.desc) offer.desc.channels offer.before offer.now) where
  unfailed : is_failed offer.past ≡ false
  unfailed = ap is_failed none

  sent : (fault : OfferFault) → AllSent {T = Unit {0}} offer (Err fault)
  sent fault k inside =
      inr (record {
        carried = [];
        front = record { rest = share offer.desc offer.past k; is = refl };
        sent = (all k inside).1.sent;
      })

  cause : (least : Option ℕ) → IsFirstRefusal offer.desc.channels offer.before offer.now least → HasCause {T = Unit {0}} offer (Err (fault_of_refusal least))
  cause (Some k) is = (unfailed, record { there = is.0; failed = is.1; below = is.2 })
  cause None is = (unfailed, is)

  finished : AllFinished offer
  finished k inside =
      let is = all k inside in fine_or_failed is.0 (was_at offer k) (now_at offer k) is.1.ends

  pass : (fault : OfferFault) → StopsAtPass {T = Unit {0}} offer (Err fault)
  pass fault = λ positive passed. tt

  early : (least : Option ℕ) → FailsBeforePass {T = Unit {0}} offer (Err (fault_of_refusal least))
  early (Some k) = tt
  early None = tt

  pub refused_offers : (least : Option ℕ) → IsFirstRefusal offer.desc.channels offer.before offer.now least
      → Offers {T = Unit {0}} offer (Err (fault_of_refusal least))
  refused_offers least is =
      record {
        sent = sent (fault_of_refusal least);
        cause = cause least is;
        finished = finished;
        pass = pass (fault_of_refusal least);
        early = early least;
      }
