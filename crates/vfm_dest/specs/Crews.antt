-- Room for what is left of workers.
use Rattle.std.specs.Prelude.{◌≡◌, ℕ, ◌≤◌, [], false, vec_capacity}
use Rattle.vfm_dest.specs.declared.crews.AllHeard.{AllHeard}
use Rattle.vfm_dest.specs.declared.crews.AllTaken.{AllTaken}

-- nothing is in it, and it has room for so many channels
pub record HasPlaces {L : Type 0} (n : ℕ) (all : AllHeard L) : Type 0 where
  pub no_links : all.links.items ≡ []
  pub no_ends : all.ends.items ≡ []
  pub no_fans : all.fans.items ≡ []
  pub links : n ≤ vec_capacity all.links
  pub ends : n ≤ vec_capacity all.ends
  pub fans : n ≤ vec_capacity all.fans

-- nothing is in it, and it has room for so many streams
pub record HasPlacesOfStreams (n : ℕ) (all : AllTaken) : Type 0 where
  pub no_funnels : all.funnels.items ≡ []
  pub no_intakes : all.intakes.items ≡ []
  pub not_short : all.is_short ≡ false
  pub funnels : n ≤ vec_capacity all.funnels
  pub intakes : n ≤ vec_capacity all.intakes
