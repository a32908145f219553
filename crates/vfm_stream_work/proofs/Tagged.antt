-- Packets with the numbers of the channels that they came over.
use Rattle.std.proofs.Common.{◌≡◌, refl, sym, ap, ℕ, ◌==◌, if◌then◌else◌, List, [], ◌∷◌, ◌++◌, eq-eqb}
use Rattle.std.proofs.lemmas.Bool.{cond-true, cond-false, ne_eqb}
use Rattle.vfm_packet.specs.Packet.{Packet}
use Rattle.vfm_streams.proofs.Numbered.{by_bool}
use Rattle.vfm_mesh.specs.declared.parcel.Parcel.{Parcel}
use Rattle.vfm_mesh.specs.declared.parcel.Parcel.TheVariants as parcels
use Rattle.vfm_intake_laws.specs.Arrivals.{of_channel}
use Rattle.vfm_stream_work.specs.Parcels.{packets_in, untagged}

-- a parcel that came over channel k
abbrev pub tag : ℕ → Parcel → List (ℕ × Packet)
tag k parcels.Close = []
tag k (parcels.Packet head payload) = (k, record { head = head; payload = payload }) ∷ []

pub no-more : {X : Type 0} (xs : List X) → xs ++ [] ≡ xs
no-more [] = refl
no-more (x ∷ xs) = ap (λ (l : List _). x ∷ l) (no-more xs)

pub untagged-both : (a b : List (ℕ × Packet)) → untagged (a ++ b) ≡ untagged a ++ untagged b
untagged-both [] b = refl
untagged-both (x ∷ a) b = ap (λ (l : List Packet). x.1 ∷ l) (untagged-both a b)

pub channel-both : (k : ℕ) (a b : List (ℕ × Packet)) → of_channel k (a ++ b) ≡ of_channel k a ++ of_channel k b
channel-both k [] b = refl
channel-both k (x ∷ a) b =
    by_bool (x.0 == k)
    (λ c. (if c then x.1 ∷ of_channel k (a ++ b) else of_channel k (a ++ b))
    ≡ (if c then x.1 ∷ of_channel k a else of_channel k a) ++ of_channel k b)
    (λ here. ap (λ (l : List Packet). x.1 ∷ l) (channel-both k a b)) (λ away. channel-both k a b)

-- the parcel is of its own channel
pub tag-here : (k : ℕ) (parcel : Parcel) (more : List Parcel) → packets_in (parcel ∷ more) ≡ of_channel k (tag k parcel) ++ packets_in more
tag-here k parcels.Close more = refl
tag-here k (parcels.Packet head payload) more =
    ap (λ (l : List Packet). l ++ packets_in more)
    (sym (cond-true (k == k) (record { head = head; payload = payload } ∷ []) [] (eq-eqb k k refl)))

-- and of no other
pub tag-away : (k j : ℕ) (parcel : Parcel) → (k ≡ j → ⊥) → of_channel j (tag k parcel) ≡ []
tag-away k j parcels.Close away = refl
tag-away k j (parcels.Packet head payload) away =
    cond-false (k == j) (record { head = head; payload = payload } ∷ []) [] (ne_eqb k j away)

-- without its number it is the packet, if it is one
pub untagged-one : (k : ℕ) (parcel : Parcel) → untagged (tag k parcel) ≡ packets_in (parcel ∷ [])
untagged-one k parcels.Close = refl
untagged-one k (parcels.Packet head payload) = refl

-- packets among parcels one behind another
pub packets-both : (a b : List Parcel) → packets_in (a ++ b) ≡ packets_in a ++ packets_in b
packets-both [] b = refl
packets-both (parcels.Close ∷ a) b = packets-both a b
packets-both (parcels.Packet head payload ∷ a) b = ap (λ (l : List Packet). record { head = head; payload = payload } ∷ l) (packets-both a b)
