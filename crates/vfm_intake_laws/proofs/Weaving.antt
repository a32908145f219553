-- Packets that came over several channels are those that the channels brought, channel by channel.
use Rattle.std.proofs.Common.{◌≡◌, ◌∙◌, refl, sym, ap, ap₂, subst, ℕ, zero, suc, ◌+◌, ◌-◌, ◌<◌, ◌≤◌, ◌==◌, ◌&&◌, ◌||◌, if◌then◌else◌, Bool, true, false, List, [], ◌∷◌, ◌++◌, map, Option, Some, None, arith, ⊎_elim, eqb-true, eq-eqb}
use Rattle.std.specs.Option.{option_or}
use Rattle.std.proofs.lemmas.Bool.{cond-true, cond-false, cases_eq, cases_lt, ne_eqb}
use Rattle.std.proofs.lemmas.List.Elements.{filter-append}
use Rattle.std.proofs.lemmas.List.Folds.{list_any-append}
use Rattle.vfm_packet.specs.Packet.{Packet}
use Rattle.vfm_packet.specs.Reading.{Reading}
use Rattle.vfm_streams.specs.Whole.{stream_packets, times, packet_with, is_config, has_config_at}
use Rattle.vfm_streams.specs.Verdict.{brought}
use Rattle.vfm_streams.proofs.Numbered.{by_bool}
use Rattle.vfm_intake_laws.specs.Arrivals.{of_channel, packets_at, CameFrom, IsSameStream}
use Rattle.vfm_intake_laws.proofs.Counting.{times-both, packet-both, none-with}

-- the packets alone
abbrev packets_of : List (ℕ × Packet) → List Packet
packets_of came = map (λ x. x.1) came

-- those that didn't come over channel k
abbrev others : ℕ → List (ℕ × Packet) → List (ℕ × Packet)
others k [] = []
others k (x ∷ came) = if x.0 == k then others k came else x ∷ others k came

others-same : (k : ℕ) (came : List (ℕ × Packet)) → of_channel k (others k came) ≡ []
others-same k [] = refl
others-same k (x ∷ came) =
    by_bool (x.0 == k) (λ b. (x.0 == k) ≡ b → of_channel k (if b then others k came else x ∷ others k came) ≡ [])
    (λ here e. others-same k came)
    (λ away e. cond-false (x.0 == k) (x.1 ∷ of_channel k (others k came)) (of_channel k (others k came)) e ∙ others-same k came) refl

others-away : (k j : ℕ) (came : List (ℕ × Packet)) → (k ≡ j → ⊥) → of_channel j (others k came) ≡ of_channel j came
others-away k j [] away = refl
others-away k j (x ∷ came) away =
    by_bool (x.0 == k)
    (λ b. (x.0 == k) ≡ b → of_channel j (if b then others k came else x ∷ others k came) ≡ (if x.0 == j then x.1 ∷ of_channel j came else of_channel j came))
    (λ here e.
    others-away k j came away
    ∙ sym (cond-false (x.0 == j) (x.1 ∷ of_channel j came) (of_channel j came) (ne_eqb x.0 j (λ f. away (sym (eqb-true x.0 k e) ∙ f)))))
    (λ beside e. ap (λ (ps : List Packet). if x.0 == j then x.1 ∷ ps else ps) (others-away k j came away)) refl

-- where no channel has any, none came
none-came : (came : List (ℕ × Packet)) → ((k : ℕ) → of_channel k came ≡ []) → came ≡ []
none-came [] none = refl
none-came (x ∷ came) none =
    let clash : x.1 ∷ of_channel x.0 came ≡ [] =
    sym (cond-true (x.0 == x.0) (x.1 ∷ of_channel x.0 came) (of_channel x.0 came) (eq-eqb x.0 x.0 refl)) ∙ none x.0 in absurd cc

-- ---- one channel beside the others

times-split : (i k : ℕ) (came : List (ℕ × Packet)) → times i (packets_of came) ≡ times i (of_channel k came) + times i (packets_of (others k came))
times-split i k [] = refl
times-split i k (x ∷ came) =
    let rest : times i (packets_of came) ≡ times i (of_channel k came) + times i (packets_of (others k came)) = times-split i k came in
    by_bool (x.0 == k)
    (λ b. times i (packets_of came) + (if x.1.head.index == i then 1 else 0)
    ≡ times i (if b then x.1 ∷ of_channel k came else of_channel k came) + times i (packets_of (if b then others k came else x ∷ others k came)))
    (λ here. omega (arith, rest)) (λ away. omega (arith, rest))

or-first : (t a b c : Bool) → a ≡ (b || c) → (t || a) ≡ ((t || b) || c)
or-first true a b c is = refl
or-first false a b c is = is

or-second : (t a b c : Bool) → a ≡ (b || c) → (t || a) ≡ (b || (t || c))
or-second true a true c is = refl
or-second true a false c is = refl
or-second false a b c is = is

configs-split : (i k : ℕ) (came : List (ℕ × Packet)) → has_config_at i (packets_of came) ≡ (has_config_at i (of_channel k came) || has_config_at i (packets_of (others k came)))
configs-split i k [] = refl
configs-split i k (x ∷ came) =
    let rest : has_config_at i (packets_of came) ≡ (has_config_at i (of_channel k came) || has_config_at i (packets_of (others k came))) = configs-split i k came in
    by_bool (x.0 == k)
    (λ b. ((x.1.head.index == i && is_config x.1.head.kind) || has_config_at i (packets_of came))
    ≡ (has_config_at i (if b then x.1 ∷ of_channel k came else of_channel k came) || has_config_at i (packets_of (if b then others k came else x ∷ others k came))))
    (λ here. or-first (x.1.head.index == i && is_config x.1.head.kind) (has_config_at i (packets_of came)) (has_config_at i (of_channel k came)) (has_config_at i (packets_of (others k came))) rest)
    (λ away. or-second (x.1.head.index == i && is_config x.1.head.kind) (has_config_at i (packets_of came)) (has_config_at i (of_channel k came)) (has_config_at i (packets_of (others k came))) rest)

packet-split : (i k : ℕ) (came : List (ℕ × Packet)) → times i (packets_of came) ≤ 1
    → packet_with i (packets_of came) ≡ option_or (packet_with i (of_channel k came)) (packet_with i (packets_of (others k came)))
packet-split i k [] once = refl
packet-split i k (x ∷ came) once =
    by_bool (x.0 == k)
    (λ b. packet_with i (packets_of (x ∷ came))
    ≡ option_or (packet_with i (if b then x.1 ∷ of_channel k came else of_channel k came)) (packet_with i (packets_of (if b then others k came else x ∷ others k came))))
    (λ here.
    by_bool (x.1.head.index == i)
    (λ t. times i (packets_of came) + (if t then 1 else 0) ≤ 1 → (if t then Some x.1 else packet_with i (packets_of came))
    ≡ option_or (if t then Some x.1 else packet_with i (of_channel k came)) (packet_with i (packets_of (others k came))))
    (λ own few. refl) (λ other few. packet-split i k came (omega (arith, few))) once)
    (λ away.
    by_bool (x.1.head.index == i)
    (λ t. times i (packets_of came) + (if t then 1 else 0) ≤ 1 → (if t then Some x.1 else packet_with i (packets_of came))
    ≡ option_or (packet_with i (of_channel k came)) (if t then Some x.1 else packet_with i (packets_of (others k came))))
    (λ own few.
    let none : times i (of_channel k came) ≡ 0 = omega (arith, few, times-split i k came) in
    sym (ap (λ (o : Option Packet). option_or o (Some x.1)) (none-with i (of_channel k came) none)))
    (λ other few. packet-split i k came (omega (arith, few))) once)

-- ---- channel by channel

empty-same : (s from : ℕ) (came : List (ℕ × Packet)) → ((k : ℕ) → k < from → of_channel k came ≡ []) → ((k : ℕ) → of_channel (from + k) came ≡ [])
    → came ≡ []
empty-same s from came low each =
    none-came came (λ k.
    ⊎_elim (λ (below : k < from). low k below)
    (λ (above : from ≤ k).
    let there : from + (k - from) ≡ k = omega (arith, above) in
    subst (λ (n : ℕ). of_channel n came ≡ []) there (each (k - from))) (cases_lt k from))

-- one reading before others
module _ (s : ℕ) (r : Reading) (readings : List Reading) where
  abbrev here : List Packet
  here = stream_packets s r.packets

  abbrev later : List Packet
  later = stream_packets s (brought readings)

  both : stream_packets s (brought (r ∷ readings)) ≡ here ++ later
  both = filter-append (λ (p : Packet). p.head.stream == s) r.packets (brought readings)

  join : (from : ℕ) (came : List (ℕ × Packet)) → of_channel from came ≡ here → IsSameStream (packets_of (others from came)) later
      → IsSameStream (packets_of came) (stream_packets s (brought (r ∷ readings)))
  join from came first rest = subst (λ (ps : List Packet). IsSameStream (packets_of came) ps) (sym both)
      (record {
        times_are = times_all;
        configs = λ i.
            configs-split i from came
            ∙ ap₂ (λ (a b : Bool). a || b) (ap (has_config_at i) first) (rest.configs i)
            ∙ sym (list_any-append (λ (q : Packet). q.head.index == i && is_config q.head.kind) here later);
        packet = λ i once.
            let few : times i (packets_of came) ≤ 1 = omega (arith, times_all i, once) in
            let few_later : times i later ≤ 1 = omega (arith, times-both i here later, once) in
            packet-split i from came few
            ∙ ap₂ option_or (ap (packet_with i) first) (rest.packet i few_later)
            ∙ sym (packet-both i here later);
      })
    where
      times_all : (i : ℕ) → times i (packets_of came) ≡ times i (here ++ later)
      times_all i =
          times-split i from came
          ∙ ap₂ (λ (a b : ℕ). a + b) (ap (times i) first) (rest.times_are i)
          ∙ sym (times-both i here later)

same-from : (s : ℕ) (readings : List Reading) (from : ℕ) (came : List (ℕ × Packet)) → ((k : ℕ) → k < from → of_channel k came ≡ [])
    → ((k : ℕ) → of_channel (from + k) came ≡ stream_packets s (packets_at readings k))
    → IsSameStream (packets_of came) (stream_packets s (brought readings))
same-from s [] from came low each =
    subst (λ (c : List (ℕ × Packet)). IsSameStream (packets_of c) []) (sym (empty-same s from came low each))
    (record { times_are = λ i. refl; configs = λ i. refl; packet = λ i once. refl })
same-from s (r ∷ readings) from came low each =
    join s r readings from came (subst (λ (n : ℕ). of_channel n came ≡ stream_packets s r.packets) (plus_none from) (each 0))
    (same-from s readings (suc from) (others from came) low_others each_others)
  where
    plus_none : (n : ℕ) → n + 0 ≡ n
    plus_none n = omega arith

    low_others : (k : ℕ) → k < suc from → of_channel k (others from came) ≡ []
    low_others k below =
        ⊎_elim
        (λ (same : from ≡ k). subst (λ (n : ℕ). of_channel n (others from came) ≡ []) same (others-same from came))
        (λ (away : from ≡ k → ⊥). others-away from k came away ∙ low k (grind (arith, away, below))) (cases_eq from k)

    moved : (a b : ℕ) → a + suc b ≡ suc a + b
    moved a b = omega arith

    each_others : (k : ℕ) → of_channel (suc from + k) (others from came) ≡ stream_packets s (packets_at readings k)
    each_others k =
        others-away from (suc from + k) came (λ e. omega (arith, e))
        ∙ subst (λ (n : ℕ). of_channel n came ≡ stream_packets s (packets_at readings k)) (moved from k) (each (suc k))

pub same-packets : (s : ℕ) (readings : List Reading) (came : List Packet) → CameFrom s readings came → IsSameStream came (stream_packets s (brought readings))
same-packets s readings came from =
    subst (λ (ps : List Packet). IsSameStream ps (stream_packets s (brought readings))) from.packets_are
    (same-from s readings 0 from.tagged (λ k below. absurd (omega (arith, below)))
    (λ k. subst (λ (n : ℕ). of_channel n from.tagged ≡ stream_packets s (packets_at readings k)) (plus k) (from.each k)))
  where
    plus : (k : ℕ) → k ≡ 0 + k
    plus k = omega arith
