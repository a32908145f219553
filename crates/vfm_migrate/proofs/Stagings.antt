-- Staging over new links, as what its channels brought.
use Rattle.std.proofs.Common.{◌≡◌, ℕ, ◌+◌, ◌<◌, ◌≤◌, ◌==◌, true, false, All, List, [], length, map, slice_index_or, Option, Some, IfOk, IfSome, Result, Ok, Err, refl, ap, ap₂, sym, ◌∙◌, subst, arith, inl, inr, ⊎_elim, zero, suc, ◌∷◌, eqb-true, eq-eqb}
use Rattle.std.proofs.lemmas.Bool.{cond-false, cond-true, eqb-false}
use Rattle.std.proofs.lemmas.List.{get_or-map, length-map, same_lists}
use Rattle.std.proofs.Math.Bridge.{le_prop}
use Rattle.std.proofs.Math.Nat.{le_refl, le-suc}
use Rattle.vfm_types.specs.declared.desc.Desc.{Desc}
use Rattle.vfm_types.specs.Desc.{device_count}
use Rattle.vfm_laws.proofs.Rising.{by_bool}
use Rattle.vfm_outside.specs.Counts.{Rose}
use Rattle.vfm_outside.specs.Links.{IsNew, Told}
use Rattle.vfm_outside.specs.Told.{TellsNone, with_appended}
use Rattle.vfm_core.specs.Machines.{machine_in}
use Rattle.vfm_core.specs.CoreState.{CoreState}
use Rattle.vfm_packet.specs.declared.answer.Expect.{Expect}
use Rattle.vfm_packet.specs.Channel.{channel_limit}
use Rattle.vfm_packet.specs.Header.{IsVersion}
use Rattle.vfm_plain.specs.StateText.{state_digest}
use Rattle.vfm_streams.specs.Verdict as streams
use Rattle.vfm_streams.specs.Verdict.{Expects, Verdict, Loads, Refuses}
use Rattle.vfm_dest.specs.Heards as heards
use Rattle.vfm_dest.specs.Heards.{untold}
use Rattle.vfm_dest.specs.StagedCores.{StagedState}
use Rattle.vfm_dest.specs.Stages.{IsVerdictLoaded, core_of}
use Rattle.vfm_dest.specs.Staging as staging
use Rattle.vfm_dest.specs.Staging.{AreReadOut, HasPassed, IsJudged, Judges, Links, NamesFailed, ReadsOut, SaysVerdict, before_at, now_at}
use Rattle.vfm_dest.specs.declared.judging.StageFault.{StageFault}
use Rattle.vfm_dest.specs.declared.judging.StageFault.TheVariants as faults
use Rattle.vfm_move.specs.Contact.{Line, told_line}
use Rattle.vfm_move.specs.Carried.{IsReadOut, expected}
use Rattle.vfm_move.specs.Causes.{FailedIn}
use Rattle.vfm_migrate.specs.Links.{AreLines}
use Rattle.vfm_migrate.specs.Brought.{HaveBrought, IsStaged, StagedFor}
use Rattle.vfm_migrate.proofs.Links.{appended_told, nothing, same_at, silent_line, there_is}
use Rattle.vfm_migrate.proofs.Offers.{LinkWords, tell}

-- ---- what is expected

abbrev expect_of : (version session streams : ℕ) → IsVersion version → Expect
expect_of version session streams known = record
    { version = version; session = session; streams = streams; known = known }

-- of one version, session and number of streams there is one expectation
same_known : (version : ℕ) (p q : IsVersion version) → p ≡ q
same_known version p q = ap₂ (λ (low : 1 ≤ version) (high : version ≤ 2). (low, high)) (le_prop p.0 q.0)
    (le_prop p.1 q.1)

one_expect : (version other session streams : ℕ) (p : IsVersion version) (q : IsVersion other) → version ≡ other
    → expect_of version session streams p ≡ expect_of other session streams q
one_expect version other session streams p q same =
    subst (λ (w : ℕ). (r : IsVersion w) → expect_of version session streams p ≡ expect_of w session streams r) same
    (λ r. ap (expect_of version session streams) (same_known version p r)) q

second : (D : Desc) → D.version ≡ 2 → expected D ≡ expect_of 2 D.session (device_count D + 1) (le-suc 1, le_refl 2)
second D is =
    cond-true (D.version == 2) (expect_of 2 D.session (device_count D + 1) (le-suc 1, le_refl 2))
    (expect_of 1 D.session (device_count D + 1) (le_refl 1, le-suc 1)) (eq-eqb D.version 2 is)

first : (D : Desc) → (D.version == 2) ≡ false
    → expected D ≡ expect_of 1 D.session (device_count D + 1) (le_refl 1, le-suc 1)
first D other =
    cond-false (D.version == 2) (expect_of 2 D.session (device_count D + 1) (le-suc 1, le_refl 2))
    (expect_of 1 D.session (device_count D + 1) (le_refl 1, le-suc 1)) other

-- a description has one
pub expected_is : (D : Desc) (e : Expect) → Expects D e → e ≡ expected D
expected_is D e expects =
    ap₂ (λ (session streams : ℕ). expect_of e.version session streams e.known) expects.session expects.streams
    ∙ by_bool (D.version == 2) (λ b. expect_of e.version D.session (device_count D + 1) e.known ≡ expected D)
    (λ two.
    let is : D.version ≡ 2 = eqb-true D.version 2 two in
    one_expect e.version 2 D.session (device_count D + 1) e.known (le-suc 1, le_refl 2) (expects.version ∙ is)
    ∙ sym (second D is))
    (λ other.
    let low : 1 ≤ e.version = e.known.0 in
    let high : e.version ≤ 2 = e.known.1 in
    let same : e.version ≡ D.version = expects.version in
    let away : D.version ≡ 2 → ⊥ = eqb-false D.version 2 other in
    let one : e.version ≡ 1 = is_one e.version low high (λ two. away (sym same ∙ two)) in
    one_expect e.version 1 D.session (device_count D + 1) e.known (le_refl 1, le-suc 1) one ∙ sym (first D other))
  where
    is_one : (n : ℕ) → 1 ≤ n → n ≤ 2 → (n ≡ 2 → ⊥) → n ≡ 1
    is_one n low high away = omega (arith, low, high, away)

-- ---- what the channels brought

-- what a link tells of what comes in
abbrev pub tell_in : {L : Type 0} → LinkWords L → L → heards.Told
tell_in words link = heards.told words.received words.ended words.failed_in link

module _ {L : Type 0} (words : LinkWords L) (before now : List L) (count : length now ≡ length before)
    (fresh : All IsNew (map (tell words) before)) where
  abbrev links : Links
  links = record { before = map (tell_in words) before; now = map (tell_in words) now }

  many : length links.before ≡ length before
  many = length-map before (tell_in words)

  was_new : (k : ℕ) → k < length before → IsNew (slice_index_or (map (tell words) before) k nothing)
  was_new k inside = fresh k nothing (let all = length-map before (tell words) in omega (arith, all, inside))

  was_none : (k : ℕ) → k < length before → TellsNone (before_at links k).received
  was_none k inside =
      subst TellsNone
      (sym (same_at (tell_in words) (tell words) (λ (t : heards.Told). t.received) (λ (t : Told). t.received)
      (λ link. refl) before k untold nothing inside))
      (was_new k inside).received

  was_zero : (k : ℕ) → k < length before → (before_at links k).failed_in ≡ 0
  was_zero k inside =
      same_at (tell_in words) (tell words) (λ (t : heards.Told). t.failed_in) (λ (t : Told). t.failed_in)
      (λ link. refl) before k untold nothing inside
      ∙ (was_new k inside).failed_in

  failed_in : (k : ℕ) → staging.FailedIn links k → FailedIn (map (tell words) now) k
  failed_in k failed =
      let inside : k < length before = let all = many in omega (arith, all, failed.0) in
      let low : k < length now = omega (arith, inside, count) in
      there_is (λ (link : Told). Rose 0 link.failed_in) (map (tell words) now) k
      (let all = length-map now (tell words) in omega (arith, all, low))
      (λ d.
      subst (λ (m : ℕ). Rose 0 m)
      (same_at (tell_in words) (tell words) (λ (t : heards.Told). t.failed_in) (λ (t : Told). t.failed_in)
      (λ link. refl) now k untold d low)
      (subst (λ (m : ℕ). Rose m (now_at links k).failed_in) (was_zero k inside) failed.1))

  -- where the links tell their bytes
  module _ (lines : List Line) (are : AreLines (map (tell words) now) lines) where
    line_count : length lines ≡ length before
    line_count =
        let all = length-map now (tell words) in
        let told = length-map lines told_line in
        let same = ap length are in omega (arith, all, told, same, count)

    line_is : (k : ℕ) (d : Line) → k < length lines
        → slice_index_or (map (tell words) now) k nothing ≡ told_line (slice_index_or lines k d)
    line_is k d inside = ap (λ (l : List Told). slice_index_or l k nothing) are
        ∙ get_or-map told_line lines k d nothing inside

    heard_is : (k : ℕ) (d : Line) → k < length lines
        → (now_at links k).received ≡ Some (slice_index_or lines k d).received
    heard_is k d inside =
        same_at (tell_in words) (tell words) (λ (t : heards.Told). t.received) (λ (t : Told). t.received)
        (λ link. refl) now k untold nothing
        (let all = line_count in omega (arith, inside, all, count))
        ∙ ap (λ (t : Told). t.received) (line_is k d inside)

    ended_is : (k : ℕ) (d : Line) → k < length lines → (now_at links k).ended ≡ (slice_index_or lines k d).ended
    ended_is k d inside =
        same_at (tell_in words) (tell words) (λ (t : heards.Told). t.ended) (λ (t : Told). t.ended) (λ link. refl) now
        k untold nothing
        (let all = line_count in omega (arith, inside, all, count))
        ∙ ap (λ (t : Told). t.ended) (line_is k d inside)

    -- the bytes that came are those of the line
    came_is : (k : ℕ) (d : Line) (came : List ℕ) → k < length lines
        → (now_at links k).received ≡ with_appended (before_at links k).received came
        → (slice_index_or lines k d).received ≡ came
    came_is k d came inside is =
        subst (λ (o : Option (List ℕ)). IfSome o (λ told. told ≡ came)) (heard_is k d inside)
        (appended_told (before_at links k).received (now_at links k).received came
        (was_none k (let all = line_count in omega (arith, inside, all))) is)

    all_read_out : AreReadOut links (length links.before) → All IsReadOut lines
    all_read_out out k d inside =
        ⊎_elim (λ (ended : (now_at links k).ended ≡ true). inl (sym (ended_is k d inside) ∙ ended))
        (λ (passed : HasPassed links k).
        inr (subst (λ (bytes : List ℕ). channel_limit < length bytes)
        (sym (came_is k d passed.came inside passed.received)) passed.many))
        (out k (let one = line_count in let two = many in omega (arith, inside, one, two))).stopped

    all_came : (came : List (List ℕ)) → staging.HaveBrought links came → came ≡ map (λ line. line.received) lines
    all_came came brought =
        same_lists came (map (λ line. line.received) lines)
        (let one = line_count in let two = many in let three = length-map lines (λ (line : Line). line.received) in
        let four = brought.count in omega (arith, one, two, three, four))
        (λ k d inside.
        let low : k < length lines = let one = line_count in let two = many in let four = brought.count in omega
        (arith, inside, one, two, four) in
        there k d low (slice_index_or came k d)
        (brought.each k (let four = brought.count in omega (arith, inside, four))
        ∙ ap (with_appended (before_at links k).received) (default_is came k d inside)))
      where
        default_is : (xs : List (List ℕ)) (k : ℕ) (d : List ℕ) → k < length xs
            → slice_index_or xs k [] ≡ slice_index_or xs k d
        default_is [] k d low = absurd (omega (arith, low))
        default_is (x ∷ xs) zero d low = refl
        default_is (x ∷ xs) (suc k) d low = default_is xs k d (omega (arith, low))

        there : (k : ℕ) (d : List ℕ) → k < length lines → (bytes : List ℕ)
            → (now_at links k).received ≡ with_appended (before_at links k).received bytes
            → bytes ≡ slice_index_or (map (λ line. line.received) lines) k d
        there k d low bytes is =
            sym (came_is k (silent_line) bytes low is)
            ∙ sym (get_or-map (λ (line : Line). line.received) lines k silent_line d low)

    verdict_is : (D : Desc) (came : List (List ℕ)) (e : Expect) → Expects D e → staging.HaveBrought links came
        → streams.verdict D (expected D) (map (λ line. line.received) lines) ≡ streams.verdict D e came
    verdict_is D came e expects brought =
        ap₂ (λ (x : Expect) (bytes : List (List ℕ)). streams.verdict D x bytes) (sym (expected_is D e expects))
        (sym (all_came came brought))

  brought_by : (D : Desc) (result : Result StagedState StageFault) (v : Verdict)
      → AreReadOut links (length links.before) → (judged : IsJudged D links result)
      → streams.verdict D judged.expect judged.came ≡ v → HaveBrought D (map (tell words) now) v
  brought_by D result v out judged says lines are =
      record {
        read_out = all_read_out lines are out;
        verdict = verdict_is lines are D judged.came judged.expect judged.expects judged.brought ∙ says;
      }

  staged_is : (D : Desc) (staged : StagedState) → AreReadOut links (length links.before) → IsJudged D links (Ok staged)
      → IsStaged D (map (tell words) now) staged
  staged_is D staged out judged =
      let loaded : IsVerdictLoaded D (streams.verdict D judged.expect judged.came) staged = judged.says in
      let from = loaded.2 in
      record {
        desc = ap (λ (s : CoreState). s.desc) from.core_is;
        digest = from.digest_is ∙ ap (state_digest D) (sym from.machine_is);
        brought = brought_by D (Ok staged) (Loads (machine_in (core_of staged).world)) out judged
            (loaded.3 ∙ ap Loads (sym from.machine_is));
      }

  pub staged_for : (D : Desc) (result : Result StagedState StageFault) → Judges D links result → ReadsOut links result
      → NamesFailed links result
      → StagedFor D (map (tell words) now) result
  staged_for D (Ok staged) judged out names = staged_is D staged out judged
  staged_for D (Err (faults.Refusal why)) judged out names = brought_by D (Err (faults.Refusal why)) (Refuses why) out
      judged judged.says
  staged_for D (Err (faults.Link k)) judged out names = failed_in k names
  staged_for D (Err faults.NoMemory) judged out names = tt

-- a core that was staged is of the description
pub staged_desc : (D : Desc) (told : List Told) (result : Result StagedState StageFault) → StagedFor D told result
    → IfOk result (λ staged. (core_of staged).desc ≡ D)
staged_desc D told (Ok staged) is = is.desc
staged_desc D told (Err fault) is = tt
