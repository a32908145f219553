-- A loader goes on to stand for the packets that were applied.
use Rattle.std.proofs.Common.{◌≡◌, ℕ, suc, ◌+◌, Bool, true, false, List, [], ◌∷◌, ◌++◌, length, map, reverse, Option, Some, None, refl, ap, sym, ◌∙◌, subst, arith, length-append}
use Rattle.std.specs.Prelude.{Result, Ok, Err, MatchResult, is_some}
use Rattle.std.specs.Option.{option_or, option_map}
use Rattle.std.proofs.lemmas.List.{map-append, reverse-append}
use Rattle.std.proofs.lemmas.Grind.{reverse_onto}
use Rattle.vfm_types.specs.declared.desc.Desc.{Desc}
use Rattle.vfm_packet.specs.Packet.{Packet}
use Rattle.vfm_record.specs.declared.record.Rec.{Rec}
use Rattle.vfm_record.specs.declared.record.Rec.TheVariants as lent
use Rattle.vfm_record.specs.Record.{Record, record_of, record_bytes, IsRecordOf}
use Rattle.vfm_record.specs.Tests.{record_fault, record_at}
use Rattle.vfm_record.proofs.Again.{again}
use Rattle.vfm_streams.specs.Whole.{StreamFault, BadRecord}
use Rattle.vfm_streams.specs.Judged.{payload_fault, stand_fault, bad_record}
use Rattle.vfm_load.specs.declared.faults.Refused.{Refused}
use Rattle.vfm_load.specs.declared.loader.Loader.{Loader}
use Rattle.vfm_load.specs.Stores.{is_digest, HoldsStore}
use Rattle.vfm_load.specs.Loads.{fault_in, records_of, ends_with_digest, IsLoaderOf, SaysRecords, IsAfter, IsPacket}

-- ---- one packet more

-- what packets say, put before older records
abbrev onto : ℕ → List Packet → List Record → List Record
onto s [] older = older
onto s (p ∷ packets) older = onto s packets (record_at s p.payload ∷ older)

onto_more : (s : ℕ) (packets : List Packet) (p : Packet) (older : List Record)
    → onto s (packets ++ p ∷ []) older ≡ record_at s p.payload ∷ onto s packets older
onto_more s [] p older = refl
onto_more s (q ∷ packets) p older = onto_more s packets p (record_at s q.payload ∷ older)

pub records_more : (s : ℕ) (packets : List Packet) (p : Packet) → records_of s (packets ++ p ∷ []) ≡ record_at s p.payload ∷ records_of s packets
records_more s packets p =
    let read : Packet → Record = λ q. record_at s q.payload in
    ap (reverse {A = Record}) (map-append read packets (p ∷ [])) ∙ reverse-append (map read packets) (read p ∷ [])

onto_is : (s : ℕ) (packets : List Packet) (older : List Record) → onto s packets older ≡ records_of s packets ++ older
onto_is s [] older = refl
onto_is s (p ∷ packets) older =
    let read : Packet → Record = λ q. record_at s q.payload in
    onto_is s packets (read p ∷ older)
    ∙ sym (ap (λ (rs : List Record). rs ++ older) (reverse_onto (map read packets) (read p) []) ∙ regroup (reverse (map read packets)) (read p) older)
  where
    regroup : (xs : List Record) (x : Record) (ys : List Record) → (xs ++ x ∷ []) ++ ys ≡ xs ++ x ∷ ys
    regroup [] x ys = refl
    regroup (y ∷ xs) x ys = ap (λ (zs : List Record). y ∷ zs) (regroup xs x ys)

or_none : (o : Option StreamFault) → option_or o None ≡ o
or_none None = refl
or_none (Some x) = refl

or_or : (a b c : Option StreamFault) → option_or a (option_or b c) ≡ option_or (option_or a b) c
or_or None b c = refl
or_or (Some x) b c = refl

bad_more : (D : Desc) (s : ℕ) (older : List Record) (i : ℕ) (packets : List Packet) (p : Packet)
    → bad_record D s older i (packets ++ p ∷ [])
    ≡ option_or (bad_record D s older i packets) (option_map (BadRecord (i + length packets)) (payload_fault D s (onto s packets older) p))
bad_more D s older i [] p =
    or_none (option_map (BadRecord i) (payload_fault D s older p))
    ∙ ap (λ (n : ℕ). option_map (BadRecord n) (payload_fault D s older p)) (omega arith)
bad_more D s older i (q ∷ packets) p =
    let next = record_at s q.payload ∷ older in
    let here = option_map (BadRecord i) (payload_fault D s older q) in
    ap (option_or here) (bad_more D s next (i + 1) packets p)
    ∙ or_or here (bad_record D s next (i + 1) packets) (option_map (BadRecord (i + 1 + length packets)) (payload_fault D s (onto s packets next) p))
    ∙ ap (λ (n : ℕ). option_or (option_or here (bad_record D s next (i + 1) packets)) (option_map (BadRecord n) (payload_fault D s (onto s packets next) p))) (further i (length packets))
  where
    further : (a b : ℕ) → a + 1 + b ≡ a + suc b
    further a b = omega arith

-- the first fault of packets and one more
pub bad_next : (D : Desc) (s : ℕ) (packets : List Packet) (p : Packet)
    → bad_record D s [] 0 (packets ++ p ∷ [])
    ≡ option_or (bad_record D s [] 0 packets) (option_map (BadRecord (length packets)) (payload_fault D s (records_of s packets) p))
bad_next D s packets p =
    bad_more D s [] 0 packets p
    ∙ ap (λ (n : ℕ). option_or (bad_record D s [] 0 packets) (option_map (BadRecord n) (payload_fault D s (onto s packets []) p))) (omega arith)
    ∙ ap (λ (rs : List Record). option_or (bad_record D s [] 0 packets) (option_map (BadRecord (length packets)) (payload_fault D s rs p)))
    (onto_is s packets [] ∙ nothing_behind (records_of s packets))
  where
    nothing_behind : (xs : List Record) → xs ++ [] ≡ xs
    nothing_behind [] = refl
    nothing_behind (x ∷ xs) = ap (λ (ys : List Record). x ∷ ys) (nothing_behind xs)

-- ---- a record that was read

pub no_digest : (rec : Rec) → ((x : _) → rec ≡ lent.Config x → ⊥) → is_digest (record_of rec) ≡ false
no_digest (lent.Page p bytes) not_ = refl
no_digest (lent.Block b bytes) not_ = refl
no_digest (lent.Engine accepted done lost pend buf) not_ = refl
no_digest (lent.Pending count bytes) not_ = refl
no_digest (lent.Config digest) not_ = absurd (not_ digest refl)

-- a payload that was read is refused where its record is
pub payload_is : (D : Desc) (s : ℕ) (records : List Record) (p : Packet) (config : Bool) (payload : List ℕ) (r : Record) → IsPacket p config payload
    → record_fault D s payload ≡ None → IsRecordOf D s r → payload ≡ record_bytes r
    → (payload_fault D s records p ≡ stand_fault D s p.head.kind records r) × (record_at s payload ≡ r)
payload_is D s records p config payload r is none of_stream encoded =
    let read : record_at s payload ≡ r = ap (record_at s) encoded ∙ (again D s r of_stream).1 in (
      ap (λ (bytes : List ℕ). option_or (record_fault D s bytes) (stand_fault D s p.head.kind records (record_at s bytes))) is.payload_is
          ∙ ap (λ (o : Option ℕ). option_or o (stand_fault D s p.head.kind records (record_at s payload))) none
          ∙ ap (stand_fault D s p.head.kind records) read,
      read,
    )

-- what a call answered of a record, as an answer of its payload
pub payload_taken : (D : Desc) (s : ℕ) (records : List Record) (p : Packet) (new : Loader) (config : Bool) (payload : List ℕ) (r : Record)
    (answer : Result (Unit {0}) ℕ) → IsPacket p config payload → record_fault D s payload ≡ None → IsRecordOf D s r → payload ≡ record_bytes r
    → MatchResult answer
    (λ _. (stand_fault D s p.head.kind records r ≡ None) × SaysRecords new D s (r ∷ records) × (config ≡ is_digest r))
    (λ place. stand_fault D s p.head.kind records r ≡ Some place)
    → MatchResult answer
    (λ _. (payload_fault D s records p ≡ None) × SaysRecords new D s (record_at s payload ∷ records) × (config ≡ is_digest (record_at s payload)))
    (λ place. payload_fault D s records p ≡ Some place)
payload_taken D s records p new config payload r (Ok done) is none of_stream encoded taken =
    let both = payload_is D s records p config payload r is none of_stream encoded in
    (both.0 ∙ taken.0, subst (λ (x : Record). SaysRecords new D s (x ∷ records)) (sym both.1) taken.1, taken.2 ∙ ap is_digest (sym both.1))
payload_taken D s records p new config payload r (Err place) is none of_stream encoded taken =
    (payload_is D s records p config payload r is none of_stream encoded).0 ∙ taken

-- what was stored of a record that is no digest
pub stored_says : (D : Desc) (s : ℕ) (records : List Record) (new : Loader) (r : Record) (config : Bool) (fault : Option ℕ) (answer : Result (Unit {0}) ℕ)
    → is_digest r ≡ false → config ≡ false
    → MatchResult answer (λ _. (fault ≡ None) × HoldsStore D s (r ∷ records) new.store) (λ place. fault ≡ Some place)
    → MatchResult answer (λ _. (fault ≡ None) × SaysRecords new D s (r ∷ records) × (config ≡ is_digest r)) (λ place. fault ≡ Some place)
stored_says D s records new r config fault (Ok done) no_ data_ taken =
    (taken.0, record { stored = taken.1; digest = λ yes_. let clash : false ≡ true = sym no_ ∙ yes_ in absurd cc }, data_ ∙ sym no_)
stored_says D s records new r config fault (Err place) no_ data_ taken = taken

-- ---- a packet that was applied

pub nothing_refused : (o : Option Refused) → is_some o ≡ false → o ≡ None
nothing_refused None none = refl
nothing_refused (Some refused) none = let clash : true ≡ false = none in absurd cc

pub none_in : (o : Option Refused) → is_some o ≡ false → fault_in o ≡ None
none_in None none = refl
none_in (Some refused) none = let clash : true ≡ false = none in absurd cc

some_in : (o : Option Refused) → is_some o ≡ true → fault_in o ≡ None → ⊥
some_in None some none = let clash : false ≡ true = some in absurd cc
some_in (Some refused) some none = cc

module _ (D : Desc) (s : ℕ) (packets : List Packet) (p : Packet) (old new : Loader) (after : IsAfter old D s packets) (made : IsLoaderOf new D s)
    (next : new.next ≡ old.next + 1) where
  count : new.next ≡ length (packets ++ p ∷ [])
  count = let all : length (packets ++ p ∷ []) ≡ length packets + 1 = length-append packets (p ∷ []) in omega (arith, after.count)

  -- it was dropped
  pub after_dropped : new.refused ≡ old.refused → is_some old.refused ≡ true → IsAfter new D s (packets ++ p ∷ [])
  after_dropped same some =
      record {
        loader_of = made;
        count = count;
        bad = ap fault_in same ∙ first (fault_in old.refused) refl
            ∙ ap (λ (o : Option StreamFault). option_or o (option_map (BadRecord (length packets)) (payload_fault D s (records_of s packets) p))) after.bad
            ∙ sym (bad_next D s packets p);
        says = λ none. absurd (some_in old.refused some (sym (ap fault_in same) ∙ none));
        last = λ none. absurd (some_in old.refused some (sym (ap fault_in same) ∙ none));
      }
    where
      first : (o : Option StreamFault) → fault_in old.refused ≡ o
          → fault_in old.refused ≡ option_or (fault_in old.refused) (option_map (BadRecord (length packets)) (payload_fault D s (records_of s packets) p))
      first None is = absurd (some_in old.refused some is)
      first (Some x) is =
          is ∙ sym (ap (λ (o : Option StreamFault). option_or o (option_map (BadRecord (length packets)) (payload_fault D s (records_of s packets) p))) is)

  module _ (open_ : is_some old.refused ≡ false) where
    none : fault_in old.refused ≡ None
    none = none_in old.refused open_

    bad_here : bad_record D s [] 0 (packets ++ p ∷ []) ≡ option_map (BadRecord (length packets)) (payload_fault D s (records_of s packets) p)
    bad_here =
        bad_next D s packets p
        ∙ ap (λ (o : Option StreamFault). option_or o (option_map (BadRecord (length packets)) (payload_fault D s (records_of s packets) p))) (sym after.bad ∙ none)

    -- it is the first that was refused
    pub after_refused : (index place : ℕ) → new.refused ≡ Some (record { index = index; place = place }) → index ≡ old.next
        → payload_fault D s (records_of s packets) p ≡ Some place → IsAfter new D s (packets ++ p ∷ [])
    after_refused index place is here refused =
        let bad : fault_in new.refused ≡ Some (BadRecord index place) = ap fault_in is in
        let no_ : fault_in new.refused ≡ None → ⊥ = λ none_. let clash : Some (BadRecord index place) ≡ None = sym bad ∙ none_ in cc in
        record {
          loader_of = made;
          count = count;
          bad = bad ∙ ap (λ (n : ℕ). Some (BadRecord n place)) (here ∙ after.count)
              ∙ sym (bad_here ∙ ap (option_map (BadRecord (length packets))) refused);
          says = λ none_. absurd (no_ none_);
          last = λ none_. absurd (no_ none_);
        }

    -- it was taken
    pub after_taken : new.refused ≡ None → payload_fault D s (records_of s packets) p ≡ None
        → SaysRecords new D s (record_at s p.payload ∷ records_of s packets) → new.closed ≡ is_digest (record_at s p.payload)
        → IsAfter new D s (packets ++ p ∷ [])
    after_taken is fault says closed =
        let more = sym (records_more s packets p) in
        record {
          loader_of = made;
          count = count;
          bad = ap fault_in is ∙ sym (bad_here ∙ ap (option_map (BadRecord (length packets))) fault);
          says = λ none_. subst (SaysRecords new D s) more says;
          last = λ none_. closed ∙ ap (λ (rs : List Record). ends_with_digest rs) more;
        }
