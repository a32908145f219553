-- What an intake answers is what the reading of all that came says.
use Rattle.std.proofs.Common.{◌≡◌, ◌∙◌, refl, sym, ap, ap₂, subst, ℕ, ◌+◌, ◌≤◌, Bool, nat_lt, Option, Some, None, List, ◌++◌, length, drop, arith, append-nil}
use Rattle.std.proofs.lemmas.List.{length-append, length-drop}
use Rattle.vfm_packet.specs.declared.answer.Cause.{Cause}
use Rattle.vfm_packet.specs.declared.answer.Expect.{Expect}
use Rattle.vfm_packet.specs.Packet.{Packet}
use Rattle.vfm_packet.specs.Answer.{IsPartial}
use Rattle.vfm_packet.specs.Channel.{channel_limit, all_bytes}
use Rattle.vfm_packet.specs.ChannelRefusal.{ChannelRefusal, Bad, Aborted, Truncated, NoEnd, AfterEnd, TooLong, is_over}
use Rattle.vfm_packet.specs.Reading.{Reading, ends, brings_all, unfinished, after_end, reading_at, reading}
use Rattle.vfm_packet.proofs.Channels.{step_end, step_abort, step_more, step_bad}
use Rattle.vfm_packet.proofs.Decoding.{partial_reads}
use Rattle.vfm_packet.proofs.Readings.{received}
use Rattle.vfm_mesh.specs.declared.fan.Fan.{Fan}
use Rattle.vfm_recv.specs.declared.channel_end.ChannelEnd.{ChannelEnd}
use Rattle.vfm_recv.specs.declared.channel_end.ChannelEnd.TheVariants as channel_ends
use Rattle.vfm_recv.specs.declared.intake.Intake.{Intake}
use Rattle.vfm_recv.specs.declared.intake.Stage.{Stage}
use Rattle.vfm_recv.specs.declared.intake.Stage.TheVariants as stages
use Rattle.vfm_recv.specs.Handed.{HandsOn}
use Rattle.vfm_recv.specs.Intakes.{IsWaiting, StandsAfter, Standing}
use Rattle.vfm_recv.specs.Pumped.{end_of, Says, HandsOnFirst}

pub limit_is : channel_limit ≡ 67108864
unfolding channel_limit
limit_is = refl

says-end : (refusal : Option ChannelRefusal) (W P : Type 0) → W → Says (end_of refusal) refusal W P
says-end None W P w = (w, refl)
says-end (Some (Bad place cause)) W P w = (w, refl)
says-end (Some (Aborted place)) W P w = (w, refl)
says-end (Some (Truncated place)) W P w = (w, refl)
says-end (Some (NoEnd place)) W P w = (w, refl)
says-end (Some (AfterEnd place)) W P w = (w, refl)
says-end (Some TooLong) W P w = (w, refl)

-- the answer of a refusal isn't a fault of the link, and none of memory
pub no_fault : (refusal : Option ChannelRefusal) → end_of refusal ≡ channel_ends.Fault → ⊥
no_fault None is = absurd cc
no_fault (Some (Bad place cause)) is = absurd cc
no_fault (Some (Aborted place)) is = absurd cc
no_fault (Some (Truncated place)) is = absurd cc
no_fault (Some (NoEnd place)) is = absurd cc
no_fault (Some (AfterEnd place)) is = absurd cc
no_fault (Some TooLong) is = absurd cc

module _ (i : Intake) (came : List ℕ) (before fan : Fan) (s : Standing i came before fan) (short : i.came ≤ 67108865) where
  abbrev pub e : Expect
  e = i.expect

  abbrev pub n : ℕ
  n = length (all_bytes s.packets)

  abbrev pub over : Bool
  over = is_over channel_limit came

  abbrev pub rest_reading : Reading
  rest_reading = reading_at channel_limit e over n s.rest

  whole : reading e came ≡ brings_all s.packets rest_reading
  whole =
      ap (reading e) s.encoded
      ∙ received s.packets channel_limit e s.rest s.each (omega (arith, short, s.count, limit_is, ap (λ (l : List ℕ). length l) s.encoded))
      ∙ ap (λ (l : List ℕ). brings_all s.packets (reading_at channel_limit e (is_over channel_limit l) n s.rest)) (sym s.encoded)

  -- where nothing more is brought, the packets were handed on, and the refusal is this one
  all_handed : (refusal : Option ChannelRefusal) → rest_reading ≡ ends refusal → HandsOn before fan (reading e came).packets
  all_handed refusal is =
      subst (λ (ps : List Packet). HandsOn before fan ps)
      (sym (ap (λ (r : Reading). r.packets) whole ∙ ap (λ (r : Reading). s.packets ++ r.packets) is ∙ append-nil s.packets)) s.handed

  refused_so : (refusal : Option ChannelRefusal) → rest_reading ≡ ends refusal → (reading e came).refusal ≡ refusal
  refused_so refusal is = ap (λ (r : Reading). r.refusal) whole ∙ ap (λ (r : Reading). r.refusal) is

  says : (refusal : Option ChannelRefusal) (answer : ChannelEnd) → rest_reading ≡ ends refusal → answer ≡ end_of refusal
      → Says answer (reading e came).refusal (HandsOn before fan (reading e came).packets) (HandsOnFirst before fan (reading e came).packets)
  says refusal answer is so =
      let W = HandsOn before fan (reading e came).packets in
      let P = HandsOnFirst before fan (reading e came).packets in
      subst (λ (a : ChannelEnd). Says a (reading e came).refusal W P) (sym (so ∙ ap end_of (sym (refused_so refusal is))))
      (says-end (reading e came).refusal W P (all_handed refusal is))

  stands_as : (stage : Stage) → i.stage ≡ stage → StandsAfter stage i n s.rest
  stands_as stage is = subst (λ (t : Stage). StandsAfter t i n s.rest) is s.stands

  is_over_so : over ≡ nat_lt 67108864 i.came
  is_over_so = ap₂ (λ (a b : ℕ). nat_lt a b) limit_is (sym s.count)

  open_ends : i.stage ≡ stages.Open → IsWaiting i → rest_reading ≡ ends (unfinished (nat_lt 67108864 i.came) i.place i.held.items)
  open_ends is waiting =
      let stood = stands_as stages.Open is in
      let partial : IsPartial e s.rest = subst (λ (l : List ℕ). IsPartial e l) (sym stood.0) (waiting is) in
      step_more channel_limit e over n s.rest (partial_reads e s.rest partial)
      ∙ ap (λ (b : Bool). ends (unfinished b n s.rest)) is_over_so
      ∙ ap₂ (λ (m : ℕ) (l : List ℕ). ends (unfinished (nat_lt 67108864 i.came) m l)) (sym stood.1) stood.0

  pub says_open : (answer : ChannelEnd) → i.stage ≡ stages.Open → IsWaiting i → answer ≡ end_of (unfinished (nat_lt 67108864 i.came) i.place i.held.items)
      → Says answer (reading e came).refusal (HandsOn before fan (reading e came).packets) (HandsOnFirst before fan (reading e came).packets)
  says_open answer is waiting so = says _ answer (open_ends is waiting) so

  -- what stands after an end packet
  pub record Ending : Type 0 where
    pub rest : List ℕ
    pub count : i.came ≡ i.place + length rest
    pub reads : rest_reading ≡ ends (after_end 67108864 (nat_lt 67108864 i.came) i.place rest)

  pub ended_ends : i.stage ≡ stages.Ended → Ending
  ended_ends is =
      let stood = stands_as stages.Ended is in
      let used = stood.0 in
      record {
        rest = drop used s.rest;
        count =
            omega (arith, s.count, ap (λ (l : List ℕ). length l) s.encoded, length-append (all_bytes s.packets) s.rest, length-drop used s.rest, stood.2, stood.3);
        reads =
            step_end channel_limit e over n s.rest stood.1.head used stood.1.found stood.1.of_kind
            ∙ ap₂ (λ (b : Bool) (m : ℕ). ends (after_end channel_limit b m (drop used s.rest))) is_over_so (sym stood.3)
            ∙ ap (λ (l : ℕ). ends (after_end l (nat_lt 67108864 i.came) i.place (drop used s.rest))) limit_is;
      }

  pub says_ended : (answer : ChannelEnd) → i.stage ≡ stages.Ended
      → ((rest : List ℕ) → i.came ≡ i.place + length rest → answer ≡ end_of (after_end 67108864 (nat_lt 67108864 i.came) i.place rest))
      → Says answer (reading e came).refusal (HandsOn before fan (reading e came).packets) (HandsOnFirst before fan (reading e came).packets)
  says_ended answer is so =
      let ending = ended_ends is in
      says _ answer ending.reads (so ending.rest ending.count)

  abort_ends : i.stage ≡ stages.Aborted → rest_reading ≡ ends (Some (Aborted i.place))
  abort_ends is =
      let stood = stands_as stages.Aborted is in
      step_abort channel_limit e over n s.rest stood.1.head stood.0 stood.1.found stood.1.of_kind ∙ ap (λ (m : ℕ). ends (Some (Aborted m))) (sym stood.2)

  pub says_aborted : i.stage ≡ stages.Aborted
      → Says (channel_ends.Aborted i.place) (reading e came).refusal (HandsOn before fan (reading e came).packets) (HandsOnFirst before fan (reading e came).packets)
  says_aborted is = says _ _ (abort_ends is) refl

  bad_ends : (cause : Cause) → i.stage ≡ stages.Bad cause → rest_reading ≡ ends (Some (Bad i.place cause))
  bad_ends cause is =
      let stood = stands_as (stages.Bad cause) is in
      step_bad channel_limit e over n s.rest cause stood.0 ∙ ap (λ (m : ℕ). ends (Some (Bad m cause))) (sym stood.1)

  pub says_bad : (cause : Cause) → i.stage ≡ stages.Bad cause
      → Says (channel_ends.Bad i.place cause) (reading e came).refusal (HandsOn before fan (reading e came).packets) (HandsOnFirst before fan (reading e came).packets)
  says_bad cause is = says _ _ (bad_ends cause is) refl

  -- memory ran out, or may have: the first packets were handed on
  pub handed_first : HandsOnFirst before fan (reading e came).packets
  handed_first = record { handed = s.packets; others = rest_reading.packets; first = ap (λ (r : Reading). r.packets) whole; on = s.handed }

  handed_by : (stage : Stage) → i.stage ≡ stage → (i.stage ≡ stages.NoMemory → ⊥) → IsWaiting i → HandsOn before fan (reading e came).packets
  handed_by stages.Open is kept waiting = all_handed _ (open_ends is waiting)
  handed_by stages.Ended is kept waiting = all_handed _ (ended_ends is).reads
  handed_by stages.Aborted is kept waiting = all_handed _ (abort_ends is)
  handed_by (stages.Bad cause) is kept waiting = all_handed _ (bad_ends cause is)
  handed_by stages.NoMemory is kept waiting = absurd (kept is)

  -- all that came was handed on
  pub handed_all : (i.stage ≡ stages.NoMemory → ⊥) → IsWaiting i → HandsOn before fan (reading e came).packets
  handed_all kept waiting = handed_by i.stage refl kept waiting
