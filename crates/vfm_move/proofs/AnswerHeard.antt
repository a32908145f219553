-- Over links that carry all that is sent the destination's answer is the own digest, and Go comes as it was said.
use Rattle.std.proofs.Common.{◌≡◌, ◌⊎◌, ℕ, zero, suc, ◌+◌, ◌-◌, ◌/◌, ◌%◌, ◌^◌, ◌<◌, ◌≤◌, true, List, [], ◌++◌, length, Option, Some, None, option_map, unwrap_or, slice_index, refl, sym, ap, ◌∙◌, subst, inl, inr, IsTrue, append-nil, arith, ◌&&◌, Bool, if◌then◌else◌}
use Rattle.std.specs.Int.{bytes_high_first, byte_at}
use Rattle.std.proofs.lemmas.Bool.{and_parts, cases_lt}
use Rattle.std.proofs.lemmas.List.{get_or-append_right, get_or_append_left, length-append, nil_from_length}
use Rattle.sha2.proofs.Facts256.{length-sha256}
use Rattle.sha2.specs.Sha256.{digest_bytes, final_hash, initial_hash_256, sha256}
use Rattle.vfm_base.specs.Words.{IsBytes}
use Rattle.vfm_types.specs.declared.desc.Desc.{Desc}
use Rattle.vfm_types.specs.declared.fault.Refusal.{Refusal}
use Rattle.vfm_types.specs.Deliveries.{joint_machine}
use Rattle.vfm_types.specs.Machine.{Machine}
use Rattle.vfm_types.specs.Phases.{is_joint, is_last_begun}
use Rattle.vfm_types.specs.Blocks.{is_no_pass_open}
use Rattle.vfm_plain.specs.Ended.{is_last_ended}
use Rattle.vfm_status.specs.declared.status.Status.{Status}
use Rattle.vfm_plain.specs.Report.{Made, source_past}
use Rattle.vfm_plain.specs.StateText.{state_digest, state_text}
use Rattle.vfm_streams.specs.Verdict.{Loads, Verdict}
use Rattle.vfm_control.specs.declared.frame.Frame.TheVariants as frames
use Rattle.vfm_control.specs.Frame.{IsDigest, frame_bytes}
use Rattle.vfm_move.specs.Contact.{Line, Lines}
use Rattle.vfm_move.specs.Table.{WholeGo}
use Rattle.vfm_move.specs.Carried.{HasAnswered, HasSaidGo, IsFront, go_bytes, own_digest, staged_bytes, verdict_frame, verdict_of}
use Rattle.vfm_move.specs.Complete.{CarryAll, Delivers}
use Rattle.vfm_move.specs.Move.{IsHalfway, Stands}
use Rattle.vfm_move.specs.Undisturbed.{IsCopied, IsWhollyCarried}
use Rattle.vfm_move.proofs.Undisturbed.{verdict_is_joint}

-- ---- digests are bytes

below_byte : (x : ℕ) → x % 256 < 256
below_byte x = omega arith

byte_below : (k n : ℕ) → byte_at k n < 256
byte_below zero n = below_byte n
byte_below (suc k) n = below_byte (n / 256 ^ suc k)

word_bytes : (k n i : ℕ) → slice_index (bytes_high_first k n) i < 256
word_bytes zero n i = omega arith
word_bytes (suc k) n zero = byte_below k n
word_bytes (suc k) n (suc i) = word_bytes k n i

both_bytes : (first second : List ℕ) → IsBytes first → IsBytes second → IsBytes (first ++ second)
both_bytes first second one two i =
    elim (cases_lt i (length first)) [
      | inl low ↦ subst (λ (b : ℕ). b < 256) (sym (get_or_append_left first second 0 i low)) (one i)
      | inr high ↦
          subst (λ (b : ℕ). b < 256) (sym (get_or-append_right first second (length first) i 0 refl high))
          (two (i - length first))
    ]

digest_is_bytes : (hash : List ℕ) (n : ℕ) → IsBytes (digest_bytes hash n)
unfolding digest_bytes
digest_is_bytes hash zero = λ i. omega arith
digest_is_bytes hash (suc n) = both_bytes (digest_bytes hash n) (bytes_high_first 4 (slice_index hash n))
    (digest_is_bytes hash n) (word_bytes 4 (slice_index hash n))

hash_is_bytes : (text : List ℕ) → IsBytes (sha256 text)
unfolding sha256
hash_is_bytes text = digest_is_bytes (final_hash initial_hash_256 text) 8

digest_of : (D : Desc) (m : Machine) → IsDigest (state_digest D m)
digest_of D m = record { len = length-sha256 (state_text D m); bytes = hash_is_bytes (state_text D m) }

-- the own digest, where everything was copied
own_is : (made : Made) → IsCopied made
    → own_digest made ≡ state_digest made.desc (joint_machine made.desc (source_past made))
own_is made copied = ap (λ (o : Option Machine). unwrap_or (option_map (state_digest made.desc) o) []) copied.joint

pub own_is_digest : (made : Made) → IsCopied made → IsDigest (own_digest made)
own_is_digest made copied = subst IsDigest (sym (own_is made copied))
    (digest_of made.desc (joint_machine made.desc (source_past made)))

-- ---- frames have 44 bytes

pub staged_long : (session : ℕ) (digest : List ℕ) → length digest ≡ 32
    → length (frame_bytes (frames.Staged session digest)) ≡ 44
unfolding frame_bytes
staged_long session digest len = omega arith

pub go_long : (session : ℕ) (digest : List ℕ) → length digest ≡ 32
    → length (frame_bytes (frames.Go session digest)) ≡ 44
unfolding frame_bytes
go_long session digest len = omega arith

pub refused_long : (session : ℕ) (why : Refusal) → length (frame_bytes (frames.Refused session why)) ≡ 44
unfolding frame_bytes
refused_long session why = refl

-- a front that is as long is the whole
all_front : (front whole : List ℕ) → IsFront front whole → length whole ≤ length front → front ≡ whole
all_front front whole is long =
    let both : length whole ≡ length front + length is.rest = ap length is.is ∙ length-append front is.rest in
    sym (is.is ∙ ap (λ (l : List ℕ). front ++ l) (nil_from_length is.rest (omega arith)) ∙ append-nil front)

-- ---- the answer

pub answer_sent : (made : Made) (lines : Lines) → IsCopied made
    → verdict_of made lines ≡ Loads (joint_machine made.desc (source_past made))
    → HasAnswered made lines → lines.dest_control.sent ≡ staged_bytes made
answer_sent made lines copied verdict answered =
    answered.answered ∙ ap (λ (v : Verdict). frame_bytes (verdict_frame made.desc v)) verdict
    ∙ ap (λ (digest : List ℕ). frame_bytes (frames.Staged made.desc.session digest)) (sym (own_is made copied))

-- what a control link received of a frame: all of it once it has so many bytes or has ended
pub frame_came : (sender receiver : Line) (bytes : List ℕ) → Delivers sender receiver → sender.sent ≡ bytes
    → length bytes ≡ 44
    → (44 ≤ length receiver.received) ⊎ (receiver.ended ≡ true) → receiver.received ≡ bytes
frame_came sender receiver bytes delivers sent len (inl whole) =
    all_front receiver.received bytes (subst (IsFront receiver.received) sent delivers.front) (omega arith)
frame_came sender receiver bytes delivers sent len (inr ended) = delivers.all ended ∙ sent

-- ---- as the laws have it

pub copied_from : (status : Status) (made : Made) → Stands made.desc (source_past made)
    → IsTrue (is_last_ended made.desc (source_past made))
    → IsHalfway status made → IsCopied made
copied_from status made stands ended half =
    let last = (and_parts (is_joint (source_past made) && is_last_begun (source_past made))
    (is_no_pass_open made.desc (source_past made)) ended).0 in
    let joint = (and_parts (is_joint (source_past made)) (is_last_begun (source_past made)) last).0 in
    record {
      legal = stands.legal;
      ended = ended;
      joint =
          half.joint
          ∙ ap (λ (b : Bool). if b then Some (joint_machine made.desc (source_past made)) else None) joint;
    }

pub go_all : (made : Made) (lines : Lines) → IsCopied made → CarryAll made.desc lines
    → HasSaidGo WholeGo made lines.source_control.sent
    → (44 ≤ length lines.dest_control.received) ⊎ (lines.dest_control.ended ≡ true)
    → lines.dest_control.received ≡ go_bytes made
go_all made lines copied carry said =
    frame_came lines.source_control lines.dest_control (go_bytes made) carry.go said
    (go_long made.desc.session (own_digest made) (own_is_digest made copied).len)

module _ (made : Made) (lines : Lines) (is : IsWhollyCarried made lines) (answered : HasAnswered made lines) where
  pub answer_is : lines.dest_control.sent ≡ staged_bytes made
  answer_is = answer_sent made lines is.copied (verdict_is_joint made lines is answered.read_out) answered

  pub answer_begun : IsFront lines.source_control.received (staged_bytes made)
  answer_begun = subst (IsFront lines.source_control.received) answer_is is.carry.answer.front

  pub answer_all : (44 ≤ length lines.source_control.received) ⊎ (lines.source_control.ended ≡ true)
      → lines.source_control.received ≡ staged_bytes made
  answer_all =
      frame_came lines.dest_control lines.source_control (staged_bytes made) is.carry.answer answer_is
      (staged_long made.desc.session (own_digest made) (own_is_digest made is.copied).len)
