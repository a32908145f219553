-- One more legal entry: what is sent goes on.
use Rattle.std.proofs.Common.{◌≡◌, ℕ, suc, ◌==◌, ◌||◌, Bool, true, false, ◌&&◌, not, if◌then◌else◌, List, [], ◌∷◌, ◌++◌, refl, ap, sym, ◌∙◌, append_assoc}
use Rattle.std.proofs.lemmas.Bool.{and_parts, cond-false, not-true, both_ways, false≢true}
use Rattle.std.proofs.lemmas.List.{append-nil}
use Rattle.vfm_types.specs.declared.desc.Desc.{Desc}
use Rattle.vfm_types.specs.declared.entry.Entry.{Entry}
use Rattle.vfm_types.specs.declared.entry.Entry.TheVariants.{Pass, Copy as CopyOf, Block as BlockOf, Dry, Joint}
use Rattle.vfm_types.specs.Deliveries.{machine_of, page_bytes, block_bytes, joint_machine}
use Rattle.vfm_types.specs.Phases.{is_joint, is_last_begun}
use Rattle.vfm_types.specs.Blocks.{is_no_pass_open}
use Rattle.vfm_types.specs.declared.state.MigState.TheVariants.{PreCopy}
use Rattle.vfm_types.specs.State.{has_pre_copy}
use Rattle.vfm_types.specs.Desc.{device_count, shape_at}
use Rattle.vfm_types.specs.Paths.{same_state}
use Rattle.vfm_types.specs.Arcs.{state_of}
use Rattle.vfm_base.specs.Least.{all_below}
use Rattle.vfm_types.specs.Words.{is_decided}
use Rattle.vfm_plain.specs.Legal.{IsLegal}
use Rattle.vfm_laws.proofs.Rising.{by_bool}
use Rattle.vfm_copying.proofs.Conditions.{pass_parts, copy_parts, block_parts, dry_parts, joint_parts}
use Rattle.vfm_copying.proofs.Decided.{open_copy, open_part}
use Rattle.vfm_copying.proofs.LastPass.{last_joint}
use Rattle.vfm_packet.specs.Channel.{all_bytes}
use Rattle.vfm_record.specs.Record.{Page, Block}
use Rattle.vfm_streams.specs.Sent.{Sent, sent_in_passes, sent, with_all_closed}
use Rattle.vfm_streams.specs.Packets.{lane_packets, share}
use Rattle.vfm_streams.proofs.Grown.{Grows, grows_none, grows_then, grows_push, grows_sent, lane_grows}

-- one entry more in the passes
passes_grow : (D : Desc) (past : List Entry) (entry : Entry) → Grows (sent_in_passes D past) (sent_in_passes D (entry ∷ past))
passes_grow D past (CopyOf p) = grows_push 0 (Page p (page_bytes (machine_of D past) p)) (sent_in_passes D past)
passes_grow D past (BlockOf d b) = grows_push (suc d) (Block b (block_bytes (machine_of D past) d b)) (sent_in_passes D past)
passes_grow D past entry = grows_none (sent_in_passes D past)

where_joint : (joint last other : Bool) → joint ≡ true → (if joint then not last else other) ≡ true → not last ≡ true
where_joint true last other is h = h
where_joint false last other is h = absurd (false≢true is)

-- once all is sent, no entry sends more
pub closed_stays : (D : Desc) (past : List Entry) (entry : Entry) → IsLegal D (entry ∷ past) → is_last_begun past ≡ true → is_no_pass_open D past ≡ true
    → sent D (entry ∷ past) ≡ sent D past
closed_stays D past (CopyOf p) legal last ended =
    absurd (both_ways (is_no_pass_open D past) (open_copy D past p (copy_parts D past p legal.1).next) ended)
closed_stays D past (BlockOf d b) legal last ended =
    absurd (both_ways (is_no_pass_open D past) (open_part D past d (block_parts D past d b legal.1).part) ended)
closed_stays D past (Dry d) legal last ended =
    absurd (both_ways (is_no_pass_open D past) (open_part D past d (dry_parts D past d legal.1).part) ended)
closed_stays D past (Joint) legal last ended = absurd (both_ways (is_joint past) (joint_parts D past legal.1).1 (last_joint past last))
closed_stays D past (Pass k) legal last ended =
    absurd (both_ways (is_last_begun past)
    (not-true (is_last_begun past) (where_joint (is_joint past) (is_last_begun past) (not (is_decided D past)
    && (not (k == 1) || all_below (device_count D) (λ d. not (has_pre_copy (shape_at D d).flags) || same_state (state_of d past) PreCopy)))
    (last_joint past last) (pass_parts D past k legal.1).wanted)) last)
closed_stays D past entry legal last ended = refl

pub sent_grows : (D : Desc) (past : List Entry) (entry : Entry) → IsLegal D (entry ∷ past) → Grows (sent D past) (sent D (entry ∷ past))
sent_grows D past entry legal =
    by_bool (is_last_begun past && is_no_pass_open D past)
    (λ b. (is_last_begun past && is_no_pass_open D past) ≡ b → Grows (sent D past) (sent D (entry ∷ past)))
    (λ closed e. let parts = and_parts (is_last_begun past) (is_no_pass_open D past) e in
    record { more = []; is = closed_stays D past entry legal parts.0 parts.1 })
    (λ open_ e.
    let same : sent D past ≡ sent_in_passes D past =
    cond-false (is_last_begun past && is_no_pass_open D past) (with_all_closed D (joint_machine D past) (sent_in_passes D past)) (sent_in_passes D past) e in
    let later = grows_then (sent_in_passes D past) (sent_in_passes D (entry ∷ past)) (sent D (entry ∷ past)) (passes_grow D past entry) (grows_sent D (entry ∷ past)) in
    record { more = later.more; is = later.is ∙ ap (λ (all : List Sent). later.more ++ all) (sym same) }) refl

pub share_grows : (D : Desc) (past : List Entry) (entry : Entry) (k : ℕ) → IsLegal D (entry ∷ past)
    → (more : List ℕ) × (share D (entry ∷ past) k ≡ share D past k ++ more)
share_grows D past entry k legal =
    let grown = sent_grows D past entry legal in
    (all_bytes (lane_packets D k grown.more), ap (λ (all : List Sent). all_bytes (lane_packets D k all)) grown.is ∙ lane_grows D k grown.more (sent D past))

-- and the same for many entries more
pub shares_grow : (D : Desc) (entries past : List Entry) (k : ℕ) → IsLegal D (entries ++ past)
    → (more : List ℕ) × (share D (entries ++ past) k ≡ share D past k ++ more)
shares_grow D [] past k legal = ([], sym (append-nil (share D past k)))
shares_grow D (entry ∷ entries) past k legal =
    let before = shares_grow D entries past k legal.2 in
    let step = share_grows D (entries ++ past) entry k legal in
    (before.0 ++ step.0, step.1 ∙ ap (λ (bytes : List ℕ). bytes ++ step.0) before.1 ∙ append_assoc (share D past k) before.0 step.0)
