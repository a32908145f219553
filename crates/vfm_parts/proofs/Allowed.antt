-- What an entry that breaks no rule says of the list before it, where the laws on effects need it.
use Rattle.std.proofs.Common.{◌≡◌, ℕ, ◌+◌, ◌<◌, ◌==◌, true, false, not, ◌&&◌, ◌||◌, if◌then◌else◌, nat_le, nat_lt, is_none, List, [], ◌∷◌, Option, Some, None, refl, sym, ◌∙◌, eqb-true}
use Rattle.std.proofs.lemmas.Bool.{and_parts, not-true, false≢true}
use Rattle.vfm_types.specs.declared.desc.Desc.{Desc}
use Rattle.vfm_types.specs.declared.entry.Entry.{Entry}
use Rattle.vfm_types.specs.declared.entry.Entry.TheVariants.{Report, Pass, Block, Begin, Resume}
use Rattle.vfm_types.specs.declared.entry.Rule.TheVariants.{Order, Pages, Decide, Blocks, Start, Joint as Standing}
use Rattle.vfm_base.specs.Least.{all_below}
use Rattle.vfm_types.specs.Desc.{device_count}
use Rattle.vfm_types.specs.Phases.{is_begun, is_joint, is_aborted, is_resumed, is_failed, is_on, pass_count, is_last_begun}
use Rattle.vfm_types.specs.Marks.{has_reported}
use Rattle.vfm_types.specs.Blocks.{is_unread, is_no_pass_open}
use Rattle.vfm_types.specs.Words.{is_decided}
use Rattle.vfm_plain.specs.Legal.{IsLegal}
use Rattle.vfm_plain.specs.Rules.{fault_of}
use Rattle.vfm_plain.specs.ReportRules.{may_report_log}
use Rattle.vfm_plain.specs.PassRules.{is_next_pass, is_pass_wanted}
use Rattle.vfm_plain.specs.BlockRules.{is_block_due}
use Rattle.vfm_plain.specs.BeginRules.{may_begin_move}
use Rattle.vfm_plain.specs.ResumeRules.{is_state_copied}
use Rattle.vfm_laws.proofs.Below.{all_below_at}
use Rattle.vfm_laws.proofs.Conditions.{met}

-- an option that is nothing
pub none_is : {X : Type 0} (x : Option X) → is_none x ≡ true → x ≡ None
none_is None e = refl
none_is (Some x) e = absurd (false≢true e)

-- a move that is on has begun, and was neither given up nor taken over
pub on_begun : (past : List Entry) → is_on past ≡ true → is_begun past ≡ true
on_begun past on_ =
    let three = (and_parts (is_begun past && not (is_aborted past) && not (is_resumed past)) (not (is_failed past)) on_).0 in
    let two = (and_parts (is_begun past && not (is_aborted past)) (not (is_resumed past)) three).0 in
    (and_parts (is_begun past) (not (is_aborted past)) two).0

pub on_live : (past : List Entry) → is_on past ≡ true → is_resumed past ≡ false
on_live past on_ =
    let three = (and_parts (is_begun past && not (is_aborted past) && not (is_resumed past)) (not (is_failed past)) on_).0 in
    not-true (is_resumed past) (and_parts (is_begun past && not (is_aborted past)) (not (is_resumed past)) three).1

pub on_kept : (past : List Entry) → is_on past ≡ true → is_aborted past ≡ false
on_kept past on_ =
    let three = (and_parts (is_begun past && not (is_aborted past) && not (is_resumed past)) (not (is_failed past)) on_).0 in
    let two = (and_parts (is_begun past && not (is_aborted past)) (not (is_resumed past)) three).0 in
    not-true (is_aborted past) (and_parts (is_begun past) (not (is_aborted past)) two).1

pub report_on : (D : Desc) (past : List Entry) (d : ℕ) → fault_of D past (Report d) ≡ None → is_on past ≡ true
report_on D past d fine = (met (is_on past) Order ((may_report_log D d past, Pages) ∷ []) fine).0

-- a device reports once between two passes
pub report_once : (D : Desc) (past : List Entry) (d : ℕ) → fault_of D past (Report d) ≡ None → has_reported d past ≡ false
report_once D past d fine =
    let order = met (is_on past) Order ((may_report_log D d past, Pages) ∷ []) fine in
    let all = met (may_report_log D d past) Pages [] order.1 in
    let wanted = (if is_joint past then not (is_last_begun past) else not (is_decided D past)) in
    let three = (and_parts (nat_lt 0 (pass_count past) && is_no_pass_open D past && not (has_reported d past)) wanted all.0).0 in
    not-true (has_reported d past) (and_parts (nat_lt 0 (pass_count past) && is_no_pass_open D past) (not (has_reported d past)) three).1

pub pass_next : (D : Desc) (past : List Entry) (k : ℕ) → fault_of D past (Pass k) ≡ None → is_next_pass D k past ≡ true
pass_next D past k fine =
    let order = met (is_on past) Order ((is_next_pass D k past, Pages) ∷ (is_pass_wanted D k past, Decide) ∷ []) fine in
    (met (is_next_pass D k past) Pages ((is_pass_wanted D k past, Decide) ∷ []) order.1).0

pub pass_number : (D : Desc) (past : List Entry) (k : ℕ) → fault_of D past (Pass k) ≡ None → k ≡ pass_count past + 1
pass_number D past k fine =
    let reports = nat_le k 1 || all_below (device_count D) (λ d. has_reported d past) in
    let two = (and_parts (k == pass_count past + 1 && is_no_pass_open D past) reports (pass_next D past k fine)).0 in
    eqb-true k (pass_count past + 1) (and_parts (k == pass_count past + 1) (is_no_pass_open D past) two).0

-- before a pass that isn't the first each device has reported
pub pass_reported : (D : Desc) (past : List Entry) (k : ℕ) → fault_of D past (Pass k) ≡ None → nat_le k 1 ≡ false
    → (d : ℕ) → d < device_count D → has_reported d past ≡ true
pass_reported D past k fine later d inside =
    let all = all_below (device_count D) (λ e. has_reported e past) in
    let reports = (and_parts (k == pass_count past + 1 && is_no_pass_open D past) (nat_le k 1 || all) (pass_next D past k fine)).1 in
    let each : all ≡ true = rw later at reports in
    all_below_at (device_count D) (λ e. has_reported e past) d each inside

pub block_on : (D : Desc) (past : List Entry) (d b : ℕ) → fault_of D past (Block d b) ≡ None → is_on past ≡ true
block_on D past d b fine = (met (is_on past) Order ((is_block_due D d b past, Blocks) ∷ []) fine).0

pub begin_live : (D : Desc) (past : List Entry) → fault_of D past Begin ≡ None → is_resumed past ≡ false
begin_live D past fine =
    let order = met (not (is_begun past) && not (is_aborted past) && not (is_resumed past)) Order ((may_begin_move D past, Start) ∷ []) fine in
    not-true (is_resumed past) (and_parts (not (is_begun past) && not (is_aborted past)) (not (is_resumed past)) order.0).1

pub resume_kept : (D : Desc) (past : List Entry) → fault_of D past Resume ≡ None → is_aborted past ≡ false
resume_kept D past fine = on_kept past (met (is_on past) Order ((is_state_copied D past, Standing) ∷ []) fine).0

-- no block was read before the move began
pub unread_before : (D : Desc) (past : List Entry) → IsLegal D past → is_begun past ≡ false → (d b : ℕ) → is_unread d b past ≡ true
unread_before D [] legal before d b = refl
unread_before D (Block e c ∷ past) legal before d b = absurd (false≢true (sym before ∙ on_begun past (block_on D past e c legal.1)))
unread_before D (Begin ∷ past) legal before d b = absurd (false≢true (sym before))
unread_before D (entry ∷ past) legal before d b = unread_before D past legal.2 before d b
