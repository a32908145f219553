-- The streams of an offer that was copied whole are closed.
use Rattle.std.proofs.Common.{◌≡◌, ℕ, ◌≤◌, ◌&&◌, Bool, true, Option, List, length, ap, ap₂, sym, ◌∙◌, subst, arith}
use Rattle.std.proofs.lemmas.Bool.{and_parts, cond-true}
use Rattle.vfm_types.specs.Blocks.{is_no_pass_open}
use Rattle.vfm_types.specs.Deliveries.{joint_machine}
use Rattle.vfm_types.specs.Machine.{Machine}
use Rattle.vfm_types.specs.Phases.{is_joint, is_last_begun}
use Rattle.vfm_types.specs.Valid.{IsValid}
use Rattle.vfm_plain.specs.Ended.{is_last_ended}
use Rattle.vfm_plain.specs.Shape.{IsSound}
use Rattle.vfm_core.specs.CoreState.{CoreState}
use Rattle.vfm_streams.specs.Sent.{sent as all_sent, sent_in_passes, with_all_closed}
use Rattle.vfm_streams.proofs.Grown.{grows_sent}
use Rattle.vfm_stream_laws.proofs.HowMuch.{few_in_passes}
use Rattle.vfm_stream_laws.proofs.LoadedJoint.{joint_sound}
use Rattle.vfm_outlets.specs.declared.outlets.Outlets.{Outlets}
use Rattle.vfm_closing.specs.Closing.{CarriesPart, HasRoom, most_closing}
use Rattle.vfm_source.specs.Moving.{IsMoving, IsUnderWay, past_in}

module _ (joint : Machine) (core : CoreState) (valid : IsValid core.desc) (way : IsUnderWay joint core) (ended : is_last_ended core.desc (past_in core) ≡ true) where
  -- the machine that is kept is that at the joint stop
  pub joint_is : joint ≡ joint_machine core.desc (past_in core)
  joint_is =
      way.keeps
      (and_parts (is_joint (past_in core)) (is_last_begun (past_in core))
      (and_parts (is_joint (past_in core) && is_last_begun (past_in core)) (is_no_pass_open core.desc (past_in core)) ended).0).0

  pub sound_is : IsSound core.desc joint
  sound_is = subst (IsSound core.desc) (sym joint_is) (joint_sound core.desc valid (past_in core) way.run.legal)

  -- and with it the whole is sent
  pub whole_is : with_all_closed core.desc joint (sent_in_passes core.desc (past_in core)) ≡ all_sent core.desc (past_in core)
  whole_is =
      let two = and_parts (is_joint (past_in core) && is_last_begun (past_in core)) (is_no_pass_open core.desc (past_in core)) ended in
      let one = and_parts (is_joint (past_in core)) (is_last_begun (past_in core)) two.0 in
      ap (λ (m : Machine). with_all_closed core.desc m (sent_in_passes core.desc (past_in core))) joint_is
      ∙ sym (cond-true (is_last_begun (past_in core) && is_no_pass_open core.desc (past_in core))
      (with_all_closed core.desc (joint_machine core.desc (past_in core)) (sent_in_passes core.desc (past_in core))) (sent_in_passes core.desc (past_in core))
      (ap₂ (λ (a b : Bool). a && b) one.1 two.1))

-- there is an index for each record that closes the streams
pub room_is : {L : Type 0} (sent : L → Option (List ℕ)) (starts : List (Option (List ℕ))) (joint : Machine) (core : CoreState) (outlets : Outlets L)
    → IsValid core.desc → IsMoving sent starts joint core outlets → HasRoom sent most_closing outlets
room_is sent starts joint core outlets valid moving =
    record {
      desc = core.desc;
      starts = starts;
      all = sent_in_passes core.desc (past_in core);
      carries = moving.carries;
      few =
          let few : length (sent_in_passes core.desc (past_in core)) ≤ 82944 = few_in_passes core.desc valid (past_in core) moving.way.run.legal in
          omega (arith, few);
    }

-- what the passes sent is part of the whole
pub passes_part : {L : Type 0} (sent : L → Option (List ℕ)) (starts : List (Option (List ℕ))) (joint : Machine) (core : CoreState) (outlets : Outlets L)
    → IsMoving sent starts joint core outlets → CarriesPart sent core.desc starts (all_sent core.desc (past_in core)) outlets
passes_part sent starts joint core outlets moving =
    let grows = grows_sent core.desc (past_in core) in
    record { part = sent_in_passes core.desc (past_in core); carries = moving.carries; rest = grows.more; goes_on = grows.is }
