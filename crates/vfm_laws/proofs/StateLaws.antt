-- What every legal list keeps of the devices' states, fact by fact.
use Rattle.std.proofs.Common.{◌≡◌, ℕ, ◌<◌, true, false, List, [], ap}
use Rattle.std.proofs.lemmas.Bool.{both_ways, true_from_ne_false, false_from_ne_true}
use Rattle.vfm_types.specs.declared.state.MigState.TheVariants.{StopCopy}
use Rattle.vfm_types.specs.declared.desc.Desc.{Desc}
use Rattle.vfm_types.specs.declared.entry.Entry.{Entry}
use Rattle.vfm_types.specs.Desc.{device_count}
use Rattle.vfm_types.specs.Phases.{is_joint, is_aborted, is_resumed}
use Rattle.vfm_types.specs.Arcs.{state_of, is_running, is_stopped}
use Rattle.vfm_types.specs.Outstanding.{outstanding_of}
use Rattle.vfm_types.specs.Words.{has_barred, is_nothing}
use Rattle.vfm_types.specs.Valid.{IsValid}
use Rattle.vfm_plain.specs.Legal.{IsLegal}
use Rattle.vfm_laws.specs.Standing.{is_quiet_state}
use Rattle.vfm_laws.proofs.KeptStates.{keeps_states}

module _ (D : Desc) (past : List Entry) (valid : IsValid D) (legal : IsLegal D past) where
  pub barred_running : (d : ℕ) → d < device_count D → has_barred D d (outstanding_of D d past) ≡ true → is_running (state_of d past) ≡ true
  barred_running d inside some =
      true_from_ne_false (is_running (state_of d past))
      (λ slow. both_ways (has_barred D d (outstanding_of D d past)) (((keeps_states D valid past legal).0 d inside).unbarred slow) some)

  pub stopped_nothing : (d : ℕ) → d < device_count D → is_stopped (state_of d past) ≡ true → outstanding_of D d past ≡ []
  stopped_nothing d inside still = ((keeps_states D valid past legal).0 d inside).still still

  pub issuer_runs : (d : ℕ) → d < device_count D → is_nothing (outstanding_of D d past) ≡ false → is_stopped (state_of d past) ≡ false
  issuer_runs d inside some =
      false_from_ne_true (is_stopped (state_of d past))
      (λ still. both_ways (is_nothing (outstanding_of D d past)) some (ap (is_nothing {X = _}) (stopped_nothing d inside still)))

  pub stopped_tame : (d e : ℕ) → d < device_count D → e < device_count D → is_stopped (state_of d past) ≡ true → is_quiet_state (state_of e past) ≡ true
  stopped_tame d e inside_d inside_e still = (keeps_states D valid past legal).1 d e inside_d inside_e still

  pub joint_stands : is_joint past ≡ true → is_aborted past ≡ false → is_resumed past ≡ false → (d : ℕ) → d < device_count D → state_of d past ≡ StopCopy
  joint_stands joint aborted resumed d inside = (keeps_states D valid past legal).2 joint aborted resumed d inside

  pub joint_nothing : is_joint past ≡ true → is_aborted past ≡ false → is_resumed past ≡ false → (d : ℕ) → d < device_count D → outstanding_of D d past ≡ []
  joint_nothing joint aborted resumed d inside = stopped_nothing d inside (ap is_stopped (joint_stands joint aborted resumed d inside))
