use Rattle.std.proofs.Common.{refl}
use Rattle.vfm_device.specs.EngineState.{with_arc, with_failed_arc, with_front_put, with_hold, with_no_hold, with_resumed}
use Rattle.vfm_device.proofs.Kept.{kept_completed, kept_delivered, kept_issued, kept_rung, kept_same}
use Rattle.vfm_device.proofs.laws.engines_stay_in_order.Goals as goal

pub returns-clause-issued : goal.returns-clause-issued
returns-clause-issued c = kept_issued

pub returns-clause-delivered : goal.returns-clause-delivered
returns-clause-delivered c = kept_delivered

pub returns-clause-completed : goal.returns-clause-completed
returns-clause-completed c = kept_completed

pub returns-clause-rung : goal.returns-clause-rung
returns-clause-rung c = kept_rung

pub returns-clause-front : goal.returns-clause-front
returns-clause-front c D d bytes e kept = kept_same D d e (with_front_put bytes e) kept refl refl refl refl

pub returns-clause-held : goal.returns-clause-held
returns-clause-held c D d to e kept = kept_same D d e (with_hold to e) kept refl refl refl refl

pub returns-clause-moved : goal.returns-clause-moved
returns-clause-moved c D d to e kept = kept_same D d e (with_arc to e) kept refl refl refl refl

pub returns-clause-failed : goal.returns-clause-failed
returns-clause-failed c D d e kept = kept_same D d e (with_failed_arc e) kept refl refl refl refl

pub returns-clause-released : goal.returns-clause-released
returns-clause-released c D d e kept = kept_same D d e (with_no_hold e) kept refl refl refl refl

pub returns-clause-resumed : goal.returns-clause-resumed
returns-clause-resumed c D d e kept = kept_same D d e (with_resumed e) kept refl refl refl refl
