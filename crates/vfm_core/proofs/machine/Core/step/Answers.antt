-- The laws of parts, at the entry that was made or refused.
use Rattle.std.proofs.Common.{◌≡◌, ◌++◌, Option, None, Some, false, is_none, subst}
use Rattle.std.specs.Result.{MatchResult}
use Rattle.vfm_types.specs.declared.entry.Rule.{Rule}
use Rattle.vfm_device_part.specs.declared.steps.Guard.{Guard}
use Rattle.vfm_plain.specs.Rules.{fault_of}
use Rattle.vfm_parts.specs.Steps.{fault_on}
use Rattle.vfm_core.proofs.Follows.{follows, rule_is, staged_fine, staged_goes_on, staged_refused}
use Rattle.vfm_core.proofs.Outcomes.{at_ok, matched, matched_ok}
use Rattle.vfm_core.proofs.machine.Core.step.Goals as goal

pub returns-clause-rule : goal.returns-clause-rule
returns-clause-rule c = λ past is.
    subst (λ (fault : Option Rule). MatchResult c.make.result (λ x. fault ≡ None) (λ guard. fault ≡ Some guard.0))
    (rule_is c.args.self.now.desc c.args.self.now.world c.args.e past c.requires is.told) c.make.ensures.guard

pub returns-clause-follows : goal.returns-clause-follows
returns-clause-follows c = λ past is.
    at_ok c.make.result
    (follows c.args.self.now c.make.new.self c.args.e past c.make.ensures.valid c.requires is)
    (matched_ok (fault_on c.args.self.now.desc c.args.self.now.world c.args.e ≡ None) (λ (guard : Guard). fault_on c.args.self.now.desc c.args.self.now.world c.args.e ≡ Some guard.0)
    c.make.result c.make.ensures.guard) c.make.ensures.done

pub returns-clause-staged_rule : goal.returns-clause-staged_rule
returns-clause-staged_rule c = λ before mine is.
    let past = mine ++ before in
    matched (fault_on c.args.self.now.desc c.args.self.now.world c.args.e ≡ None) (fault_of c.args.self.now.desc past c.args.e ≡ None)
    (λ (guard : Guard). fault_on c.args.self.now.desc c.args.self.now.world c.args.e ≡ Some guard.0) (λ (guard : Guard). is_none (fault_of c.args.self.now.desc past c.args.e) ≡ false)
    c.make.result
    (λ fine. staged_fine c.args.self.now.desc c.args.self.now.world c.args.e past c.requires is.after fine)
    (λ guard broken. staged_refused c.args.self.now.desc c.args.self.now.world c.args.e past guard.0 c.requires is.after broken)
    c.make.ensures.guard

pub returns-clause-staged : goal.returns-clause-staged
returns-clause-staged c = λ before mine is.
    at_ok c.make.result
    (staged_goes_on c.args.self.now c.make.new.self c.args.e before mine c.make.ensures.valid c.requires is)
    (matched_ok (fault_on c.args.self.now.desc c.args.self.now.world c.args.e ≡ None) (λ (guard : Guard). fault_on c.args.self.now.desc c.args.self.now.world c.args.e ≡ Some guard.0)
    c.make.result c.make.ensures.guard) c.make.ensures.done
