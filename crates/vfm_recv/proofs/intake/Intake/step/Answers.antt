use Rattle.std.proofs.Common.{refl, sym, ap, ℕ, List, length, take, ◌+◌, arith}
use Rattle.std.proofs.lemmas.List.{take_all}
use Rattle.vfm_recv.proofs.Stands.{dropped, shut}
use Rattle.vfm_recv.proofs.intake.Intake.step.Goals as goal

pub returns-in-Ended-clause-stands : goal.returns-in-Ended-clause-stands
returns-in-Ended-clause-stands c came before s =
    dropped c.args.self.now _ came (take (length c.args.bytes.now) c.args.bytes.now) before c.args.fan.now (shut c.args.self.now.stage c.in-Ended.is)
    refl refl refl (ap (λ (l : List ℕ). c.args.self.now.came + length l) (sym (take_all (length c.args.bytes.now) c.args.bytes.now (omega arith)))) s
