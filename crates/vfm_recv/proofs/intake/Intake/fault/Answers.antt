use Rattle.std.proofs.Common.{refl, inl}
use Rattle.vfm_recv.proofs.Endings.{handed_first, handed_all}
use Rattle.vfm_recv.proofs.Stands.{kept}
use Rattle.vfm_recv.proofs.intake.Intake.fault.Goals as goal

pub returns-in-NoMemory-clause-says : goal.returns-in-NoMemory-clause-says
returns-in-NoMemory-clause-says c came before fan s = handed_first c.args.self.now came before fan s c.args.self.now.limited

pub returns-in-Open : goal.returns-in-Open
returns-in-Open c = record {
  says = λ came before fan s. handed_all c.args.self.now came before fan s c.args.self.now.limited (kept c.args.self.now.stage c.in-Open.is) c.requires;
  fault = inl refl;
}
