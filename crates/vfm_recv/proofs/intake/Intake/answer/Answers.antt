use Rattle.vfm_recv.proofs.Endings.{says_open, says_ended, says_aborted, says_bad, handed_first}
use Rattle.vfm_recv.proofs.intake.Intake.answer.Goals as goal

pub returns-in-Open-clause-says : goal.returns-in-Open-clause-says
returns-in-Open-clause-says c came before fan s =
    says_open c.args.self.now came before fan s c.args.self.now.limited c.unfinished.result c.in-Open.is c.requires c.unfinished.ensures

pub returns-in-Ended-clause-says : goal.returns-in-Ended-clause-says
returns-in-Ended-clause-says c came before fan s =
    says_ended c.args.self.now came before fan s c.args.self.now.limited c.after_end.result c.in-Ended.is c.after_end.ensures.answer

pub returns-in-Aborted-clause-says : goal.returns-in-Aborted-clause-says
returns-in-Aborted-clause-says c came before fan s = says_aborted c.args.self.now came before fan s c.args.self.now.limited c.in-Aborted.is

pub returns-in-Bad-clause-says : goal.returns-in-Bad-clause-says
returns-in-Bad-clause-says c came before fan s = says_bad c.args.self.now came before fan s c.args.self.now.limited c.in-Bad.cause c.in-Bad.is

pub returns-in-NoMemory-clause-says : goal.returns-in-NoMemory-clause-says
returns-in-NoMemory-clause-says c came before fan s = handed_first c.args.self.now came before fan s c.args.self.now.limited
