-- The first bit that is set is the least page.
use Rattle.vfm_base.proofs.PageWords.{set_of_words, least_value, least_found, least_least, least_none}
use Rattle.vfm_base.proofs.pages.PageSet.least_from.Goals as goal

pub returns-clause-value : goal.returns-clause-value
returns-clause-value c = least_value c.self.inside.words c.args.self.now c.args.p c.least_in_words.result c.self.view_is c.least_in_words.ensures.found c.least_in_words.ensures.least c.least_in_words.ensures.none

pub returns-clause-found : goal.returns-clause-found
returns-clause-found c = least_found c.self.inside.words c.args.self.now c.args.p c.least_in_words.result c.self.view_is c.least_in_words.ensures.found

pub returns-clause-least : goal.returns-clause-least
returns-clause-least c = least_least c.self.inside.words c.args.self.now c.args.p c.least_in_words.result c.self.view_is c.least_in_words.ensures.found c.least_in_words.ensures.least

pub returns-clause-none : goal.returns-clause-none
returns-clause-none c = least_none c.self.inside.words c.args.self.now c.args.p c.least_in_words.result c.self.view_is c.least_in_words.ensures.none

pub returns-clause-set : goal.returns-clause-set
returns-clause-set c = set_of_words c.self.inside.words c.args.self.now c.self.view_is
