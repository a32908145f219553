-- Down the list, entry by entry.
use Rattle.vfm_copying.proofs.KnownPages.{changed_pages, fresh_pages}
use Rattle.vfm_copying.proofs.changed.changed_page_is_stale.Goals as goal

pub returns-clause-changed : goal.returns-clause-changed
returns-clause-changed c = changed_pages

pub returns-clause-fresh : goal.returns-clause-fresh
returns-clause-fresh c = fresh_pages
