-- Facts of what every list keeps.
use Rattle.vfm_laws.proofs.QueueLaws.{fence_alone, within_window}
use Rattle.vfm_laws.proofs.queue.window_and_fences_hold.Goals as goal

pub returns-clause-window : goal.returns-clause-window
returns-clause-window c = within_window

pub returns-clause-fence : goal.returns-clause-fence
returns-clause-fence c = fence_alone
