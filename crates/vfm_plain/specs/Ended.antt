-- Runs that have come to their end.
use Rattle.std.specs.Prelude.{◌&&◌, not, Bool, List}
use Rattle.vfm_types.specs.declared.state.MigState.TheVariants.{Running}
use Rattle.vfm_types.specs.declared.entry.Entry.{Entry}
use Rattle.vfm_types.specs.declared.desc.Desc.{Desc}
use Rattle.vfm_types.specs.Desc.{device_count}
use Rattle.vfm_base.specs.Least.{all_below}
use Rattle.vfm_types.specs.Phases.{is_joint, is_aborted, is_resumed, is_last_begun}
use Rattle.vfm_types.specs.Blocks.{is_no_pass_open}
use Rattle.vfm_types.specs.Words.{all_stand_in, is_idle}

-- every device is RUNNING and idle after the list, newest first
abbrev pub has_ended : Desc → List Entry → Bool
has_ended D past = all_stand_in D Running past && all_below (device_count D) (λ d. is_idle D d past)

-- the source gave up and went on to its end
abbrev pub went_on : Desc → List Entry → Bool
went_on D past = has_ended D past && is_aborted past && not (is_resumed past)

-- the last pass has begun and ended: everything that is to be copied is
abbrev pub is_last_ended : Desc → List Entry → Bool
is_last_ended D past = is_joint past && is_last_begun past && is_no_pass_open D past
