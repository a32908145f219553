-- The streams of the devices before this one are closed.
use Rattle.std.proofs.Common.{◌≡◌, ℕ, Option, List}
use Rattle.vfm_types.specs.declared.desc.Desc.{Desc}
use Rattle.vfm_streams.specs.Sent.{Sent, with_devices_closed}
use Rattle.vfm_outlets.specs.Carrying.{Carries, all_failed, links_of}
use Rattle.vfm_closing.proofs.streams.put_devices.Given as goal

abbrev pub invariant-loop-d : goal.invariant-loop-d
invariant-loop-d g l = record {
  put : (D : Desc) (starts : List (Option (List ℕ))) (all : List Sent) → Carries g.L.Link.sent D starts all l.fn.outlets
      → Carries g.L.Link.sent D starts (with_devices_closed l.desc l.joint l.d all) l.outlets;
  links : links_of l.outlets ≡ links_of l.fn.outlets;
  failed : all_failed l.outlets ≡ all_failed l.fn.outlets;
}
