-- What is put and what is left are together all of the pending requests.
use Rattle.std.proofs.Common.{◌≡◌, ℕ, Option, List, length}
use Rattle.vfm_types.specs.declared.desc.Desc.{Desc}
use Rattle.vfm_streams.specs.Sent.{Sent}
use Rattle.vfm_outlets.specs.Carrying.{Carries, all_failed, links_of}
use Rattle.vfm_closing.proofs.Pieces.{PutSoFar}
use Rattle.vfm_closing.proofs.device.put_pendings.Given as goal

abbrev pub invariant-loop-rest : goal.invariant-loop-rest
invariant-loop-rest g l = record {
  put : (D : Desc) (starts : List (Option (List ℕ))) (all : List Sent) → Carries g.L.Link.sent D starts all l.fn.outlets
      → PutSoFar g.L.Link.sent D starts l.outlets (record { stream = l.stream; pairs = l.pairs; before = all; rest = l.rest });
  links : links_of l.outlets ≡ links_of l.fn.outlets;
  failed : all_failed l.outlets ≡ all_failed l.fn.outlets;
}

abbrev pub decreases-loop-rest : goal.decreases-loop-rest
decreases-loop-rest g l = length l.rest
