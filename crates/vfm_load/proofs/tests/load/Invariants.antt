-- The loader was made for the stream, and so many packets were applied.
use Rattle.std.proofs.Common.{◌≡◌}
use Rattle.vfm_load.specs.Loads.{stream_of, applied, IsLoaderOf}
use Rattle.vfm_load.proofs.tests.load.Given as goal

abbrev pub invariant-loop-i : goal.invariant-loop-i
invariant-loop-i l =
    record {
      made : IsLoaderOf l.loader l.desc (stream_of l.loader);
      next : l.i ≡ applied l.loader;
    }
