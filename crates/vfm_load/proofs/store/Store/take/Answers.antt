-- A device takes a record or refuses it.
use Rattle.std.proofs.Common.{subst}
use Rattle.vfm_record.specs.Record.{record_of}
use Rattle.vfm_load.specs.Stores.{FitsStore, HoldsStore}
use Rattle.vfm_load.proofs.StoreLemmas.{record_taken}
use Rattle.vfm_load.proofs.store.Store.take.Goals as goal

pub returns-in-Device-clause-taken : goal.returns-in-Device-clause-taken
returns-in-Device-clause-taken c records kind holds data_ =
    let D = c.args.desc.now in
    let s = c.args.stream in
    let fits = subst (FitsStore D s) c.in-Device.is c.requires.fits in
    record_taken D s kind records c.in-Device.device c.take.new.self (record_of c.args.rec) c.take.result fits.0 c.requires.of_stream c.requires.data_ data_ fits.1
    (subst (HoldsStore D s records) c.in-Device.is holds) c.take.ensures.taken
