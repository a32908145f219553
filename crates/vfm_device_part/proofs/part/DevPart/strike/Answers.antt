use Rattle.vfm_device_part.proofs.Struck.{struck_add, struck_read, struck_store, struck_write}
use Rattle.vfm_device_part.proofs.part.DevPart.strike.Goals as goal

pub returns-in-Write : goal.returns-in-Write
returns-in-Write c =
    rw (c.put.ensures, c.place_of-place.ensures, c.bytes.ensures.value)
    (struck_write c.args.desc.now c.args.t c.args.self.now c.args.job.now c.in-Write.at c.in-Write.bytes c.args.buf.now c.in-Write.is (record {
      valid = c.requires.valid;
      inside = c.requires.device;
      fits = c.requires.fits;
      in_range = c.requires.in_range;
      aimed = c.requires.aimed;
      within = c.requires.within;
    }))

pub returns-in-Read : goal.returns-in-Read
returns-in-Read c =
    struck_read c.args.desc.now c.args.t c.args.self.now c.args.job.now c.in-Read.at c.in-Read.len c.args.buf.now c.in-Read.is (record {
      valid = c.requires.valid;
      inside = c.requires.device;
      fits = c.requires.fits;
      in_range = c.requires.in_range;
      aimed = c.requires.aimed;
      within = c.requires.within;
    })

pub returns-in-Store : goal.returns-in-Store
returns-in-Store c =
    rw (c.put-in-Store.ensures, c.place_of-place.ensures)
    (struck_store c.args.desc.now c.args.t c.args.self.now c.args.job.now c.in-Store.at c.in-Store.len c.args.buf.now c.told-buf c.in-Store.is (record {
      valid = c.requires.valid;
      inside = c.requires.device;
      fits = c.requires.fits;
      in_range = c.requires.in_range;
      aimed = c.requires.aimed;
      within = c.requires.within;
    }))

pub returns-in-Add : goal.returns-in-Add
returns-in-Add c =
    rw (c.add.ensures, c.place_of-place.ensures)
    (struck_add c.args.desc.now c.args.t c.args.self.now c.args.job.now c.in-Add.at c.in-Add.value c.args.buf.now c.in-Add.is (record {
      valid = c.requires.valid;
      inside = c.requires.device;
      fits = c.requires.fits;
      in_range = c.requires.in_range;
      aimed = c.requires.aimed;
      within = c.requires.within;
    }))
