-- A record that is no digest stands in a data packet.
use Rattle.std.proofs.Common.{refl, ◌∙◌}
use Rattle.vfm_record.specs.Record.{record_of}
use Rattle.vfm_load.proofs.LoadLemmas.{no_digest, stored_says}
use Rattle.vfm_load.proofs.loader.Loader.place.Goals as goal

pub returns : goal.returns
returns c = record {
  made = record {
    valid = c.requires.made.valid;
    known = c.requires.made.known;
    stream = c.requires.made.stream;
    ours = c.requires.made.ours;
    fits = c.take.ensures.fits;
  };
  rest = refl;
  taken = λ records kind says is.
      stored_says c.args.desc.now c.args.self.now.stream records _ (record_of c.args.rec) c.args.config _ c.take.result
      (no_digest c.args.rec c.in_default.not-Config) c.if-config.false (c.take.ensures.taken records kind says.stored (is ∙ c.if-config.false));
}
