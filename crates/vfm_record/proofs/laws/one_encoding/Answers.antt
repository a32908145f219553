-- The law of encodings.
use Rattle.vfm_record.proofs.Again as again
use Rattle.vfm_record.proofs.laws.one_encoding.Goals as goal

pub returns : goal.returns
returns c r s fits_r fits_s same = again.one_encoding r s fits_r fits_s same
