-- The sizes, and what the largest page allows.
use Rattle.vfm_record.proofs.Again.{encoded_len, within_payload}
use Rattle.vfm_record.proofs.Writable.{page_limit}
use Rattle.vfm_record.proofs.laws.size_of_a_record.Goals as goal

pub returns-clause-size : goal.returns-clause-size
returns-clause-size c r = encoded_len r

pub returns-clause-payload : goal.returns-clause-payload
returns-clause-payload c D stream r valid is = within_payload D stream r is (page_limit D.page valid.in_range.page)
