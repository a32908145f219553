-- What the worked device's runs made where they end, and control links on which a frame was waited for.
use Rattle.std.specs.Prelude.{Bool, ℕ, List, [], ◌∷◌, reverse}
use Rattle.vfm_plain.specs.Report.{Made}
use Rattle.vfm_move.specs.Contact.{Line}
use Rattle.vfm_move.specs.Worked.{one, one_end, one_home, one_in_doubt, one_unconnected}
use Rattle.vfm_move.specs.Answered.{gone_alone, taken_over}

-- the run with Go on its way, taken over at the destination; and the one of a source that gave up before all else
abbrev pub one_taken_over : Made
one_taken_over = taken_over one_in_doubt (reverse one_home) one_end

abbrev pub one_alone : Made
one_alone = gone_alone one (reverse one_unconnected) one_end

-- a control link that received these bytes, and has ended or hasn't
abbrev pub hears : Bool → List ℕ → Line
hears ended bytes = record { ended = ended; failed_out = 0; failed_in = 0; sent = []; received = bytes }

-- three bytes
abbrev pub three : List ℕ
three = 86 ∷ 70 ∷ 77 ∷ []
