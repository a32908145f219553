-- The numbers of the rules that an entry must meet.
use Rattle.std.specs.Prelude.{ℕ, ◌==◌, Option, Some, None, if◌then◌else◌}
use Rattle.vfm_types.specs.declared.entry.Rule.{Rule}
use Rattle.vfm_types.specs.declared.entry.Rule.TheVariants.{Turn, Path, Barred, Quiet, Start, Pages, Blocks, Joint, Decide, Order}

-- the number of a rule, counted from 1
abbrev pub rule_number : Rule → ℕ
rule_number Turn = 1
rule_number Path = 2
rule_number Barred = 3
rule_number Quiet = 4
rule_number Start = 5
rule_number Pages = 6
rule_number Blocks = 7
rule_number Joint = 8
rule_number Decide = 9
rule_number Order = 10

-- the rule with a number, if there is one
abbrev pub rule_of_number : ℕ → Option Rule
rule_of_number n =
    if n == 1 then Some Turn else
    (if n == 2 then Some Path else
    (if n == 3 then Some Barred else
    (if n == 4 then Some Quiet else
    (if n == 5 then Some Start else
    (if n == 6 then Some Pages else
    (if n == 7 then Some Blocks else
    (if n == 8 then Some Joint else
    (if n == 9 then Some Decide else
    (if n == 10 then Some Order else None)))))))))
