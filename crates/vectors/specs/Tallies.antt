-- How lines are counted, and what is printed of them.
use Rattle.std.specs.Prelude.{ℕ, ◌+◌, min, List, ◌++◌, codes}
use Rattle.std.specs.Fmt.{decimal}

-- One more, in 64 bits: the greatest count stays.
abbrev pub one_more : ℕ → ℕ
one_more n = min (n + 1) 18446744073709551615

-- What is printed of a list: its name, how many lines it has and how many differ, and the end of the line.
abbrev pub report_text : List ℕ → ℕ → ℕ → List ℕ
report_text name cases differ = name ++ decimal cases ++ codes ", " ++ decimal differ ++ codes " differ\n"
