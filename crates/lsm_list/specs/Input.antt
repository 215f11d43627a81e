-- What lsm-list writes of an input that it can't read to its end. Document 01 leaves input and output out.
use Rattle.std.specs.Prelude.{ℕ, List, [], ◌∷◌}
use Rattle.lsm_format.specs.Printout.{text}

-- "On a read error lsm-list prints the one line `unreadable`": not the printout of what came before the error.
abbrev pub unreadable_line : List ℕ
unreadable_line = 117 ∷ 110 ∷ 114 ∷ 101 ∷ 97 ∷ 100 ∷ 97 ∷ 98 ∷ 108 ∷ 101 ∷ []

unfoldable pub unreadable : List ℕ
unreadable = text (unreadable_line ∷ [])
