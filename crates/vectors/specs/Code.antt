-- What the code's lines mean.
use Rattle.std.specs.Prelude.{ℕ, List, option_map}
use Rattle.std.specs.Borrow.{Bor}
use Rattle.vectors.specs.declared.text.Said.{Said}
use Rattle.vectors.specs.declared.text.Line.{Line}
use Rattle.vectors.specs.Lines.{Says, Read}

module _ {N M : ℕ} where
  abbrev pub says_of : Said N M → Says
  says_of s = record { numbers = s.numbers.items; bytes = s.bytes.items }

-- The numbers and the bytes that a line says, as it hands them out.
abbrev pub parts_of : Bor (List ℕ) × Bor (List ℕ) → Says
parts_of p = record { numbers = p.0.now; bytes = p.1.now }

abbrev pub line_of : Line → Read
line_of l = record { letter = l.letter; says = option_map parts_of l.said }
