-- The type of a list, by the name that it has in a clause on what is left of the list once a line that borrows from it is gone.
use Rattle.std.specs.Prelude.{[]}
use Rattle.std.specs.Borrow.{RattleType}
use mir.Syntax.{named}
use Rattle.vectors.specs.contracts.text.Lines.{the_row}

-- `named 0` is the place of the text's lifetime in the signature.
abbrev pub lines_row : RattleType → RattleType → RattleType
lines_row = the_row (record { mir = named 0; lft = [] })
