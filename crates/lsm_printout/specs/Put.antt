-- Text put into a memory of limited room, after what stands there.
use Rattle.std.specs.Prelude.{ℕ, ◌-◌, List, ◌++◌, length, take}

-- what stands in a memory of so much room after text is put there: as much of it as there is room for
unfoldable pub put : ℕ → List ℕ → List ℕ → List ℕ
put room before text = before ++ take (room - length before) text
