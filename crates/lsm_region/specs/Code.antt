-- What the answers mean in the definitions' terms.
use Rattle.std.specs.Prelude.{ℕ, ◌≡◌, List, length}
use Rattle.lsm_format.specs.Answer.{Result, accepted, refused}
use Rattle.lsm_format.specs.Picture.{Samples, into, buffer_by}
use Rattle.lsm_region.specs.declared.Picture.{Picture}

-- Rows, columns and bytes of what is given; the bytes themselves are in the lent memory.
abbrev pub shape_of : Result Samples → Result (ℕ × ℕ × ℕ)
shape_of (accepted a) = accepted (a.rows, a.columns, length a.bytes)
shape_of (refused row) = refused row

abbrev pub shape_of_picture : Picture → ℕ × ℕ × ℕ
shape_of_picture p = (p.height, p.width, p.bytes)

-- What plane and region promise: the answer, and what the sample buffer holds afterwards.
pub record Pictured (s : Result Samples) (before after : List ℕ) (answer : Result (ℕ × ℕ × ℕ)) : Type 0 where
  pub answered : answer ≡ shape_of (into s (length before))
  pub memory : after ≡ buffer_by s before
