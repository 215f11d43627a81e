-- What a decoding into lent memory answers and leaves, in the definitions' terms.
use Rattle.std.specs.Prelude.{ℕ, ◌≡◌, List, length}
use Rattle.lsm_format.specs.Answer.{Result}
use Rattle.lsm_format.specs.Lent.{lend, filled}
use Rattle.lsm_format.specs.Utf8.{lossy}

-- A decoding into lent memory: the answer, and what the memory holds afterwards.
pub record Decoding (s before after : List ℕ) (answer : Result ℕ) : Type 0 where
  pub answered : answer ≡ lend (length (lossy s)) (length before)
  pub memory : after ≡ filled (lossy s) before
