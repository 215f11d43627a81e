-- Lent memory: what it must hold, and what is left in it ("Returned, When, Left in lent memory").
use Rattle.std.specs.Prelude.{ℕ, ◌-◌, ◌^◌, min, true, false, List, ◌++◌, leb, length, drop}
use Rattle.lsm_format.specs.Answer.{Result, accepted, bind, need, too_short}

-- "7, length needed": an answer of `needed` elements into memory of `room`. The length is accepted, or it is what the refusal
-- says, capped at 2 ^ 64 - 1: no memory is longer.
unfoldable pub lend : ℕ → ℕ → Result ℕ
lend needed room = bind (need (too_short (min needed (2 ^ 64 - 1))) (leb needed room)) (λ _. accepted needed)

-- What the memory holds afterwards: the answer with the rest as it was ("Past the answer's end, buffers are unchanged"), or
-- all as it was where the answer has no room ("nothing written").
unfoldable pub filled : List ℕ → List ℕ → List ℕ
filled answer lent = elim (leb (length answer) (length lent)) [ true ↦ answer ++ drop (length answer) lent | false ↦ lent ]
