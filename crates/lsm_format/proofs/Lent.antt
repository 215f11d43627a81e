-- Laws of lent memory: an answer that has room, and one that has none. Assumes nothing.
use Prim.Native.Nat.{ℕ, ◌-◌, ◌^◌, ◌≤◌, ◌<◌, min}
use mathlib.Core.Path.{◌≡◌, ap}
use mathlib.Core.Bool.{Bool, true, false}
use mathlib.Core.List.{List, ◌++◌}
use borrow.Author.Tests.{le-leb, lt-leb, leb-true}
use lib.Dec.{leb}
use lib.ListN.{length, drop}
use Rattle.lsm_format.specs.Answer.{accepted, refused, bind, too_short}
use Rattle.lsm_format.specs.Lent.{lend, filled}
use Rattle.lsm_format.proofs.Accepting.{Accepting, accepting_bind, accepting_need}

-- the answer has room: its length is accepted
pub lend_room : (needed room : ℕ) → needed ≤ room → lend needed room ≡ accepted needed
unfolding lend bind
lend_room needed room h = rw (le-leb needed room h)

-- it has none: the refusal says the length
pub lend_short : (needed room : ℕ) → room < needed → lend needed room ≡ refused (too_short (min needed (2 ^ 64 - 1)))
unfolding lend bind
lend_short needed room h = rw (lt-leb needed room h)

-- what is accepted has room
pub lend_fits : (needed room : ℕ) → Accepting (λ (n : ℕ). needed ≤ room) (lend needed room)
unfolding lend Accepting
lend_fits needed room = accepting_bind _ _ _ _ (accepting_need (too_short _) (leb needed room)) (λ _ t. leb-true _ _ t)

-- the answer has room: it stands at the front, and the rest is as it was
pub filled_room : (answer lent : List ℕ) → length answer ≤ length lent → filled answer lent ≡ answer ++ drop (length answer) lent
unfolding filled
filled_room answer lent h =
    ap (λ (t : Bool). elim t [ true ↦ answer ++ drop (length answer) lent | false ↦ lent ]) (le-leb (length answer) (length lent) h)

-- it has none: all is as it was
pub filled_short : (answer lent : List ℕ) → length lent < length answer → filled answer lent ≡ lent
unfolding filled
filled_short answer lent h =
    ap (λ (t : Bool). elim t [ true ↦ answer ++ drop (length answer) lent | false ↦ lent ]) (lt-leb (length answer) (length lent) h)
