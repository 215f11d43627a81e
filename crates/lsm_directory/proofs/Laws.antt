-- Where a number was read, and how many values a strip array has. Assumes nothing.
use Prim.Native.Nat.{ℕ, ◌+◌, ◌≤◌}
use mathlib.Core.Bool.{Bool, true, false}
use mathlib.Core.Logic.{◌⊎◌, inl, inr}
use mathlib.Core.Path.{◌≡◌, refl}
use mathlib.Core.List.{List}
use lib.Dec.{leb}
use lib.ListN.{length}
use borrow.Author.Tests.{leb-true, leb-false, eq-eqb, ne_eqb}
use Rattle.lsm_format.specs.Answer.{refused, parse}
use Rattle.lsm_format.specs.Numbers.{Order, number_at}
use Rattle.lsm_format.proofs.Numbers.{number_past}
use Rattle.lsm_values.proofs.Laws.{values_length}

-- a number that was read is in the file, so that the places right after it fit the machine
pub inside_or : (count : ℕ) (o : Order) (f : List ℕ) (p : ℕ) → (number_at count o f p ≡ refused parse) ⊎ (p + count ≤ length f)
inside_or count o f p = by (leb (p + count) (length f)) refl
  where
    by : (b : Bool) → leb (p + count) (length f) ≡ b → (number_at count o f p ≡ refused parse) ⊎ (p + count ≤ length f)
    by true t = inr (leb-true _ _ t)
    by false t = inl (number_past count o f p (leb-false _ _ t))

-- two strip arrays have the same length where they count the same
pub ruleset lengths = (values_length, eq-eqb, ne_eqb)
