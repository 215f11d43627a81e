-- A law of the bytes that follow a first byte. Assumes nothing.
use Prim.Native.Nat.{ℕ, suc, ◌+◌}
use native.Mathlib.Omega.{arith}
use mathlib.Core.Path.{◌≡◌, refl, ap}
use mathlib.Core.Bool.{Bool, true, false, cond}
use Rattle.std.specs.List.{zip, take_while}
use mathlib.Core.List.{List, [], ◌∷◌}
use lib.ListN.{length, take}
use Rattle.lsm_format.specs.Utf8.{between, matched}

-- as many elements, from the front for as long as each passes
count_by : {A : Type 0} (t : Bool) (n m : ℕ) (x : A) (xs : List A) → length (take n xs) ≡ m
    → length (take (cond t (1 + n) 0) (x ∷ xs)) ≡ elim t [ true ↦ suc m | false ↦ 0 ]
count_by true n m x xs e = let q : 1 + n ≡ suc n = omega arith in rw q (ap suc e)
count_by false n m x xs e = refl

pub matched_zip : (rs : List (ℕ × ℕ)) (bs : List ℕ) → length (take_while (λ p. between p.0 p.1) (zip rs bs)) ≡ matched rs bs
matched_zip [] bs = refl
matched_zip (r ∷ rs) [] = refl
matched_zip (r ∷ rs) (b ∷ bs) = count_by (between r b) _ _ (r, b) (zip rs bs) (matched_zip rs bs)
