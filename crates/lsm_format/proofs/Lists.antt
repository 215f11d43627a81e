-- Laws of a list that is filled from the front with another's elements. Assumes nothing.
use Prim.Native.Nat.{ℕ, ◌+◌, ◌<◌, ◌≤◌}
use native.Mathlib.Numerals.{add-one}
use native.Mathlib.Omega.{arith}
use mathlib.Core.Path.{◌≡◌, sym, ◌∙◌}
use mathlib.Core.List.{List}
use lib.ListN.{length, set, get_or, take}
use lib.Seq.{take-suc, take-suc-set, take_all}

-- one more element of m is stored
pub take_store : (l m : List ℕ) (i : ℕ) → i < length m → length l ≡ length m → take i l ≡ take i m
    → take (i + 1) (set l i (get_or m i 0)) ≡ take (i + 1) m
take_store l m i h e q =
    let u : i < length l = omega arith in
    rw (add-one, take-suc-set l i (get_or m i 0), take-suc m i 0, q)

-- all of them are stored
pub take_full : (l m : List ℕ) (i : ℕ) → length l ≡ length m → length m ≤ i → take i l ≡ take i m → l ≡ m
take_full l m i e h q = sym (take_all i l (omega arith)) ∙ q ∙ take_all i m h
