-- Laws of what is read of a list. Assumes nothing.
use Rattle.std.proofs.Common.{◌≡◌, ℕ, zero, suc, ◌+◌, true, false, List, [], ◌∷◌, ◌++◌, Some, None, nat_eq, arith, refl, append_assoc, take, drop}
use Rattle.std.proofs.lemmas.Grind.{common_steps}
use Rattle.std.specs.Cmp.Lexicographic.{pointwise}
use Rattle.vectors.specs.Numbers.{behind, spaced, then, numbers}

-- ---- the text behind a byte

pub behind_is : (b : ℕ) (text : List ℕ) → pointwise nat_eq (take 1 text) (b ∷ []) ≡ true → behind b text ≡ Some (drop 1 text)
unfolding behind
behind_is b [] e = cc
behind_is b (x ∷ xs) e = grind (arith, common_steps)

pub behind_not : (b : ℕ) (text : List ℕ) → pointwise nat_eq (take 1 text) (b ∷ []) ≡ false → behind b text ≡ None
unfolding behind
behind_not b [] e = refl
behind_not b (x ∷ xs) e = grind (arith, common_steps)

-- ---- what is read part by part

-- The numbers so far, one more, and the rest.
pub numbers_more : {all : List ℕ × List ℕ} {now : List ℕ} (so_far : List ℕ) (room left : ℕ) (text after : List ℕ) (value : ℕ)
    → all ≡ then so_far (numbers room text) → Some (value, after) ≡ spaced text → now ≡ so_far ++ (value ∷ []) → room ≡ left + 1
    → all ≡ then now (numbers left after)
unfolding numbers
numbers_more so_far zero left text after value a s n r = absurd (omega arith)
numbers_more so_far (suc room) left text after value a s n r =
    let k : room ≡ left = omega arith in
    rw (n, append_assoc so_far (value ∷ []) (numbers left after).0) (rw (← s, k, numbers) at a)
