-- Laws of `word`: a number that fits is itself, one that does not is none, and what a checked sum or product tells of the
-- number that it reckoned. Assumes nothing.
use Prim.Native.Nat.{ℕ, ◌+◌, ◌*◌, ◌/◌, ◌^◌, ◌-◌, ◌<◌, ◌≤◌}
use native.Mathlib.Nat.{le-div_iff_mul-le, div-lt_iff_lt-mul, le-mul_of_pos_right, mul-le-mul}
use native.Mathlib.Omega.{arith}
use mathlib.Core.Bool.{Bool, true, false}
use mathlib.Core.Path.{◌≡◌, refl}
use Rattle.std.specs.Prelude.{None, Some}
use lib.Dec.{ltb}
use borrow.Author.Tests.{lt-ltb, le-ltb, ltb-true, ltb-false}
use Rattle.lsm_format.specs.Words.{word}
use Rattle.lsm_format.proofs.Apart.{no_case}

pub word_fits : {n : ℕ} → n < 2 ^ 64 → word n ≡ Some n
unfolding word
word_fits {n} h = rw (lt-ltb n (2 ^ 64) h, word)

pub word_over : {n : ℕ} → 2 ^ 64 ≤ n → word n ≡ None
unfolding word
word_over {n} h = rw (le-ltb n (2 ^ 64) h, word)

-- ---- the way back

some_by : (n x : ℕ) (b : Bool) → ltb n (2 ^ 64) ≡ b → word n ≡ Some x → (x ≡ n) × (n < 2 ^ 64)
some_by n x true t e = let f : word n ≡ Some n = word_fits (ltb-true n (2 ^ 64) t) in (cc, ltb-true n (2 ^ 64) t)
some_by n x false t e =
    let f : word n ≡ None = word_over (ltb-false n (2 ^ 64) t) in
    no_case cc

pub word_some : (n x : ℕ) → word n ≡ Some x → (x ≡ n) × (n < 2 ^ 64)
word_some n x e = some_by n x (ltb n (2 ^ 64)) refl e

none_by : (n : ℕ) (b : Bool) → ltb n (2 ^ 64) ≡ b → word n ≡ None → 2 ^ 64 ≤ n
none_by n true t e =
    let f : word n ≡ Some n = word_fits (ltb-true n (2 ^ 64) t) in
    no_case cc
none_by n false t e = ltb-false n (2 ^ 64) t

pub word_none : (n : ℕ) → word n ≡ None → 2 ^ 64 ≤ n
word_none n e = none_by n (ltb n (2 ^ 64)) refl e

-- ---- products

-- the test of a product by a quotient
pub product_fits : (a b : ℕ) → 0 < b → a ≤ (2 ^ 64 - 1) / b → a * b < 2 ^ 64
product_fits a b p h = omega (arith, (le-div_iff_mul-le {k = b} {x = a} {y = 2 ^ 64 - 1} p).0 h)

pub product_over : (a b : ℕ) → 0 < b → (2 ^ 64 - 1) / b < a → 2 ^ 64 ≤ a * b
product_over a b p h = omega (arith, (div-lt_iff_lt-mul {k = b} {x = 2 ^ 64 - 1} {y = a} p).0 h)

-- a product that overflows does so with every further factor but 0
pub product_stays : (n k : ℕ) → 0 < k → 2 ^ 64 ≤ n → 2 ^ 64 ≤ n * k
product_stays n k p h = omega (arith, le-mul_of_pos_right n p)

pub product_none : (n k : ℕ) → 0 < k → word n ≡ None → word (n * k) ≡ None
product_none n k p e = word_over (product_stays n k p (word_none n e))

-- and a number that overflows, with every number added
pub sum_none : (n k : ℕ) → word n ≡ None → word (n + k) ≡ None
sum_none n k e = word_over (omega (arith, word_none n e))

-- a product of two numbers of 32 bits fits
pub halves_fit : {a b : ℕ} → a < 2 ^ 32 → b < 2 ^ 32 → a * b < 2 ^ 64
halves_fit {a} {b} h k =
    let a' : a ≤ 2 ^ 32 - 1 = omega arith in
    let b' : b ≤ 2 ^ 32 - 1 = omega arith in
    omega (arith, mul-le-mul a' b')
