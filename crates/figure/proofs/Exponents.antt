-- Laws of a power of ten as text: it is the library's decimal. Assumes nothing.
use Prim.Native.Nat.{ℕ, suc, ◌/◌, ◌≤◌, ◌<◌}
use mathlib.Core.Path.{◌≡◌, refl, ap, ◌∙◌}
use mathlib.Core.Logic.{inl, inr}
use mathlib.Core.List.{List, ◌∷◌, append_assoc}
use native.Mathlib.Omega.{arith}
use borrow.Author.Tests.{le-leb, lt-leb}
use lib.IntN.{ℤ, pos, negsuc, ◌-ℤ◌}
use lib.ListN.{length}
use Rattle.std.specs.Fmt.{decimal, signed_decimal}
use Rattle.std.proofs.lemmas.Fmt.{decimal_digit, decimal_step, length-decimal-le}
use Rattle.std.proofs.lemmas.Bool.{cases_lt}
use Rattle.std.proofs.lemmas.Int.{ints}
use mir.Syntax.{w32}
use mir.Val.{to_z, of_z}
use Rattle.lsm_format.specs.Calibration.{two_digits, exponent_text}

-- two digits, or one where the first is zero
two_same : (n : ℕ) → n < 100 → decimal n ≡ two_digits n
two_same n h =
    elim (cases_lt n 10) [
      | inl below ↦ rw (two_digits, lt-leb 10 n below) (decimal_digit n below)
      | inr above ↦
          let b : n / 10 < 10 = omega arith in
          rw (two_digits, le-leb 10 n above, decimal_step n above (omega arith), decimal_digit (n / 10) b) refl
    ]

between : (z : ℤ) (a b : ℕ) → z ≡ pos a -ℤ pos b → a < 100 → b < 100 → (signed_decimal z ≡ exponent_text z) × (length (exponent_text z) ≤ 3)
between (pos n) a b e h k =
    let l : n < 100 = omega (arith, ints) in
    let e = two_same n l in
    (e, rw (← e) (omega (arith, length-decimal-le 2 n (omega arith) l (omega arith))))
between (negsuc n) a b e h k =
    let l : suc n < 100 = omega (arith, ints) in
    let e = two_same (suc n) l in
    (ap (λ (ds : List ℕ). 45 ∷ ds) e, rw (← e) (omega (arith, length-decimal-le 2 (suc n) (omega arith) l (omega arith))))

-- the difference of two counts, as the code reckons it
difference : (a b : ℕ) → a < 100 → b < 100 → to_z w32 (of_z w32 (to_z w32 a -ℤ to_z w32 b)) ≡ pos a -ℤ pos b
difference a b h k = omega (arith, ints)

pub exponent_same : (a b : ℕ) → a < 100 → b < 100 → signed_decimal (to_z w32 (of_z w32 (to_z w32 a -ℤ to_z w32 b))) ≡ exponent_text (pos a -ℤ pos b)
exponent_same a b h k = ap signed_decimal (difference a b h k) ∙ (between (pos a -ℤ pos b) a b refl h k).0

pub exponent_long : (a b : ℕ) → a < 100 → b < 100 → length (exponent_text (pos a -ℤ pos b)) ≤ 3
exponent_long a b h k = (between (pos a -ℤ pos b) a b refl h k).1

pub ruleset exponent = (exponent_same, exponent_long, append_assoc)
