-- How long the parts of a printout are: numbers, hex, figures, lines. Assumes nothing.
use Prim.Native.Nat.{ℕ, zero, suc, ◌+◌, ◌*◌, ◌/◌, ◌%◌, ◌^◌, ◌≤◌, ◌<◌}
use native.Mathlib.Omega.{arith}
use mathlib.Core.Bool.{Bool, true, false}
use mathlib.Core.Path.{◌≡◌, refl}
use mathlib.Core.List.{List, [], ◌∷◌, ◌++◌}
use lib.Dec.{ltb, leb, eqb}
use lib.IntN.{ℤ, pos, negsuc, suc_ℤ, ◌-ℤ◌}
use lib.Ieee.{Float, nan, inf, fin, up, down}
use lib.ListN.{length, length-append}
use borrow.Author.Tests.{ltb-false}
use Rattle.lsm_format.specs.Sizes.{Kind, u8, u16, i16, f32}
use Rattle.lsm_format.specs.Calibration.{Calibration, uncalibrated, sized, ZStep, used, absent, placeholder, too_large, digit, mantissa, two_digits, exponent_text, hundredfold, figure_text, figure_by, figure, tens_above, tens_below}
use Rattle.lsm_format.specs.Printout.{decimal_by, decimal, hex_digits, hex_bytes, kind_line, size_text, step_text, pixel_line, note_lines, each, text}

-- ---- numbers

-- one question of the definition, by its test
step : (t : Bool) (n k : ℕ) (before : List ℕ) → (t ≡ false → length before ≤ k) →
    length {A = ℕ} (elim t [ true ↦ digit n ∷ [] | false ↦ before ++ digit (n % 10) ∷ [] ]) ≤ suc k
step true n k before h = omega arith
step false n k before h = rw length-append (omega (arith, h refl))

-- a number below a power of ten has at most as many digits
digits : (j k n : ℕ) → n < 10 ^ suc k → length (decimal_by j n) ≤ suc k
unfolding decimal_by
digits zero k n h = omega arith
digits (suc j) zero n h = step (ltb n 10) n 0 (decimal_by j (n / 10)) (λ e. absurd (omega (arith, ltb-false n 10 e)))
digits (suc j) (suc k) n h = step (ltb n 10) n (suc k) (decimal_by j (n / 10)) (λ e. digits j k (n / 10) (omega arith))

pub decimal_length : (n : ℕ) → n < 2 ^ 64 → length (decimal n) ≤ 20
unfolding decimal
decimal_length n h = digits (suc n) 19 n (omega arith)

pub hex_length : (k n : ℕ) → length (hex_digits k n) ≡ k
unfolding hex_digits
hex_length zero n = refl
hex_length (suc k) n = rw (length-append, hex_length k (n / 16)) (omega arith)

pub bytes_length : (bs : List ℕ) → length (hex_bytes bs) ≡ 2 * length bs
unfolding hex_bytes
bytes_length [] = refl
bytes_length (b ∷ bs) = rw (length-append, hex_length, bytes_length bs) (omega arith)

-- ---- a figure

-- the longer of two
either : (t : Bool) {k : ℕ} (x y : List ℕ) → length x ≤ k → length y ≤ k → length {A = ℕ} (elim t [ true ↦ x | false ↦ y ]) ≤ k
either true x y h i = h
either false x y h i = i

mantissa_length : (q : ℕ) → length (mantissa q) ≤ 4
mantissa_length q = either (eqb (q % 100) 0) _ _ (omega arith) (either (eqb (q % 10) 0) _ _ (omega arith) (omega arith))

two_length : (n : ℕ) → length (two_digits n) ≤ 2
two_length n = either (leb 10 n) _ _ (omega arith) (omega arith)

exponent_length : (p : ℤ) → length (exponent_text p) ≤ 3
exponent_length (pos n) = omega (arith, two_length n)
exponent_length (negsuc n) = omega (arith, two_length (suc n))

parts_length : (q : ℕ) (p : ℤ) → length (mantissa q ++ 101 ∷ exponent_text p) ≤ 8
parts_length q p = rw length-append (omega (arith, mantissa_length q, exponent_length p))

text_length : (q : ℕ) (p : ℤ) → length (figure_text q p) ≤ 8
text_length q p = either (eqb q 1000) _ _ (parts_length 100 (suc_ℤ p)) (parts_length q p)

by_length : (above below num den : ℕ) → length (figure_by above below num den) ≤ 8
by_length above below num den = text_length (hundredfold (num * 10 ^ below) (den * 10 ^ above)) (pos above -ℤ pos below)

pub figure_length : (z : Float) → length (figure z) ≤ 8
unfolding figure
figure_length nan = omega arith
figure_length (inf s) = omega arith
figure_length (fin true m e) = omega arith
figure_length (fin false zero e) = omega arith
figure_length (fin false (suc m) e) =
    by_length (tens_above 64 (suc m * up e) (down e)) (tens_below 64 (suc m * up e) (down e)) (suc m * up e) (down e)

-- ---- lines

size_length : (z : Float) → length (size_text z) ≤ 8
unfolding size_text
size_length nan = omega arith
size_length (inf s) = rw hex_length (omega arith)
size_length (fin s m e) = rw hex_length (omega arith)

step_length : (z : ZStep) → length (step_text z) ≤ 8
step_length (used z) = size_length z
step_length absent = omega arith
step_length (placeholder z) = omega arith
step_length (too_large z) = omega arith

pub pixel_length : (k : Calibration) → length (pixel_line k) ≤ 32
unfolding pixel_line
pixel_length uncalibrated = omega arith
pixel_length (sized x y z) = simp length-append (omega (arith, size_length x, size_length y, step_length z))

pub kind_length : (k : Kind) → length (kind_line k) ≤ 25
unfolding kind_line
kind_length u8 = omega (arith, decimal_length 0 (omega arith))
kind_length u16 = omega (arith, decimal_length 1 (omega arith))
kind_length i16 = omega (arith, decimal_length 2 (omega arith))
kind_length f32 = omega (arith, decimal_length 3 (omega arith))

-- ---- lines with their ends

pub text_append : (xs ys : List (List ℕ)) → length (text (xs ++ ys)) ≡ length (text xs) + length (text ys)
unfolding text
text_append [] ys = omega arith
text_append (x ∷ xs) ys = simp (length-append, text_append xs ys) (omega arith)

pub line_length : (l : List ℕ) → length (text (l ∷ [])) ≡ suc (length l)
unfolding text
line_length l = simp length-append (omega arith)

pub notes_length : (k : Calibration) → length (text (note_lines k)) ≤ 29
unfolding note_lines text
notes_length uncalibrated = omega arith
notes_length (sized x y (used z)) = omega arith
notes_length (sized x y absent) = omega arith
notes_length (sized x y (placeholder z)) = simp length-append (omega (arith, figure_length z))
notes_length (sized x y (too_large z)) = simp length-append (omega (arith, figure_length z))

-- ---- a line for each number

-- the sum of what each number below a count has
unfoldable pub sums : ℕ → (ℕ → ℕ) → ℕ
sums zero h = 0
sums (suc n) h = sums n h + h n

pub sums_front : (n : ℕ) (h : ℕ → ℕ) → sums (suc n) h ≡ h 0 + sums n (λ i. h (suc i))
unfolding sums
sums_front zero h = omega arith
sums_front (suc n) h = omega (arith, sums_front n h)

pub sums_none : (n : ℕ) → sums n (λ i. 0) ≡ 0
unfolding sums
sums_none zero = refl
sums_none (suc n) = omega (arith, sums_none n)

-- lines of which each has fewer bytes than a, and b for each that its number has
pub each_length : (n a b : ℕ) (line : ℕ → List ℕ) (h : ℕ → ℕ) → ((i : ℕ) → i < n → length (line i) < a + b * h i) →
    length (text (each n line)) ≤ a * n + b * sums n h
unfolding each text sums
each_length zero a b line h short = omega arith
each_length (suc n) a b line h short =
    rw (text_append, line_length) (omega (arith, each_length n a b line h (λ i l. short i (omega arith)), short n (omega arith)))
