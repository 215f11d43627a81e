-- Wide numbers as limbs of 32 bits, the lowest first, and what the steps on them give.
use Rattle.std.specs.Prelude.{ℕ, ◌+◌, ◌*◌, ◌/◌, ◌%◌, ◌^◌, ◌≤◌, ◌<◌, ◌≡◌, List, [], ◌∷◌}
use Rattle.lsm_format.specs.Calibration.{tens_above, tens_below, figure_by}

-- The number that limbs stand for: the sum of limb i times 2 ^ (32 * i).
unfoldable pub value : List ℕ → ℕ
value [] = 0
value (x ∷ xs) = x + 2 ^ 32 * value xs

-- What nine limbs hold is below this.
unfoldable pub room : ℕ
room = 2 ^ 288

-- n with `count` tens multiplied in, where the definition asks for `wanted` of at most `left`.
pub record Scaled (wanted n left r count : ℕ) : Type 0 where
  pub right : count ≡ wanted
  pub few : count ≤ left
  pub scaled : r ≡ n * 10 ^ count

-- The hundredfold of num by den: three digits and a rest.
pub record Quotient (num den q rest : ℕ) : Type 0 where
  pub digits : q ≡ 100 * num / den
  pub left : rest ≡ 100 * num % den
  pub most : q < 1000

-- Three digits, or 1000 where they round up.
pub record Hundreds (wanted q : ℕ) : Type 0 where
  pub right : q ≡ wanted
  pub most : q ≤ 1000

-- A fraction that 64 powers of ten bring to 1, with room for ten times either number.
pub record Near (num den : ℕ) : Type 0 where
  pub num_room : 10 * num < room
  pub den_room : 10 * den < room
  pub below_tens : num < den * 10 ^ 64
  pub above_tens : den ≤ num * 10 ^ 64

-- The figure of a fraction above 0.
abbrev pub figure_of : ℕ → ℕ → List ℕ
figure_of num den = figure_by (tens_above 64 num den) (tens_below 64 num den) num den
