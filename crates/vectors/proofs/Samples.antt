-- What the definitions make of a line: `c 1f 2:*0341ab` and its line feed. Assumes nothing.
use Prim.Native.Nat.{ℕ}
use mathlib.Core.Path.{◌≡◌, refl}
use mathlib.Core.List.{List, [], ◌∷◌}
use Rattle.std.specs.Prelude.{Option, Some, None}
use Rattle.vectors.specs.Numbers.{digit_of, with_digit, digits, number, behind, spaced, numbers}
use Rattle.vectors.specs.Lines.{pair, run, runs, bytes, tail, said, Read, line}

bytes_part : List ℕ
bytes_part = 58 ∷ 42 ∷ 48 ∷ 51 ∷ 52 ∷ 49 ∷ 97 ∷ 98 ∷ 10 ∷ []

numbers_part : ℕ → List ℕ
numbers_part space = space ∷ 49 ∷ 102 ∷ 32 ∷ 50 ∷ bytes_part

is_read : Option Read × List ℕ
is_read = (Some (record { letter = 99; says = Some (record { numbers = 31 ∷ 2 ∷ []; bytes = 65 ∷ 65 ∷ 65 ∷ 171 ∷ [] }) }), [])

ends_the_list : Option Read × List ℕ
ends_the_list = (Some (record { letter = 99; says = None }), [])

-- the numbers; the bytes; the line, and the same with room for no more than it has; with room for three bytes the line feed isn't reached, with
-- room for one number the colon isn't, and with a comma for the first space neither
sample : (numbers 20 (numbers_part 32) ≡ (31 ∷ 2 ∷ [], bytes_part))
    × (tail 9 bytes_part ≡ (65 ∷ 65 ∷ 65 ∷ 171 ∷ [], 10 ∷ []))
    × (line 20 9 (99 ∷ numbers_part 32) ≡ is_read)
    × (line 2 4 (99 ∷ numbers_part 32) ≡ is_read)
    × (line 20 3 (99 ∷ numbers_part 32) ≡ ends_the_list)
    × (line 1 9 (99 ∷ numbers_part 32) ≡ ends_the_list)
    × (line 20 9 (99 ∷ numbers_part 44) ≡ ends_the_list)
unfolding bytes_part numbers_part is_read ends_the_list digit_of with_digit digits number behind spaced numbers pair run runs bytes tail said line
sample = (refl, refl, refl, refl, refl, refl, refl)
