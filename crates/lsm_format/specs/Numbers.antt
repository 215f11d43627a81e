-- Numbers at an offset of the file (lsm_bytes.rs; TIFF 6.0, section 2).
use Rattle.std.specs.Prelude.{ℕ, zero, suc, ◌+◌, ◌*◌, ◌^◌, true, false, List, [], ◌∷◌, reverse, leb, ltb, ℤ, pos, negsuc, ◌-ℤ◌, length, take, drop, Option, None, Some}
use Rattle.lsm_format.specs.Answer.{Result, accepted, bind, need, parse}
use Rattle.lsm_format.specs.Ranges.{Ranges, in_file}

-- TIFF 6.0, section 2, "Image File Header", bytes 0-1: the byte order within the file, "II" or "MM".
pub data Order : Type 0 where
  little big : Order

-- "In the 'II' format, byte order is always from the least significant byte to the most significant byte."
abbrev pub little_value : List ℕ → ℕ
little_value [] = 0
little_value (b ∷ bs) = b + 256 * little_value bs

-- "In the 'MM' format, byte order is always from most significant to least significant."
abbrev pub value_of : Order → List ℕ → ℕ
value_of little bs = little_value bs
value_of big bs = little_value (reverse bs)

-- The count bytes at an offset. "A read past the end is Parse, also where offset plus size overflows": the sum is exact,
-- and no file is 2 ^ 64 bytes long.
unfoldable pub part_at : List ℕ → ℕ → ℕ → Result (List ℕ)
part_at f at count = bind (need parse (leb (at + count) (length f))) (λ _. accepted (take count (drop at f)))

-- The unsigned number of `count` bytes at an offset.
unfoldable pub number_at : ℕ → Order → List ℕ → ℕ → Result ℕ
number_at count o f at = bind (part_at f at count) (λ bs. accepted (value_of o bs))

-- What it reads.
abbrev pub number_ranges : ℕ → List ℕ → ℕ → Ranges
number_ranges count f at = in_file f at count

-- TIFF 6.0, section 2, "Types": BYTE, SHORT and LONG; a byte has no order.
abbrev pub u8_at : List ℕ → ℕ → Result ℕ
u8_at f at = number_at 1 little f at

abbrev pub u16_at : Order → List ℕ → ℕ → Result ℕ
u16_at o f at = number_at 2 o f at

abbrev pub u32_at : Order → List ℕ → ℕ → Result ℕ
u32_at o f at = number_at 4 o f at

-- The 64 bits of a DOUBLE, as the number that they make: "Double precision (8-byte) IEEE format".
abbrev pub f64_bits_at : Order → List ℕ → ℕ → Result ℕ
f64_bits_at o f at = number_at 8 o f at

-- "SLONG: A 32-bit (4-byte) signed (twos-complement) integer": from 2 ^ 31 on, what is meant is 2 ^ 32 less.
unfoldable pub signed32 : ℕ → ℤ
signed32 n = elim (ltb n (2 ^ 31)) [ true ↦ pos n | false ↦ pos n -ℤ pos (2 ^ 32) ]

unfoldable pub i32_at : Order → List ℕ → ℕ → Result ℤ
i32_at o f at = bind (u32_at o f at) (λ n. accepted (signed32 n))

-- A signed number that states a place or a length: one that is not above 0 states none.
abbrev pub positive_of : ℤ → Option ℕ
positive_of (pos zero) = None
positive_of (pos (suc n)) = Some (suc n)
positive_of (negsuc n) = None
