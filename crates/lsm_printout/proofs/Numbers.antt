-- Laws of numbers as text. Assumes nothing.
use Rattle.std.proofs.Common.{◌==◌, Bool, true, ◌&&◌, inl, inr, slice_index, ◌≡◌, ℕ, zero, suc, ◌+◌, ◌/◌, ◌%◌, ◌<◌, ◌^◌, List, [], ◌∷◌, ◌++◌, length, take, get_or, refl, sym, arith, append_assoc}
use Rattle.std.proofs.lemmas.Grind.{common_steps}
use Rattle.std.proofs.lemmas.Fmt.{AppendsLastDigit, decimal_from_appends, length-decimal-le_succ}
use Rattle.std.specs.Fmt as Std
use Rattle.lsm_format.specs.Printout.{decimal_by, decimal, spaced, hex_digit, hex_digits, hex_bytes, numbers_text}
use Rattle.lsm_printout.proofs.Puts.{after, put_nothing}
use Rattle.std.proofs.lemmas.Bool.{and_parts, cases_lt, eqb-true}
use Rattle.hex.specs.Hex.{encode_lower, encode_with, lower_digits}

-- ---- decimal

last_digit : AppendsLastDigit decimal_by
unfolding decimal_by
last_digit = record {
  one = λ k n h. grind (arith, common_steps);
  more = λ k n h. grind (arith, common_steps);
}

pub decimal_same : (n : ℕ) → n < 2 ^ 64 → Std.decimal n ≡ decimal n
unfolding decimal
decimal_same n h = sym (decimal_from_appends decimal_by last_digit (suc n) n h (omega (arith, length-decimal-le_succ n h)))

-- ---- hex

-- the digits below n are those of the library's table
abbrev same_digits : ℕ → Bool
same_digits zero = true
same_digits (suc n) = (slice_index lower_digits n == hex_digit n) && same_digits n

same_digit : (n d : ℕ) → same_digits n ≡ true → d < n → slice_index lower_digits d ≡ hex_digit d
same_digit zero d t h = absurd (omega arith)
same_digit (suc n) d t h =
    let parts = and_parts (slice_index lower_digits n == hex_digit n) (same_digits n) t in
    elim (cases_lt d n) [
      | inl below ↦ same_digit n d parts.1 below
      | inr top ↦ let e : d ≡ n = omega arith in rw e (eqb-true _ _ parts.0)
    ]

-- a byte's two digits are the library's
pub hex_byte : (b : ℕ) → b < 256 → encode_lower (b ∷ []) ≡ hex_digits 2 b
unfolding hex_digits encode_with
hex_byte b h =
    let high : b / 16 % 16 ≡ b / 16 = omega arith in
    rw (same_digit 16 (b / 16) refl (omega arith), same_digit 16 (b % 16) refl (omega arith), high) refl

-- ---- up to a place

numbers_append : (t u : List ℕ) → numbers_text (t ++ u) ≡ numbers_text t ++ numbers_text u
unfolding numbers_text
numbers_append [] u = refl
numbers_append (n ∷ t) u = simp (numbers_append t u, append_assoc)

pub numbers_next : (l : List ℕ) (i : ℕ) → i < length l → numbers_text (take (i + 1) l) ≡ numbers_text (take i l) ++ spaced (get_or l i 0)
unfolding numbers_text
numbers_next l i h = grind (arith, common_steps, numbers_append)

hex_append : (t u : List ℕ) → hex_bytes (t ++ u) ≡ hex_bytes t ++ hex_bytes u
unfolding hex_bytes
hex_append [] u = refl
hex_append (b ∷ t) u = simp (hex_append t u, append_assoc)

pub hex_next : (l : List ℕ) (i : ℕ) → i < length l → hex_bytes (take (i + 1) l) ≡ hex_bytes (take i l) ++ hex_digits 2 (get_or l i 0)
unfolding hex_bytes
hex_next l i h = grind (arith, common_steps, hex_append)

pub ruleset numbers_written = (after, put_nothing, numbers_next)

pub ruleset hex_written = (after, put_nothing, hex_next, hex_byte)
