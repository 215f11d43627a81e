-- Laws of a size's text. Assumes nothing.
use Rattle.std.proofs.Common.{◌≡◌, ℕ, suc, ◌/◌, ◌%◌, ◌^◌, [], ◌++◌, refl, arith, true, false, w32, append_assoc, append-nil}
use Rattle.std.specs.Int.{to_be_bytes}
use Rattle.std.specs.Float.{nan, inf, fin, binary32}
use Rattle.std.specs.Float.Ieee.{to_bits}
use Rattle.std.specs.Prelude.{Float}
use lib.Ieee.{is_nan}
use Rattle.lsm_format.specs.Printout.{dash, size_text, hex_digits, hex_bytes}

-- a number's last two hex digits are those of its last byte
last_byte : (k n : ℕ) → hex_digits (suc (suc k)) n ≡ hex_digits k (n / 256) ++ hex_digits 2 (n % 256)
unfolding hex_digits
last_byte k n =
    let a : n / 16 / 16 ≡ n / 256 = omega arith in
    let b : n % 256 / 16 % 16 ≡ n / 16 % 16 = omega arith in
    let c : n % 256 % 16 ≡ n % 16 = omega arith in
    rw (a, b, c, append_assoc) refl

no_digit : (n : ℕ) → hex_digits 0 n ≡ []
unfolding hex_digits
no_digit n = refl

-- a number's four bytes in hex are its last eight digits
pub hex_word : (n : ℕ) → hex_bytes (to_be_bytes w32 n) ≡ hex_digits 8 n
unfolding hex_bytes
hex_word n =
    let a : n / 256 / 256 ≡ n / 256 ^ 2 = omega arith in
    let b : n / 256 ^ 2 / 256 ≡ n / 256 ^ 3 = omega arith in
    rw (last_byte 6 n, last_byte 4 (n / 256), a, last_byte 2 (n / 256 ^ 2), b, last_byte 0 (n / 256 ^ 3), no_digit (n / 256 ^ 3 / 256)) (simp (append_assoc, append-nil))

pub size_nan : (z : Float) → is_nan z ≡ true → size_text z ≡ dash
unfolding size_text is_nan
size_nan nan h = refl
size_nan (inf s) h = cc
size_nan (fin s m e) h = cc

pub size_number : (z : Float) → is_nan z ≡ false → size_text z ≡ hex_digits 8 (to_bits binary32 z)
unfolding size_text is_nan
size_number nan h = cc
size_number (inf s) h = refl
size_number (fin s m e) h = refl

pub ruleset size = (hex_word, size_nan, size_number)
