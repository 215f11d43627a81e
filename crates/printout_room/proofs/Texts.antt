-- How long a name's text is: a byte becomes at most three. Assumes nothing.
use Prim.Native.Nat.{ℕ, zero, suc, ◌+◌, ◌*◌, ◌≤◌}
use native.Mathlib.Omega.{arith}
use mathlib.Core.List.{List, [], ◌∷◌}
use lib.ListN.{length, take, drop, length-append, length-take, length-drop}
use Rattle.lsm_format.specs.Utf8.{Piece, sequence, subpart, piece, after, decoded, lossy_by, lossy}
use Rattle.lsm_format.specs.Channels.{unless_trailing, trimmed}

-- a piece gives at most three bytes for each that it takes
decoded_length : (p : Piece) (b : ℕ) (bs : List ℕ) → length (decoded p b bs) + 3 * length (drop (after p) bs) ≤ 3 * suc (length bs)
decoded_length (sequence n) b bs = omega (arith, length-take n bs, length-drop n bs)
decoded_length (subpart n) b bs = omega (arith, length-drop n bs)

lossy_by_lem : (n : ℕ) (bs : List ℕ) → length (lossy_by n bs) ≤ 3 * length bs
unfolding lossy_by
lossy_by_lem zero bs = omega arith
lossy_by_lem (suc n) [] = omega arith
lossy_by_lem (suc n) (b ∷ bs) =
    rw length-append (omega (arith, decoded_length (piece b bs) b bs, lossy_by_lem n (drop (after (piece b bs)) bs)))

lossy_length : (bs : List ℕ) → length (lossy bs) ≤ 3 * length bs
unfolding lossy
lossy_length bs = lossy_by_lem (length bs) bs

unless_trailing_length : (b : ℕ) (bs : List ℕ) → length (unless_trailing b bs) ≤ suc (length bs)
unless_trailing_length zero [] = omega arith
unless_trailing_length zero (c ∷ bs) = omega arith
unless_trailing_length (suc b) bs = omega arith

trimmed_length : (bs : List ℕ) → length (trimmed bs) ≤ length bs
trimmed_length [] = omega arith
trimmed_length (b ∷ bs) = omega (arith, unless_trailing_length b (trimmed bs), trimmed_length bs)

-- the text of n bytes
pub text_length : (bs : List ℕ) (n : ℕ) → length (lossy (trimmed (take n bs))) ≤ 3 * n
text_length bs n = omega (arith, lossy_length (trimmed (take n bs)), trimmed_length (take n bs), length-take n bs)
