-- Laws of the text that bytes decode to, piece by piece. Assumes nothing.
use Prim.Native.Nat.{ℕ, zero, suc, ◌+◌, ◌-◌, ◌≤◌}
use native.Mathlib.Nat.{not-suc-le-zero}
use native.Mathlib.Numerals.{add-one}
use native.Mathlib.Omega.{arith}
use mathlib.Core.Path.{◌≡◌, refl, sym, ap, ◌∙◌}
use mathlib.Core.List.{List, [], ◌∷◌, ◌++◌, append_assoc, append-nil}
use borrow.Rule.Slice.PartMut.{put_mid}
use lib.ListN.{length, take, drop, length-drop, length-append}
use Rattle.std.proofs.lemmas.Slice.{take-put_mid}
use lib.Seq.{take_all}
use Rattle.lsm_format.specs.Utf8.{piece, after, replacement, decoded, lossy_by, lossy, sequence, subpart}

-- as much fuel as bytes, or more, makes no difference
fuel : (n m : ℕ) (bs : List ℕ) → length bs ≤ n → length bs ≤ m → lossy_by n bs ≡ lossy_by m bs
unfolding lossy_by
fuel zero zero bs p q = refl
fuel zero (suc m) [] p q = refl
fuel zero (suc m) (b ∷ bs) p q = absurd (not-suc-le-zero p)
fuel (suc n) zero [] p q = refl
fuel (suc n) zero (b ∷ bs) p q = absurd (not-suc-le-zero q)
fuel (suc n) (suc m) [] p q = refl
fuel (suc n) (suc m) (b ∷ bs) p q =
    ap (λ (rest : List ℕ). decoded (piece b bs) b bs ++ rest)
    (fuel n m (drop (after (piece b bs)) bs) (rw length-drop (omega arith)) (rw length-drop (omega arith)))

-- the text is that of the first piece, then the text of the bytes after it
pub lossy_cons : (b : ℕ) (bs : List ℕ) → lossy (b ∷ bs) ≡ decoded (piece b bs) b bs ++ lossy (drop (after (piece b bs)) bs)
unfolding lossy lossy_by
lossy_cons b bs =
    ap (λ (rest : List ℕ). decoded (piece b bs) b bs ++ rest)
    (fuel (length bs) (length (drop (after (piece b bs)) bs)) (drop (after (piece b bs)) bs) (rw length-drop (omega arith)) (omega arith))

-- the same where the first piece is a well-formed sequence, and where it is a part of one
pub lossy_sequence : (b : ℕ) (bs : List ℕ) (n : ℕ) → sequence n ≡ piece b bs → lossy (b ∷ bs) ≡ take (n + 1) (b ∷ bs) ++ lossy (drop (n + 1) (b ∷ bs))
lossy_sequence b bs n e = rw (add-one, lossy_cons, ← e)

pub lossy_subpart : (b : ℕ) (bs : List ℕ) (n : ℕ) → subpart n ≡ piece b bs → lossy (b ∷ bs) ≡ replacement ++ lossy (take (length bs - n) (drop n bs))
lossy_subpart b bs n e = rw (take_all (length bs - n) (drop n bs) (rw length-drop (omega arith)), lossy_cons, ← e)

-- of no bytes there is no text
pub lossy_empty : (bs : List ℕ) → length bs ≡ 0 → lossy bs ≡ []
unfolding lossy lossy_by
lossy_empty [] h = refl
lossy_empty (b ∷ bs) h = absurd (omega arith)

-- ---- writing: what was written, then the text of the bytes that are left, is the text

pub joined_length : (xs ys : List ℕ) → length (xs ++ ys) ≡ length xs + length ys
joined_length xs ys = length-append xs ys

-- the text of one more piece is written behind the first n bytes
pub write_turn : (n : ℕ) (out ys text left all : List ℕ) → n ≤ length out → ys ≡ text → take n out ++ (text ++ left) ≡ all
    → take (n + length text) (put_mid n (n + length text - n) out ys) ++ left ≡ all
write_turn n out ys text left all h e so_far =
    rw (take-put_mid n (n + length text - n) out ys (n + length text) (ap (λ (zs : List ℕ). n + length zs) (sym e)) h, e, append_assoc) so_far

-- nothing is left
pub write_done : (n : ℕ) (out : List ℕ) → length out ≤ n → take n out ++ [] ≡ out
write_done n out h = append-nil (take n out) ∙ take_all n out h
