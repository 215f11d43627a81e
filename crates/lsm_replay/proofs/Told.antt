-- Laws of what a line says. Assumes nothing.
use Rattle.std.proofs.Common.{ℕ, zero, suc, ◌+◌, ◌-◌, ◌*◌, ◌≤◌, ◌≡◌, List, [], ◌∷◌, ◌++◌, length, take, drop, replicate, reverse, refl, ap, ◌∙◌, arith}
use Rattle.std.proofs.lemmas.List.{reverse-append, append-nil, length-append, length-drop, length-replicate, take-replicate}
use Rattle.std.proofs.Math.ListN.{drop_of_length-le}
use Rattle.std.specs.Int.{w64, from_be_bytes}
use Rattle.lsm_format.specs.Code.{row_of}
use Rattle.lsm_format.specs.Numbers.{big, value_of, little_value}
use Rattle.lsm_format.specs.declared.error.Refusal.{Refusal}
use Rattle.lsm_format.specs.declared.error.Refusal.TheVariants.{Parse, Decode, Unsupported, OversizedAllocation, SceneOutOfRange, OutOfRange, TooShort, UnevenBits, NegativeValue}
use Rattle.lsm_bytes.proofs.Bytes.{be_64}
use Rattle.lsm_replay.specs.Told.{letters_told}

-- ---- the bytes of one number

-- a 0 more at the end is worth nothing
nothing_more : (bs : List ℕ) → little_value (bs ++ (0 ∷ [])) ≡ little_value bs
nothing_more [] = refl
nothing_more (b ∷ bs) = ap (λ n. b + 256 * n) (nothing_more bs)

abbrev zeros : ℕ → List ℕ
zeros n = replicate n 0

-- zeros in front leave the number as it is
zeros_first : (k : ℕ) (bs : List ℕ) → value_of big (zeros k ++ bs) ≡ value_of big bs
zeros_first zero bs = refl
zeros_first (suc k) bs = ap little_value (reverse-append (0 ∷ []) (zeros k ++ bs)) ∙ nothing_more (reverse (zeros k ++ bs)) ∙ zeros_first k bs

-- bytes copied over the last n of so many zeros
copied_over : (room n : ℕ) (bs : List ℕ)
    → take (room - n) (zeros room) ++ (bs ++ drop (room - (room - n)) (drop (room - n) (zeros room))) ≡ zeros (room - n) ++ bs
copied_over room n bs =
    let short : length (drop (room - n) (zeros room)) ≤ room - (room - n) = omega (arith, length-drop (room - n) (zeros room), length-replicate {A = ℕ} room 0) in
    let some : room - n ≤ room = omega arith in
    rw (take-replicate {X = ℕ} (room - n) room 0 some, drop_of_length-le (drop (room - n) (zeros room)) short, append-nil bs) refl

-- letters copied over the last of eight zeros
pub letters_number : {r n : ℕ} (letters copied : List ℕ) → n ≡ length letters → copied ≡ letters → n ≤ 8
    → r ≡ from_be_bytes w64 (take (8 - n) (zeros 8) ++ (copied ++ drop (8 - (8 - n)) (drop (8 - n) (zeros 8)))) → r ≡ letters_told letters
letters_number {r} {n} letters copied is same fits e =
    let eight : length (zeros (8 - n) ++ letters) ≡ 8 = omega (arith, length-append (zeros (8 - n)) letters, length-replicate {A = ℕ} (8 - n) 0) in
    (rw same at e) ∙ ap (λ (bs : List ℕ). from_be_bytes w64 bs) (copied_over 8 n letters) ∙ be_64 _ eight ∙ zeros_first (8 - n) letters

-- ---- the numbers of an answer

-- a refusal has a number at least
pub some_row : (r : Refusal) → 1 ≤ length (row_of r)
some_row Parse = omega arith
some_row Decode = omega arith
some_row Unsupported = omega arith
some_row (OversizedAllocation requested cap) = omega arith
some_row (SceneOutOfRange scene count) = omega arith
some_row (OutOfRange scene t c z) = omega arith
some_row (TooShort needed) = omega arith
some_row UnevenBits = omega arith
some_row NegativeValue = omega arith
