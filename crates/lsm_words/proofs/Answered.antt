-- A refusal's row has five words at most, so zeros up to an answer's length are zeros up to five and then the rest. Assumes nothing.
use Prim.Native.Nat.{ℕ, ◌+◌, ◌-◌, ◌<◌, ◌≤◌}
use native.Mathlib.Omega.{arith}
use mathlib.Core.Path.{◌≡◌, sym, ap, ◌∙◌}
use mathlib.Core.List.{List, ◌++◌, append_assoc}
use lib.ListN.{length, take, drop, replicate, set, get_or, get_or-append, get_or-eq_default, length-append, length-replicate}
use lib.Seq.{get_or-append_right}
use Rattle.std.proofs.Math.Logic.{⊎_elim}
use Rattle.std.proofs.lemmas.Bool.{cases_lt}
use Rattle.std.proofs.lemmas.List.{drop-replicate, replicate-append-replicate, get_or-replicate}
use Rattle.lsm_format.proofs.Lists.{take_store, take_full}
use Rattle.lsm_format.specs.Code.{row_of}
use Rattle.lsm_format.specs.declared.error.Refusal.{Refusal}
use Rattle.lsm_format.specs.declared.error.Refusal.TheVariants.{Parse, Decode, Unsupported, OversizedAllocation, SceneOutOfRange, OutOfRange, TooShort, UnevenBits, NegativeValue}
use Rattle.lsm_words.specs.Answers.{padded}

pub row_short : (r : Refusal) → length (row_of r) ≤ 5
row_short Parse = omega arith
row_short Decode = omega arith
row_short Unsupported = omega arith
row_short (OversizedAllocation requested cap) = omega arith
row_short (SceneOutOfRange scene count) = omega arith
row_short (OutOfRange scene t c z) = omega arith
row_short (TooShort needed) = omega arith
row_short UnevenBits = omega arith
row_short NegativeValue = omega arith

-- the row, and the zeros that fill it up to n words
filled : (n : ℕ) (row : List ℕ) → 5 ≤ n → length row ≤ 5 → row ++ replicate (n - length row) 0 ≡ padded n row
filled n row h s =
    let e : n - length row ≡ (5 - length row) + (n - 5) = omega arith in
    rw (e, ← replicate-append-replicate) (sym (append_assoc row _ _))

pub padded_row : (n k : ℕ) (r : Refusal) (row copied : List ℕ) → 5 ≤ n → row ≡ row_of r → copied ≡ row → k ≡ length row
    → copied ++ drop k (replicate n 0) ≡ padded n (row_of r)
padded_row n k r row copied h is same all = rw (all, same, is, drop-replicate) (filled n (row_of r) h (row_short r))

-- ---- word by word

filled_length : (n : ℕ) (row : List ℕ) → length row ≤ n → length (row ++ replicate (n - length row) 0) ≡ n
filled_length n row s = rw (length-append, length-replicate) (omega arith)

-- word i of them is number i of the row, or 0 past it
filled_word : (n i : ℕ) (row : List ℕ) → i < n → get_or (row ++ replicate (n - length row) 0) i 0 ≡ get_or row i 0
filled_word n i row h =
    ⊎_elim (λ l. get_or-append row (replicate (n - length row) 0) 0 i l)
    (λ g. get_or-append_right row (replicate (n - length row) 0) i 0 g ∙ get_or-replicate (n - length row) (i - length row) 0 0 (omega arith)
    ∙ sym (get_or-eq_default row 0 g))
    (cases_lt i (length row))

-- one word more of a refusal's answer, and all of them
pub padded_word : (n i word : ℕ) (r : Refusal) (row words : List ℕ) → 5 ≤ n → row ≡ row_of r → word ≡ get_or row i 0 → i < n → length words ≡ n
    → take i words ≡ take i (padded n (row_of r)) → take (i + 1) (set words i word) ≡ take (i + 1) (padded n (row_of r))
padded_word n i word r row words h is there less all so_far =
    let s = row_short r in
    let e = filled n (row_of r) h s in
    let k = filled_length n (row_of r) (omega arith) in
    rw (there, is, ← e, ← filled_word n i (row_of r) less) (take_store words (row_of r ++ replicate (n - length (row_of r)) 0) i (omega arith) (omega arith) (rw e so_far))

pub padded_all : (n i : ℕ) (r : Refusal) (words : List ℕ) → 5 ≤ n → length words ≡ n → n ≤ i → take i words ≡ take i (padded n (row_of r)) → words ≡ padded n (row_of r)
padded_all n i r words h all past so_far =
    let s = row_short r in
    let e = filled n (row_of r) h s in
    let k = filled_length n (row_of r) (omega arith) in
    take_full words (padded n (row_of r)) i (omega (arith, ap length e)) (omega (arith, ap length e)) so_far
