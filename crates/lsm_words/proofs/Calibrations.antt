-- Laws of a float's word, both ways, and of words one by one. Assumes nothing.
use Prim.Native.Nat.{ℕ, zero, suc, ◌^◌, ◌≤◌, ◌<◌}
use native.Mathlib.Omega.{arith}
use mathlib.Core.Path.{◌≡◌, refl, sym, ap, subst, ◌∙◌}
use mathlib.Core.Bool.{Bool, true, false, not}
use mathlib.Core.List.{List, [], ◌∷◌}
use lib.ListN.{length, get_or}
use lib.Bits.{bit_and, and_mask}
use lib.Dec.{T, ltb}
use lib.Ieee.{binary32, of_bits, is_nan, nan_bits}
use lib.Ieee.Bits.{nan_bits_is, nan_bits_above}
use borrow.Author.Tests.{lt-ltb, le-ltb}
use Rattle.lsm_format.specs.Answer.{refused, accepted, bind, decode}
use Rattle.lsm_format.specs.Calibration.{ZStep, used, absent, placeholder, too_large, Calibration, uncalibrated, sized}
use Rattle.lsm_words.specs.Calibration.{step_words, size_words}
use Rattle.lsm_words.specs.Calibration.{float_by}

-- ---- floats

module _ (n : ℕ) where
  pub float_high : 0xffff_ffff < n → refused decode ≡ float_by n
  unfolding float_by bind
  float_high h = let k : 2 ^ 32 ≤ n = omega arith in rw (le-ltb _ _ k)

  module _ (h : n ≤ 0xffff_ffff) where
    below : ltb n (2 ^ 32) ≡ true
    below = let k : n < 2 ^ 32 = omega arith in lt-ltb _ _ k

    pub float_nan : is_nan (of_bits binary32 n) ≡ true → refused decode ≡ float_by n
    unfolding float_by bind
    float_nan k = rw (below, nan_bits_is binary32 n, k)

    pub float_is : is_nan (of_bits binary32 n) ≡ false → accepted (of_bits binary32 n) ≡ float_by n
    unfolding float_by bind
    float_is k = rw (below, nan_bits_is binary32 n, k)

  -- the same by the number: without its sign's bit a NaN's pattern is above the infinity's
  pub float_number : bit_and n 0x7fff_ffff ≤ 0x7f80_0000 → T (not (nan_bits binary32 n))
  float_number k =
      let tested : nan_bits binary32 n ≡ ltb 0x7f80_0000 (bit_and n 0x7fff_ffff) = nan_bits_above binary32 n ∙ ap (ltb 0x7f80_0000) (sym (and_mask n 31)) in
      subst (λ (t : Bool). T (not t)) (sym (tested ∙ le-ltb _ _ k)) tt

-- ---- words one by one

-- n words of a list, from its word i on
unfoldable pub from : ℕ → ℕ → List ℕ → List ℕ
from i zero l = []
from i (suc n) l = get_or l i 0 ∷ from (suc i) n l

from_later : (i n x : ℕ) (l : List ℕ) → from (suc i) n (x ∷ l) ≡ from i n l
unfolding from
from_later i zero x l = refl
from_later i (suc n) x l = ap (λ (m : List ℕ). get_or l i 0 ∷ m) (from_later (suc i) n x l)

from_all : (l : List ℕ) → from 0 (length l) l ≡ l
unfolding from
from_all [] = refl
from_all (x ∷ l) = ap (λ (m : List ℕ). x ∷ m) (from_later 0 (length l) x l ∙ from_all l)

pub all : (n : ℕ) (l : List ℕ) → length l ≡ n → from 0 n l ≡ l
all n l e = rw (← e) (from_all l)

step_long : (z : ZStep) → length (step_words z) ≡ 2
unfolding step_words
step_long (used z) = refl
step_long absent = refl
step_long (placeholder z) = refl
step_long (too_large z) = refl

pub size_long : (s : Calibration) → length (size_words s) ≡ 5
unfolding size_words
size_long uncalibrated = refl
size_long (sized x y z) = ap (λ (n : ℕ). suc (suc (suc n))) (step_long z)
