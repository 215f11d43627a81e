-- Laws of the signs of an array's values: a number's sign is one of its bytes, and values past the file have none. Assumes nothing.
use Prim.Native.Nat.{ℕ, zero, suc, ◌+◌, ◌-◌, ◌*◌, ◌/◌, ◌^◌, ◌≤◌, ◌<◌}
use native.Mathlib.Nat.{add-zero, mul-zero, mul-suc, mul-le-mul_left}
use native.Mathlib.Omega.{arith}
use mathlib.Core.Bool.{Bool, true, false, ◌||◌, or_assoc, or-false}
use mathlib.Core.Logic.{◌⊎◌, inl, inr}
use mathlib.Core.Path.{◌≡◌, refl, sym, ap}
use mathlib.Core.List.{List}
use Rattle.std.specs.Prelude.{min, max}
use lib.Dec.{leb}
use lib.ListN.{length, get_or}
use lib.Pow.{pow_pos}
use Rattle.std.proofs.Common.{add-one}
use borrow.Author.Tests.{le-leb, lt-leb, leb-true, leb-false}
use Rattle.lsm_format.specs.Numbers.{Order, little, big, number_at}
use Rattle.lsm_format.specs.Directory.{is_negative}
use Rattle.lsm_format.proofs.Numbers.{number_past, number_there}
use Rattle.lsm_values.specs.Values.{or_nought, some_negative}
use Rattle.lsm_values.specs.Code.{bytes_of, sign_place}
use Rattle.lsm_values.specs.declared.Width.{Width}
use Rattle.lsm_values.specs.declared.Width.TheVariants.{One, Two, Four}

-- ---- a sign

-- two tests of the same fact
same_test : (a b c d : ℕ) → (a ≤ b → c ≤ d) → (c ≤ d → a ≤ b) → leb a b ≡ leb c d
same_test a b c d to from = by (leb a b) refl
  where
    by : (t : Bool) → leb a b ≡ t → t ≡ leb c d
    by true e = sym (le-leb c d (to (leb-true a b e)))
    by false e = sym (lt-leb c d (past (leb c d) refl))
      where
        past : (t : Bool) → leb c d ≡ t → d < c
        past true q = let le : a ≤ b = from (leb-true c d q) in let gt : b < a = leb-false a b e in absurd (omega arith)
        past false q = leb-false c d q

module _ (f : List ℕ) (bytes : (k : ℕ) → get_or f k 0 < 256) where
  -- the top bit of a number is that of one of its bytes, by the order
  pub sign_of : (w : Width) (o : Order) (p : ℕ) → p + bytes_of w ≤ length f →
      is_negative (bytes_of w) (or_nought (number_at (bytes_of w) o f p)) ≡ leb 128 (get_or f (p + sign_place w o) 0)
  unfolding or_nought
  sign_of One little p h = rw (number_there 1 little f p h, add-zero p) (same_test _ _ _ _ (λ q. omega arith) (λ q. omega arith))
  sign_of One big p h = rw (number_there 1 big f p h, add-zero p) (same_test _ _ _ _ (λ q. omega arith) (λ q. omega arith))
  sign_of Two little p h =
      let b = bytes p in
      rw (number_there 2 little f p h) (same_test _ _ _ _ (λ q. omega arith) (λ q. omega arith))
  sign_of Two big p h =
      let b = bytes (p + 1) in
      rw (number_there 2 big f p h, add-zero p) (same_test _ _ _ _ (λ q. omega arith) (λ q. omega arith))
  sign_of Four little p h =
      let b = bytes p in
      let c = bytes (p + 1) in
      let d = bytes (p + 2) in
      rw (number_there 4 little f p h) (same_test _ _ _ _ (λ q. omega arith) (λ q. omega arith))
  sign_of Four big p h =
      let b = bytes (p + 1) in
      let c = bytes (p + 2) in
      let d = bytes (p + 3) in
      rw (number_there 4 big f p h, add-zero p) (same_test _ _ _ _ (λ q. omega arith) (λ q. omega arith))

-- ---- the signs of several

-- the greater of two has the top bit where one of them has
top_of : (a b : ℕ) → leb 128 (max a b) ≡ (leb 128 a || leb 128 b)
top_of a b = by (leb 128 a) (leb 128 b) refl refl
  where
    by : (s t : Bool) → leb 128 a ≡ s → leb 128 b ≡ t → leb 128 (max a b) ≡ (s || t)
    by true t e q = let le : 128 ≤ a = leb-true _ _ e in le-leb 128 (max a b) (omega arith)
    by false true e q = let le : 128 ≤ b = leb-true _ _ q in le-leb 128 (max a b) (omega arith)
    by false false e q =
        let lt : a < 128 = leb-false _ _ e in
        let lt' : b < 128 = leb-false _ _ q in
        lt-leb 128 (max a b) (omega arith)

-- the place of the next number
pub next_place : (p size i : ℕ) → p + size * i + size ≡ p + size * (i + 1)
next_place p size i = omega (arith, mul-suc size i, add-one i)

-- where all of them are in the file, the i-th is
place_inside : (n size len p i : ℕ) → p + size * n ≤ len → i < n → p + size * i + size ≤ len
place_inside n size len p i h k = let more : size * suc i ≤ size * n = mul-le-mul_left size k in omega (arith, mul-suc size i, more)

-- and so is a byte of it
pub sign_inside : (n size sign len p i : ℕ) → p + size * n ≤ len → sign < size → i < n → p + size * i + sign < len
sign_inside n size sign len p i h s k = omega (arith, place_inside n size len p i h k)

module _ (f : List ℕ) (n : ℕ) (w : Width) (o : Order) (p i : ℕ) where
  -- the i-th of n, and then the others
  pub signs_next : ((k : ℕ) → get_or f k 0 < 256) → (top : ℕ) → p + bytes_of w * n ≤ length f → i < n →
      (leb 128 (max top (get_or f (p + bytes_of w * i + sign_place w o) 0)) || some_negative (n - (i + 1)) (bytes_of w) o f (p + bytes_of w * (i + 1)))
      ≡ (leb 128 top || some_negative (n - i) (bytes_of w) o f (p + bytes_of w * i))
  unfolding some_negative
  signs_next bytes top h k =
      let one : n - i ≡ suc (n - (i + 1)) = omega arith in
      rw (one, next_place p (bytes_of w) i, sign_of f bytes w o (p + bytes_of w * i) (place_inside n (bytes_of w) (length f) p i h k), top_of)
      (or_assoc (leb 128 top) (leb 128 (get_or f (p + bytes_of w * i + sign_place w o) 0)) (some_negative (n - (i + 1)) (bytes_of w) o f (p + bytes_of w * (i + 1))))

  -- no more
  pub signs_over : (top : ℕ) → n ≤ i → leb 128 top ≡ (leb 128 top || some_negative (n - i) (bytes_of w) o f (p + bytes_of w * i))
  unfolding some_negative
  signs_over top h = let none : n - i ≡ 0 = omega arith in rw none (sym (or-false (leb 128 top)))

-- ---- past the file

module _ (size : ℕ) (o : Order) (f : List ℕ) where
  no_sign : (p : ℕ) → length f < p + size → is_negative size (or_nought (number_at size o f p)) ≡ false
  unfolding or_nought
  no_sign p h = rw (number_past size o f p h) (lt-leb (2 ^ (8 * size - 1)) 0 (pow_pos (8 * size - 1)))

  pub none_past : (n p : ℕ) → length f < p + size → some_negative n size o f p ≡ false
  unfolding some_negative
  none_past zero p h = refl
  none_past (suc n) p h = rw (no_sign p h) (none_past n (p + size) (omega arith))

  pub none_outside : (n p : ℕ) → length f < p → some_negative n size o f p ≡ false
  none_outside n p h = none_past n p (omega arith)

  -- the others of which are past the file
  some_fewer : (t n p : ℕ) → t ≤ n → (t ≡ n) ⊎ (length f < p + size * t + size) → some_negative t size o f p ≡ some_negative n size o f p
  unfolding some_negative
  some_fewer t n p h (inl e) = ap (λ (k : ℕ). some_negative k size o f p) e
  some_fewer zero n p h (inr l) = sym (none_past n p (omega (arith, mul-zero size, l)))
  some_fewer (suc t) zero p h (inr l) = absurd (omega arith)
  some_fewer (suc t) (suc n) p h (inr l) =
      ap (λ (b : Bool). is_negative size (or_nought (number_at size o f p)) || b) (some_fewer t n (p + size) (omega arith) (inr (omega (arith, mul-suc size t, l))))

-- Of the numbers from a place in the file on, as many as are there. The others have no sign.
abbrev pub there : ℕ → ℕ → ℕ → ℕ → ℕ
there count len p size = min count ((len - p) / size)

pub there_inside : (w : Width) (count len p : ℕ) → p ≤ len → p + bytes_of w * there count len p (bytes_of w) ≤ len
there_inside One count len p h = omega arith
there_inside Two count len p h = omega arith
there_inside Four count len p h = omega arith

there_or : (w : Width) (count len p : ℕ) → p ≤ len →
    (there count len p (bytes_of w) ≡ count) ⊎ (len < p + bytes_of w * there count len p (bytes_of w) + bytes_of w)
there_or One count len p h = grind arith
there_or Two count len p h = grind arith
there_or Four count len p h = grind arith

pub there_all : (w : Width) (o : Order) (f : List ℕ) (count p : ℕ) → p ≤ length f →
    some_negative (there count (length f) p (bytes_of w)) (bytes_of w) o f p ≡ some_negative count (bytes_of w) o f p
there_all w o f count p h = some_fewer (bytes_of w) o f (there count (length f) p (bytes_of w)) count p (omega arith) (there_or w count (length f) p h)
