-- The bit pattern of a rounded fraction, in either format: the exponent's field beside the significand that is kept. Assumes
-- nothing.
use mathlib.Core.Path.{◌≡◌, refl, sym, ap, ◌∙◌, subst}
use mathlib.Core.Logic.{◌⊎◌, inl, inr}
use Prim.Native.Nat.{ℕ, suc, ◌+◌, ◌-◌, ◌*◌, ◌/◌, ◌%◌, ◌^◌, ◌≤◌, ◌<◌, min, compare}
use native.Mathlib.Nat.{le_refl, le_trans, le_of_eq, le_of_lt, lt_of_lt_of_le, lt_of_le_of_lt, lt_of_not-le, not-le_of_lt}
use native.Mathlib.Nat.{add-zero, add_assoc, mul_comm, mul_assoc, mul_right_comm, suc-mul, mul-pos, mul-div_cancel, div-one}
use native.Mathlib.Nat.{mul-le-mul, mul-le-mul_left, mul-le-mul_right, mul-lt-mul_of_pos_left, mul-lt-mul_of_pos_right}
use native.Mathlib.Nat.{eq-or-lt_of_le, le-div_iff_mul-le, div-lt_iff_lt-mul, min-eq_left, min-eq_right, pow-succ'}
use native.Mathlib.Numerals.{add-one}
use native.Mathlib.Omega.{arith}
use mathlib.Core.Bool.{Bool, true, false, not, cond}
use lib.Dec.{T, ltb, ltb→lt, nltb→le}
use lib.Pow.{pow-add, pow_pos, pow_mono, pow-lt, shr_lt}
use lib.Ieee.{Float, nan, inf, fin, Format, prec, emax, low, up, down, size, odd, units, round, hid, ones, top, to_bits}
use lib.Ieee.Digits.{size-lt, size-le}
use lib.Ieee.Fits.{two, reach, down_pos, nearest-le, round_is}
use lib.Ieee.Exact.{HasValue, odd_sign}
use lib.Ieee.Nearest.{closest, closest_same, div_same, nearest-ge}
use borrow.Author.Tests.{lt-ltb, le-ltb}

-- ---- how many digits go

over_size : (n j : ℕ) → 2 ^ j ≤ n → j < size n
over_size n j h = lt_of_not-le (λ (g : size n ≤ j). not-le_of_lt (lt_of_lt_of_le (size-lt n) (pow_mono g)) h)

-- m / 2 ^ d of p digits, or of fewer at j = 0: times 2 ^ j its whole part has j digits more than p
dropped : (p d j m : ℕ) → 0 < p → m < 2 ^ (p + d) → (j ≡ 0) ⊎ (2 ^ (p - 1 + d) ≤ m) → size (m * 2 ^ j / 2 ^ d) - p ≡ j
dropped p d j m P h = go
  where
    swap : (a : ℕ) → 2 ^ (a + d) * 2 ^ j ≡ 2 ^ (a + j) * 2 ^ d
    swap a =
        ap (λ (x : ℕ). x * 2 ^ j) (pow-add 2 a d)
        ∙ mul_right_comm (2 ^ a) (2 ^ d) (2 ^ j)
        ∙ ap (λ (x : ℕ). x * 2 ^ d) (sym (pow-add 2 a j))

    hi : size (m * 2 ^ j / 2 ^ d) ≤ p + j
    hi =
        size-le (m * 2 ^ j / 2 ^ d) (p + j)
        ((div-lt_iff_lt-mul (pow_pos d)).1 (lt_of_lt_of_le (mul-lt-mul_of_pos_right h (pow_pos j)) (le_of_eq (swap p))))

    lo : 2 ^ (p - 1 + d) ≤ m → p - 1 + j < size (m * 2 ^ j / 2 ^ d)
    lo l =
        over_size (m * 2 ^ j / 2 ^ d) (p - 1 + j)
        ((le-div_iff_mul-le (pow_pos d)).1 (le_trans (le_of_eq (sym (swap (p - 1)))) (mul-le-mul_right (2 ^ j) l)))

    go : (j ≡ 0) ⊎ (2 ^ (p - 1 + d) ≤ m) → size (m * 2 ^ j / 2 ^ d) - p ≡ j
    go (inl z) = let a = hi in omega arith
    go (inr l) = let a = hi in let b = lo l in omega arith

-- the same of a whole number
dropped_whole : (p k q : ℕ) → 0 < p → q < 2 ^ p → (k ≡ 0) ⊎ (2 ^ (p - 1) ≤ q) → size (q * 2 ^ k) - p ≡ k
dropped_whole p k q P h s =
    subst (λ (x : ℕ). size x - p ≡ k) (div-one (q * 2 ^ k)) (dropped p 0 k q P (rw add-zero h) (rw add-zero s))

-- ---- a field and a significand side by side

-- 2 ^ p is twice the weight of the leading digit of p
twice : (p : ℕ) → 0 < p → 2 ^ p ≡ 2 * 2 ^ (p - 1)
twice p h =
    let e : p ≡ suc (p - 1) = omega arith in
    ap (λ (x : ℕ). 2 ^ x) e ∙ pow-succ' 2 (p - 1)

-- what `to_bits` writes of a number of units, without the sign, for a format of p digits
abbrev fields_of : ℕ → ℕ → ℕ
fields_of p a = (size a - p) * 2 ^ (p - 1) + a / 2 ^ (size a - p)

-- where k digits of a go, q is what stays
parts : (p a k q : ℕ) → size a - p ≡ k → a ≡ q * 2 ^ k → fields_of p a ≡ k * 2 ^ (p - 1) + q
parts p a k q e g =
    ap (λ (z : ℕ). z * 2 ^ (p - 1) + a / 2 ^ z) e
    ∙ ap (λ (x : ℕ). k * 2 ^ (p - 1) + x) (ap (λ (x : ℕ). x / 2 ^ k) g ∙ mul-div_cancel q (pow_pos k))

-- a q that rounding carried to 2 ^ p is one more in the field, and no digits
written : (p k q : ℕ) → 0 < p → q ≤ 2 ^ p → (k ≡ 0) ⊎ (2 ^ (p - 1) ≤ q) → fields_of p (q * 2 ^ k) ≡ k * 2 ^ (p - 1) + q
written p k q P h s = go (eq-or-lt_of_le h)
  where
    go : (q ≡ 2 ^ p) ⊎ (q < 2 ^ p) → fields_of p (q * 2 ^ k) ≡ k * 2 ^ (p - 1) + q
    go (inr l) = parts p (q * 2 ^ k) k q (dropped_whole p k q P l s) refl
    go (inl e) =
        let w : ℕ = 2 ^ (p - 1) in
        let t : 2 ^ p ≡ 2 * w = twice p P in
        let b : 0 < w = pow_pos (p - 1) in
        let l : w < 2 ^ p = omega arith in
        let g : q * 2 ^ k ≡ w * 2 ^ suc k =
        ap (λ (x : ℕ). x * 2 ^ k) (e ∙ t ∙ mul_comm 2 w) ∙ mul_assoc w 2 (2 ^ k) ∙ ap (λ (x : ℕ). w * x) (sym (pow-succ' 2 k)) in
        let i : size (w * 2 ^ suc k) - p ≡ suc k = dropped_whole p (suc k) w P l (inr (le_refl w)) in
        let d : size (q * 2 ^ k) - p ≡ suc k = ap (λ (x : ℕ). size x - p) g ∙ i in
        let m : suc k * w ≡ k * w + w = suc-mul k w in
        let r : suc k * w + w ≡ k * w + q = omega arith in
        parts p (q * 2 ^ k) (suc k) w d g ∙ r

-- ---- an infinity

pub less_or_not : (a b : ℕ) → (a < b) ⊎ (b ≤ a)
less_or_not a b = go (ltb a b) (ltb→lt a b) (nltb→le a b)
  where
    go : (t : Bool) → (T t → a < b) → (T (not t) → b ≤ a) → (a < b) ⊎ (b ≤ a)
    go true h k = inl (h tt)
    go false h k = inr (k tt)

-- a field k beside a significand q reaches the field c + 1 just where q * 2 ^ k reaches h * 2 ^ c
abbrev Under : ℕ → ℕ → ℕ → ℕ → Type 0
Under h c k q = (q * 2 ^ k < h * 2 ^ c) × (k * h + q < (c + 1) * h)

abbrev Over : ℕ → ℕ → ℕ → ℕ → Type 0
Over h c k q = (h * 2 ^ c ≤ q * 2 ^ k) × ((c + 1) * h ≤ k * h + q)

under_or_over : (h c k q : ℕ) → 0 < h → 0 < c → q ≤ 2 * h → (k ≡ 0) ⊎ (h ≤ q) → Under h c k q ⊎ Over h c k q
under_or_over h c k q H C most shape = go (less_or_not k c) shape
  where
    next : (c + 1) * h ≡ c * h + h
    next = ap (λ (x : ℕ). x * h) (add-one c) ∙ suc-mul c h

    doubled : 2 * h * 2 ^ k ≡ h * 2 ^ suc k
    doubled =
        ap (λ (x : ℕ). x * 2 ^ k) (mul_comm 2 h) ∙ mul_assoc h 2 (2 ^ k) ∙ ap (λ (x : ℕ). h * x) (sym (pow-succ' 2 k))

    -- rounding carried q to the next power of two
    carried : q ≡ 2 * h → (suc k ≡ c) ⊎ (suc k < c) → Under h c k q ⊎ Over h c k q
    carried e (inl z) =
        let n = next in
        let f : c * h ≡ k * h + h = ap (λ (x : ℕ). x * h) (sym z) ∙ suc-mul k h in
        let g : h * 2 ^ c ≡ q * 2 ^ k =
        ap (λ (x : ℕ). h * 2 ^ x) (sym z) ∙ sym doubled ∙ ap (λ (x : ℕ). x * 2 ^ k) (sym e) in
        inr (le_of_eq g, omega arith)
    carried e (inr l) =
        let n = next in
        let f : suc (suc k) * h ≤ c * h = mul-le-mul_right h l in
        let g : suc (suc k) * h ≡ k * h + h + h = suc-mul (suc k) h ∙ ap (λ (x : ℕ). x + h) (suc-mul k h) in
        let i : q * 2 ^ k ≡ h * 2 ^ suc k = ap (λ (x : ℕ). x * 2 ^ k) e ∙ doubled in
        inl (lt_of_le_of_lt (le_of_eq i) (mul-lt-mul_of_pos_left (pow-lt l) H), omega arith)

    below : k < c → (q < 2 * h) ⊎ (2 * h ≤ q) → Under h c k q ⊎ Over h c k q
    below l (inl small) =
        let n = next in
        let f : suc k * h ≤ c * h = mul-le-mul_right h l in
        let g : suc k * h ≡ k * h + h = suc-mul k h in
        let i : h * 2 ^ suc k ≤ h * 2 ^ c = mul-le-mul_left h (pow_mono l) in
        inl (lt_of_lt_of_le (mul-lt-mul_of_pos_right small (pow_pos k)) (le_trans (le_of_eq doubled) i), omega arith)
    below l (inr large) = let e : q ≡ 2 * h = omega arith in carried e (eq-or-lt_of_le l)

    go : (k < c) ⊎ (c ≤ k) → (k ≡ 0) ⊎ (h ≤ q) → Under h c k q ⊎ Over h c k q
    go (inl l) s = below l (less_or_not q (2 * h))
    go (inr l) (inl z) = absurd (omega arith)
    go (inr l) (inr g) =
        let n = next in
        let f : c * h ≤ k * h = mul-le-mul_right h l in
        inr (mul-le-mul g (pow_mono l), omega arith)

-- ---- the pattern of what `units` gives

-- of a finite value, by its size in units of the format's smallest value
finite : (f : Format) (v : Float) (s : Bool) (a : ℕ) → HasValue v s a (2 ^ low f)
    → to_bits f v ≡ cond s (top f) 0 + fields_of (prec f) a
unfolding to_bits
finite f nan s a h = absurd h
finite f (inf t) s a h = absurd h
finite f (fin t m e) s a h =
    let n = m * up e * 2 ^ low f / down e in
    let g : n ≡ a = ap (λ (x : ℕ). x / down e) h.1 ∙ mul-div_cancel a (down_pos e) in
    add_assoc (cond t (top f) 0) ((size n - prec f) * hid f) (n / 2 ^ (size n - prec f))
    ∙ ap (λ (b : Bool). cond b (top f) 0 + fields_of (prec f) n) h.0
    ∙ ap (λ (x : ℕ). cond s (top f) 0 + fields_of (prec f) x) g

to_bits_inf : (f : Format) (s : Bool) → to_bits f (inf s) ≡ cond s (top f) 0 + ones f * hid f
unfolding to_bits
to_bits_inf f s = refl

-- a significand of the format's digits, or of fewer in the lowest field
abbrev Shape : Format → ℕ → ℕ → Type 0
Shape f q k = (k ≡ 0) ⊎ (hid f ≤ q)

-- the field k beside the significand q; from the infinity's pattern on, that pattern
to_bits_units : (f : Format) (s : Bool) (q k : ℕ) → q ≤ 2 ^ prec f → Shape f q k
    → to_bits f (units f s q k) ≡ cond s (top f) 0 + min (k * hid f + q) (ones f * hid f)
unfolding units
to_bits_units f s q k h shape =
    go (under_or_over (hid f) (2 * emax f) k q (pow_pos (prec f - 1)) C (le_trans h (le_of_eq (twice (prec f) P))) shape)
  where
    P : 0 < prec f
    P = let t = two f in omega arith

    C : 0 < 2 * emax f
    C = let t = two f in let r = reach f in omega arith

    limit : 2 ^ (low f + suc (emax f)) ≡ hid f * 2 ^ (2 * emax f)
    limit =
        let t = two f in
        let e : low f + suc (emax f) ≡ prec f - 1 + 2 * emax f = omega arith in
        ap (λ (x : ℕ). 2 ^ x) e ∙ pow-add 2 (prec f - 1) (2 * emax f)

    case : (b : Bool) → ltb (q * 2 ^ k) (2 ^ (low f + suc (emax f))) ≡ b
        → to_bits f (units f s q k) ≡ to_bits f (cond b (odd (suc (prec f)) s q k (low f)) (inf s))
    case b t = ap (λ (x : Bool). to_bits f (cond x (odd (suc (prec f)) s q k (low f)) (inf s))) t

    go : Under (hid f) (2 * emax f) k q ⊎ Over (hid f) (2 * emax f) k q
        → to_bits f (units f s q k) ≡ cond s (top f) 0 + min (k * hid f + q) (ones f * hid f)
    go (inl u) =
        case true (lt-ltb _ _ (lt_of_lt_of_le u.0 (le_of_eq (sym limit))))
        ∙ finite f (odd (suc (prec f)) s q k (low f)) s (q * 2 ^ k) (odd_sign (suc (prec f)) s q k (low f))
        ∙ ap (λ (x : ℕ). cond s (top f) 0 + x) (written (prec f) k q P h shape ∙ sym (min-eq_left (le_of_lt u.1)))
    go (inr o) =
        case false (le-ltb _ _ (le_trans (le_of_eq limit) o.0))
        ∙ to_bits_inf f s
        ∙ ap (λ (x : ℕ). cond s (top f) 0 + x) (sym (min-eq_right o.1))

-- ---- the pattern of what `round` gives

-- num / den is m * 2 ^ j / 2 ^ d units of the smallest value, and m / 2 ^ d has as many digits as the format keeps, or fewer at
-- j = 0: so m loses d digits, and the field is j
pub to_bits_round : (f : Format) (s : Bool) (num den m d j : ℕ) → 0 < den → num * 2 ^ low f * 2 ^ d ≡ m * 2 ^ j * den
    → m < 2 ^ (prec f + d) → (j ≡ 0) ⊎ (2 ^ (prec f - 1 + d) ≤ m)
    → to_bits f (round f s num den) ≡ cond s (top f) 0 + min (j * hid f + closest m (2 ^ d)) (ones f * hid f)
to_bits_round f s num den m d j D e small shape =
    let n = num * 2 ^ low f in
    let t = two f in
    let P : 0 < prec f = omega arith in
    let v : n / den ≡ m * 2 ^ j / 2 ^ d = div_same n den (m * 2 ^ j) (2 ^ d) D (pow_pos d) e in
    let k : size (n / den) - prec f ≡ j = ap (λ (x : ℕ). size x - prec f) v ∙ dropped (prec f) d j m P small shape in
    let g : n * 2 ^ d ≡ m * (den * 2 ^ j) = e ∙ mul_right_comm m (2 ^ j) den ∙ mul_assoc m den (2 ^ j) in
    ap (to_bits f)
    (round_is f s num den
    ∙ ap (λ (z : ℕ). units f s (closest n (den * 2 ^ z)) z) k
    ∙ ap (λ (q : ℕ). units f s q j) (closest_same n (den * 2 ^ j) m (2 ^ d) (mul-pos D (pow_pos j)) (pow_pos d) g))
    ∙ to_bits_units f s (closest m (2 ^ d)) j
    (le_trans (nearest-le (m / 2 ^ d) (compare (m % 2 ^ d * 2) (2 ^ d))) (shr_lt (prec f) d small))
    (kept shape)
  where
    kept : (j ≡ 0) ⊎ (2 ^ (prec f - 1 + d) ≤ m) → Shape f (closest m (2 ^ d)) j
    kept (inl z) = inl z
    kept (inr l) =
        inr
        (le_trans ((le-div_iff_mul-le (pow_pos d)).1 (le_trans (le_of_eq (sym (pow-add 2 (prec f - 1) d))) l))
        (nearest-ge (m / 2 ^ d) (compare (m % 2 ^ d * 2) (2 ^ d))))
