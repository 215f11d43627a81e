-- Laws of wide numbers: what a step on one limb does to the number of the limbs passed. Assumes nothing.
use Prim.Native.Nat.{ℕ, zero, suc, ◌+◌, ◌-◌, ◌*◌, ◌^◌, ◌≤◌, ◌<◌}
use mathlib.Core.Path.{◌≡◌, refl, sym, ap, ◌∙◌}
use mathlib.Core.List.{List, [], ◌∷◌, ◌++◌}
use native.Mathlib.Nat.{add-mul, mul-add, mul_comm, mul_assoc, mul_left_comm, pow-suc}
use native.Mathlib.Numerals.{add-one}
use native.Mathlib.Omega.{arith}
use lib.Arith.{digits_lt}
use lib.ListN.{length, take, drop, get_or, set, length-set}
use lib.Seq.{take-suc, take-suc-set, take_all, length-take-le, drop-cons, drop-set-lt}
use Rattle.figure.specs.Wide.{value, room}

-- The weight of limb i.
abbrev pub weight : ℕ → ℕ
weight i = (2 ^ 32) ^ i

-- One limb more, on top.
value_snoc : (xs : List ℕ) (x : ℕ) → value (xs ++ x ∷ []) ≡ value xs + x * weight (length xs)
unfolding value
value_snoc [] x = omega arith
value_snoc (y ∷ ys) x =
    let e : value (ys ++ x ∷ []) ≡ value ys + x * weight (length ys) = value_snoc ys x in
    let p : x * weight (suc (length ys)) ≡ x * weight (length ys) * 2 ^ 32 =
    ap (λ (z : ℕ). x * z) (pow-suc (2 ^ 32) (length ys)) ∙ sym (mul_assoc x (weight (length ys)) (2 ^ 32)) in
    omega arith

-- The limbs up to i, and limb i.
pub value_more : (l : List ℕ) (i : ℕ) → i < length l → value (take (i + 1) l) ≡ value (take i l) + get_or l i 0 * weight i
value_more l i h =
    ap (λ (n : ℕ). value (take n l)) (add-one i)
    ∙ ap value (take-suc l i 0 h)
    ∙ value_snoc (take i l) (get_or l i 0)
    ∙ ap (λ (n : ℕ). value (take i l) + get_or l i 0 * weight n) (length-take-le i l (omega arith))

-- The same after a store to limb i.
pub value_set : (l : List ℕ) (i x : ℕ) → i < length l → value (take (i + 1) (set l i x)) ≡ value (take i l) + x * weight i
value_set l i x h =
    ap (λ (n : ℕ). value (take n (set l i x))) (add-one i)
    ∙ ap value (take-suc-set l i x h)
    ∙ value_snoc (take i l) x
    ∙ ap (λ (n : ℕ). value (take i l) + x * weight n) (length-take-le i l (omega arith))

-- The next limb's weight.
weight_more : (i : ℕ) → weight (i + 1) ≡ weight i * 2 ^ 32
weight_more i = ap weight (add-one i) ∙ pow-suc (2 ^ 32) i

-- Limbs as those before i and those from i on.
value_split : (l : List ℕ) (i : ℕ) → i ≤ length l → value l ≡ value (take i l) + weight i * value (drop i l)
unfolding value
value_split l zero h = omega arith
value_split [] (suc i) h = absurd (omega arith)
value_split (x ∷ l) (suc i) h =
    let e : value l ≡ value (take i l) + weight i * value (drop i l) = value_split l i (omega arith) in
    let p : weight (suc i) * value (drop i l) ≡ 2 ^ 32 * (weight i * value (drop i l)) =
    ap (λ (z : ℕ). z * value (drop i l)) (pow-suc (2 ^ 32) i ∙ mul_comm (weight i) (2 ^ 32)) ∙ mul_assoc (2 ^ 32) (weight i) (value (drop i l)) in
    omega arith

-- The limbs after i are as they were after a store to limb i.
drop_set : (l : List ℕ) (i x : ℕ) → drop (i + 1) (set l i x) ≡ drop (i + 1) l
drop_set l i x = drop-set-lt (i + 1) l i x (omega arith)

-- Limb i, and those after it.
drop_more : (l : List ℕ) (i : ℕ) → i < length l → drop i l ≡ get_or l i 0 ∷ drop (i + 1) l
drop_more l i h = drop-cons l i 0 h ∙ ap (λ (n : ℕ). get_or l i 0 ∷ drop n l) (sym (add-one i))

-- ---- nine limbs times a number

-- The product while it is made: the limbs before i are its own, those from i on are still to be multiplied, and something is carried to
-- limb i.
unfoldable pub product : ℕ → List ℕ → ℕ → ℕ → ℕ
product k now i carry = value (take i now) + weight i * (k * value (drop i now) + carry)

pub product_none : (k : ℕ) (now : List ℕ) → product k now 0 0 ≡ k * value now
unfolding product value
product_none k now = omega arith

-- One limb's product and carry in the place of the limb and of what was carried to it.
limb_times : (w k x v low high : ℕ) → x * k ≤ low + high * 2 ^ 32 → low * w + w * 2 ^ 32 * (k * v + high) ≡ w * (k * (x + 2 ^ 32 * v) + (low + high * 2 ^ 32 - x * k))
limb_times w k x v low high h =
    let p : k * (x + 2 ^ 32 * v) ≡ x * k + 2 ^ 32 * (k * v) =
    mul-add k x (2 ^ 32 * v) ∙ ap (λ (z : ℕ). z + k * (2 ^ 32 * v)) (mul_comm k x) ∙ ap (λ (z : ℕ). x * k + z) (mul_left_comm k (2 ^ 32) v) in
    let q : k * (x + 2 ^ 32 * v) + (low + high * 2 ^ 32 - x * k) ≡ low + 2 ^ 32 * (k * v + high) = omega arith in
    let r : w * (low + 2 ^ 32 * (k * v + high)) ≡ low * w + w * 2 ^ 32 * (k * v + high) =
    mul-add w low (2 ^ 32 * (k * v + high))
    ∙ ap (λ (z : ℕ). z + w * (2 ^ 32 * (k * v + high))) (mul_comm w low)
    ∙ ap (λ (z : ℕ). low * w + z) (sym (mul_assoc w (2 ^ 32) (k * v + high))) in
    sym (ap (λ (z : ℕ). w * z) q ∙ r)

pub product_next : (k : ℕ) (now : List ℕ) (i low high : ℕ) → i < length now → get_or now i 0 * k ≤ low + high * 2 ^ 32
    → product k (set now i low) (i + 1) high ≡ product k now i (low + high * 2 ^ 32 - get_or now i 0 * k)
unfolding product value
product_next k now i low high h e =
    let t = limb_times (weight i) k (get_or now i 0) (value (drop (i + 1) now)) low high e in
    rw (value_set now i low h, drop_set now i low, weight_more i, drop_more now i h) (omega (arith, t))

-- All nine limbs: nothing is carried where the product fits.
pub product_all : (k : ℕ) (now : List ℕ) (i carry : ℕ) → i ≡ 9 → length now ≡ 9 → product k now i carry < room → value now ≡ product k now i carry
unfolding product room
product_all k now i carry e l f =
    let z = k * value (drop i now) + carry in
    let w : weight i ≡ 2 ^ 288 = ap weight e in
    let q : 2 ^ 288 * z < 2 ^ 288 = rw w at (let g : weight i * z < 2 ^ 288 = omega arith in g) in
    let n : z ≡ 0 = omega arith in
    let t : value (take i now) ≡ value now = ap value (take_all i now (omega arith)) in
    rw (w, n) (omega arith)

pub ruleset multiplied = (product_none, product_next, product_all)

-- ---- nine limbs less nine

-- What there was before: the limbs of b before i are given back, and what is borrowed from limb i is not; and `room`, so that no more is
-- taken off than there is.
unfoldable pub restored : List ℕ → List ℕ → ℕ → ℕ → ℕ
restored now b i over = value now + value (take i b) + room - over * weight i

pub restored_none : (now b : List ℕ) → restored now b 0 0 ≡ value now + room
unfolding restored value
restored_none now b = omega arith

-- One limb's difference and borrow in the place of the limb and of what was borrowed from it.
limb_less : (n m u w x y low more t : ℕ) → m + x * w ≡ n + low * w → low + y ≤ x + more * 2 ^ 32
    → m + (u + y * w) + t - more * (w * 2 ^ 32) ≡ n + u + t - (x + more * 2 ^ 32 - (low + y)) * w
limb_less n m u w x y low more t e h =
    let s = x + more * 2 ^ 32 - (low + y) in
    let p : s + (low + y) ≡ x + more * 2 ^ 32 = omega arith in
    let q : (s + (low + y)) * w ≡ s * w + (low * w + y * w) = add-mul s (low + y) w ∙ ap (λ (z : ℕ). s * w + z) (add-mul low y w) in
    let r : (x + more * 2 ^ 32) * w ≡ x * w + more * 2 ^ 32 * w = add-mul x (more * 2 ^ 32) w in
    let c : more * (w * 2 ^ 32) ≡ more * 2 ^ 32 * w = ap (λ (z : ℕ). more * z) (mul_comm w (2 ^ 32)) ∙ sym (mul_assoc more (2 ^ 32) w) in
    let d : (s + (low + y)) * w ≡ (x + more * 2 ^ 32) * w = ap (λ (z : ℕ). z * w) p in
    omega arith

-- A store to limb i.
stored : (l : List ℕ) (i low : ℕ) → i < length l → value (set l i low) + get_or l i 0 * weight i ≡ value l + low * weight i
stored l i low h =
    let k : i + 1 ≤ length l = omega arith in
    let m : i + 1 ≤ length (set l i low) = simp length-set k in
    let s : value (set l i low) ≡ value (take i l) + low * weight i + weight (i + 1) * value (drop (i + 1) l) =
    value_split (set l i low) (i + 1) m ∙ rw (value_set l i low h, drop_set l i low) refl in
    let t : value l ≡ value (take i l) + get_or l i 0 * weight i + weight (i + 1) * value (drop (i + 1) l) =
    value_split l (i + 1) k ∙ rw (value_more l i h) refl in
    omega arith

pub restored_next : (now b : List ℕ) (i low more : ℕ) → i < length now → i < length b → low + get_or b i 0 ≤ get_or now i 0 + more * 2 ^ 32
    → restored (set now i low) b (i + 1) more ≡ restored now b i (get_or now i 0 + more * 2 ^ 32 - (low + get_or b i 0))
unfolding restored
restored_next now b i low more h g e =
    rw (value_more b i g, weight_more i)
    (limb_less (value now) (value (set now i low)) (value (take i b)) (weight i) (get_or now i 0) (get_or b i 0) low more room (stored now i low h) e)

-- All nine limbs: what is left, where nothing is borrowed past the last.
pub restored_all : (now b : List ℕ) (i over : ℕ) → i ≡ 9 → length b ≡ 9 → over ≡ 0 → restored now b i over ≡ value now + value b + room
unfolding restored
restored_all now b i over e l z =
    let t : value (take i b) ≡ value b = ap value (take_all i b (omega arith)) in rw (z, t) (omega arith)

-- Something is borrowed where b is larger.
pub restored_larger : (now b : List ℕ) (i over : ℕ) → i ≡ 9 → length b ≡ 9 → over ≡ 1 → restored now b i over ≡ value now + value b
unfolding restored room
restored_larger now b i over e l z =
    let t : value (take i b) ≡ value b = ap value (take_all i b (omega arith)) in
    let w : weight i ≡ 2 ^ 288 = ap weight e in
    rw (z, t, w) (omega arith)

-- Limbs of 32 bits stand for less than the next limb's weight.
unfoldable pub small : List ℕ → ℕ → Type 0
small now i = value (take i now) < weight i

pub small_none : (now : List ℕ) → small now 0
unfolding small value
small_none now = omega arith

pub small_next : (now : List ℕ) (i low : ℕ) → i < length now → low < 2 ^ 32 → small now i → small (set now i low) (i + 1)
unfolding small
small_next now i low h f s =
    rw (value_set now i low h, weight_more i)
    (let l : low * weight i + value (take i now) < 2 ^ 32 * weight i = digits_lt f s in omega (arith, mul_comm (2 ^ 32) (weight i)))

pub small_all : (now : List ℕ) (i : ℕ) → i ≡ 9 → length now ≡ 9 → small now i → value now < room
unfolding small room
small_all now i e l s =
    let t : value (take i now) ≡ value now = ap value (take_all i now (omega arith)) in
    let w : weight i ≡ 2 ^ 288 = ap weight e in
    rw (t, w) at s

pub ruleset subtracted = (restored_none, restored_next, restored_all, restored_larger, small_none, small_next, small_all)
