-- Laws of a list that is filled from the front, and of samples turned around in place. Assumes nothing.
use Prim.Native.Nat.{ℕ, ◌+◌, ◌-◌, ◌*◌, ◌<◌, ◌≤◌}
use native.Mathlib.Nat.{suc-mul, mul-le-mul_right, add-sub_cancel_left, zero-add}
use native.Mathlib.Numerals.{add-one}
use native.Mathlib.Omega.{arith}
use mathlib.Core.Path.{◌≡◌, refl, sym, ap, ◌∙◌}
use mathlib.Core.Logic.{◌⊎◌, inl, inr}
use mathlib.Core.List.{List, [], ◌∷◌, reverse}
use borrow.Rule.Slice.PartMut.{put_mid, drop_put}
use Rattle.std.proofs.lemmas.Slice.{take-put_mid}
use lib.ListN.{length, take, drop, length-drop, length-reverse}
use lib.Seq.{take_all, length-take-le, drop-drop}
use Rattle.lsm_format.specs.Sizes.{Kind, u8, u16, i16, f32, sample_size}
use Rattle.lsm_format.specs.Picture.{span, bytes}
use Rattle.lsm_format.proofs.Picture.{held, span_snoc, bytes_length, bytes_run}

-- a sample has one, two or four bytes
pub sample_size_lem : (k : Kind) → (sample_size k ≡ 1) ⊎ ((sample_size k ≡ 2) ⊎ (sample_size k ≡ 4))
sample_size_lem u8 = inl refl
sample_size_lem u16 = inr (inl refl)
sample_size_lem i16 = inr (inl refl)
sample_size_lem f32 = inr (inr refl)

-- ---- a part of a list that is filled from the front

pub part_length : (a m : ℕ) (out : List ℕ) → a + m ≤ length out → length (take (a + m - a) (drop a out)) ≡ m
part_length a m out h = rw add-sub_cancel_left (length-take-le m (drop a out) (rw length-drop (omega arith)))

pub part_in : (h part i : ℕ) → i < h → i * part + part ≤ h * part
part_in h part i l = omega (arith, suc-mul i part, mul-le-mul_right part l)

-- part i was put behind the parts before it
pub part_step : (g : ℕ → List ℕ) (y i part : ℕ) (out ys : List ℕ) → i * part + part ≤ length out → length ys ≡ part → ys ≡ g (y + i)
    → take (i * part) out ≡ span y i g
    → take ((i + 1) * part) (put_mid (i * part) (i * part + part - i * part) out ys) ≡ span y (i + 1) g
part_step g y i part out ys fits l e so_far =
    let q : (i + 1) * part ≡ i * part + part = rw (add-one, suc-mul) in
    rw (q, take-put_mid (i * part) (i * part + part - i * part) out ys (i * part + part) (omega arith) (omega arith), so_far, e) (sym (span_snoc y i g))

pub parts_done : (g : ℕ → List ℕ) (y i h part : ℕ) (out : List ℕ) → i ≤ h → h ≤ i → length out ≡ h * part → take (i * part) out ≡ span y i g
    → out ≡ span y h g
parts_done g y i h part out l u e so_far =
    let q : i ≡ h = omega arith in
    let so-far' : take (h * part) out ≡ span y h g = rw q at so_far in
    sym (take_all (h * part) out (omega arith)) ∙ so-far'

-- ---- one sample turned around

pub flip_one : (l : List ℕ) → length l ≡ 1 → l ≡ reverse l
flip_one [] e = absurd (omega arith)
flip_one (a ∷ []) e = refl
flip_one (a ∷ b ∷ r) e = absurd (omega arith)

-- ---- sample q is as it was, and is turned around

sample_there : (l was : List ℕ) (q s m : ℕ) → length was ≡ m * s → q < m → drop (q * s) l ≡ drop (q * s) was
    → take (q * s + s - q * s) (drop (q * s) l) ≡ bytes (held was) (q * s) s
sample_there l was q s m e h d =
    rw (add-sub_cancel_left, d) (sym (bytes_run (held was) (q * s) s was (q * s) (λ b u. refl) (omega (arith, part_in m s q h))))

rest_there : (l was ys : List ℕ) (q s m : ℕ) → length l ≡ m * s → q < m → length ys ≡ s → drop (q * s) l ≡ drop (q * s) was
    → drop ((q + 1) * s) (put_mid (q * s) (q * s + s - q * s) l ys) ≡ drop ((q + 1) * s) was
rest_there l was ys q s m e h u d =
    let z : (q + 1) * s ≡ q * s + s = rw (add-one, suc-mul) in
    let v : length ys ≡ q * s + s - q * s = omega arith in
    rw z (drop_put (q * s) (q * s + s) l ys (omega arith) (omega (arith, part_in m s q h)) v ∙ sym (drop-drop s (q * s) l) ∙ ap (drop s) d ∙ drop-drop s (q * s) was)

pub turn_step : (l was ys : List ℕ) (q s m : ℕ) → length l ≡ length was → length was ≡ m * s → q < m → drop (q * s) l ≡ drop (q * s) was
    → ys ≡ reverse (take (q * s + s - q * s) (drop (q * s) l))
    → take (q * s) l ≡ span 0 q (λ i. reverse (bytes (held was) (i * s) s))
    → (take ((q + 1) * s) (put_mid (q * s) (q * s + s - q * s) l ys) ≡ span 0 (q + 1) (λ i. reverse (bytes (held was) (i * s) s)))
    × (drop ((q + 1) * s) (put_mid (q * s) (q * s + s - q * s) l ys) ≡ drop ((q + 1) * s) was)
turn_step l was ys q s m e e' h d r so_far =
    let i : q * s + s ≤ m * s = part_in m s q h in
    let u : ys ≡ reverse (bytes (held was) (q * s) s) = r ∙ ap reverse (sample_there l was q s m e' h d) in
    let v : length ys ≡ s = ap length u ∙ length-reverse (bytes (held was) (q * s) s) ∙ bytes_length (held was) (q * s) s in
    (part_step (λ i. reverse (bytes (held was) (i * s) s)) 0 q s l ys (omega arith) v (rw zero-add u) so_far, rest_there l was ys q s m (e ∙ e') h v d)
