-- Laws of the CZ-LSM-Info block: a dimension that is stated is its own size, since it is not below 0, and a block that is taken lies in its
-- file. Assumes nothing.
use mathlib.Core.Bool.{Bool, true, false, ◌&&◌, true≢false}
use mathlib.Core.Path.{◌≡◌, refl, sym}
use mathlib.Core.List.{List}
use Prim.Native.Nat.{ℕ, zero, suc, ◌+◌, ◌-◌, ◌≤◌}
use native.Mathlib.Nat.{min-le_left}
use native.Mathlib.Omega.{arith}
use lib.IntN.{ℤ, pos, negsuc, nat_abs}
use lib.ListN.{length}
use borrow.Author.Tests.{leb-true}
use Rattle.lsm_format.specs.Answer.{Result, accepted, refused, bind, need}
use Rattle.lsm_format.specs.Numbers.{Order}
use Rattle.lsm_format.specs.CzInfo.{block_length, header, Extents, positive, natural, size, stated}
use Rattle.lsm_format.proofs.Accepting.{both_hold}
use Rattle.lsm_format.proofs.Apart.{no_case}

-- ---- the dimensions

pub positive_natural : (z : ℤ) → positive z ≡ true → natural z ≡ true
positive_natural (pos n) t = refl
positive_natural (negsuc n) t = t

pub positive_size : (z : ℤ) → positive z ≡ true → size z ≡ nat_abs z
positive_size (pos n) t = refl
positive_size (negsuc n) t = absurd (true≢false (sym t))

pub natural_size : (z : ℤ) → natural z ≡ true → size z ≡ nat_abs z
natural_size (pos n) t = refl
natural_size (negsuc n) t = absurd (true≢false (sym t))

-- what is stated is not below 0
pub record Naturals (d : Extents) : Type 0 where
  pub x : natural d.x ≡ true
  pub y : natural d.y ≡ true
  pub z : natural d.z ≡ true
  pub channels : natural d.channels ≡ true
  pub time : natural d.time ≡ true

pub stated_natural : (d : Extents) → stated d ≡ true → Naturals d
stated_natural d h =
    let t = both_hold (positive d.x && positive d.y && natural d.z && positive d.channels) (natural d.time) h in
    let c = both_hold (positive d.x && positive d.y && natural d.z) (positive d.channels) t.0 in
    let z = both_hold (positive d.x && positive d.y) (natural d.z) c.0 in
    let y = both_hold (positive d.x) (positive d.y) z.0 in
    record {
      x = positive_natural d.x y.0;
      y = positive_natural d.y y.1;
      z = z.1;
      channels = positive_natural d.channels c.1;
      time = t.1;
    }

-- ---- the header

pub need_accepted : (row : List ℕ) (t : Bool) {u : Unit {0}} → need row t ≡ accepted u → t ≡ true
need_accepted row true e = refl
need_accepted row false e = no_case cc

-- a bind that is accepted: its first step was, and then the rest
bind_accepted : {A B : Type 0} (m : Result A) {k : A → Result B} {b : B} → bind m k ≡ accepted b →
    (a : A) × ((m ≡ accepted a) × (k a ≡ accepted b))
unfolding bind
bind_accepted (accepted a) e = (a, (refl, e))
bind_accepted (refused row) e = no_case cc

length_most : (declared : ℕ) (z : ℤ) → block_length declared z ≤ declared
length_most declared (pos zero) = omega arith
length_most declared (pos (suc n)) = min-le_left declared (suc n)
length_most declared (negsuc n) = omega arith

-- a block that is taken lies in the file, and has the dimensions
pub header_fits : (o : Order) (f : List ℕ) (block declared : ℕ) {n : ℕ} → header o f block declared ≡ accepted n →
    (28 ≤ n) × (block + n ≤ length f)
unfolding header
header_fits o f block declared {n} e =
    let a = (bind_accepted _ e).1 in
    let b = (bind_accepted _ a.1).1 in
    let c = (bind_accepted _ b.1).1 in
    let magic = (bind_accepted _ c.1).1 in
    let d = (bind_accepted _ magic.1).1 in
    let size = bind_accepted _ d.1 in
    let g = (bind_accepted _ size.1.1).1 in
    let z = size.0 in
    let start : block ≤ length f = leb-true _ _ (need_accepted _ _ a.0) in
    let whole : declared ≤ length f - block = leb-true _ _ (need_accepted _ _ c.0) in
    let least : 28 ≤ block_length declared z = leb-true _ _ (need_accepted _ _ g.0) in
    let same : block_length declared z ≡ n = (let q : accepted (block_length declared z) ≡ accepted n = g.1 in cc) in
    omega (arith, length_most declared z)
