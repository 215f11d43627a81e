-- How large the numbers are that opening gives with a strip table of 4,096 words. The table's words are a product of scenes, time points,
-- depth and the strips of a page, twice; with no 0 among them, none is above 2,048 (`factors`). The table doesn't bound channels, since those that
-- are interleaved share their strips: their number is the one that the first full page states (`walk_few`). That no factor is 0, that width and
-- height have 32 bits, and how many channels there are at most, is carried through opening's steps (`read_small`). Assumes nothing.
use Prim.Native.Nat.{ℕ, ◌+◌, ◌*◌, ◌^◌, ◌≤◌, ◌<◌}
use native.Mathlib.Nat.{le-mul_of_pos_right, mul-pos}
use native.Mathlib.Omega.{arith}
use mathlib.Core.Bool.{Bool, true, false, ◌&&◌}
use mathlib.Core.Path.{◌≡◌, refl, subst}
use mathlib.Core.List.{List, [], ◌∷◌}
use Rattle.std.specs.Prelude.{Option}
use lib.Dec.{leb, ltb, eqb}
use lib.IntN.{ℤ}
use lib.ListN.{length, get_or}
use borrow.Author.Tests.{leb-true, leb-false, ltb-true, ltb-false, eqb-true}
use Rattle.lsm_format.specs.Answer.{Result, accepted, refused, decode}
use Rattle.lsm_format.specs.Numbers.{Order, little, big, value_of, number_at, i32_at, signed32}
use Rattle.lsm_format.specs.Sizes.{Kind}
use Rattle.lsm_format.specs.Scenes.{Layout, layout, scenes}
use Rattle.lsm_format.specs.CzInfo.{CzInfo, Extents, size, extents, cz_info}
use Rattle.lsm_format.specs.Directory.{image_width, image_length, Directory}
use Rattle.lsm_format.specs.Open.{Walk, Description, Opened, agreement, layout_for, describe, describe_walk, read, open_file}
use Rattle.lsm_format.specs.Picture.{strips_per_page}
use Rattle.lsm_format.proofs.Numbers.{number_past, number_there, signed_low, signed_high, less_than_all}
use Rattle.lsm_format.proofs.Accepting.{Accepting, accepting_bind, accepting_then, accepting_need, accepting_given, accepting_self, accepting_told, both_hold}
use Rattle.lsm_format.proofs.Lent.{lend_fits}
use Rattle.lsm_format.proofs.Opened.{Fits, read_fits}
use Rattle.printout_room.proofs.Channels.{FewSamples, FewFirst, walk_few}

-- ---- numbers in a file of bytes

-- every element is a byte
abbrev pub Bytes : List ℕ → Type 0
Bytes f = (i : ℕ) → get_or f i 0 < 256

-- four bytes make a number of 32 bits
four : (o : Order) (a b c d : ℕ) → a < 256 → b < 256 → c < 256 → d < 256 → value_of o (a ∷ b ∷ c ∷ d ∷ []) < 2 ^ 32
four little a b c d h i j k = omega arith
four big a b c d h i j k = omega arith

-- a signed number that is not below 0 is the same; one that is has no size
signed_by : (t : Bool) (n : ℕ) → ltb n (2 ^ 31) ≡ t → n < 2 ^ 32 → size (signed32 n) < 2 ^ 32
signed_by true n e h = rw (signed_low n (ltb-true _ _ e)) h
signed_by false n e h = rw (signed_high n (ltb-false _ _ e), less_than_all n h) (omega arith)

signed_small : (n : ℕ) → n < 2 ^ 32 → size (signed32 n) < 2 ^ 32
signed_small n h = signed_by (ltb n (2 ^ 31)) n refl h

module _ (f : List ℕ) (bytes : Bytes f) where
  number_by : (t : Bool) (o : Order) (at : ℕ) → leb (at + 4) (length f) ≡ t → Accepting (λ (n : ℕ). n < 2 ^ 32) (number_at 4 o f at)
  unfolding Accepting
  number_by true o at e = rw (number_there 4 o f at (leb-true _ _ e)) (four o _ _ _ _ (bytes at) (bytes (at + 1)) (bytes (at + 2)) (bytes (at + 3)))
  number_by false o at e = rw (number_past 4 o f at (leb-false _ _ e)) tt

  number_small : (o : Order) (at : ℕ) → Accepting (λ (n : ℕ). n < 2 ^ 32) (number_at 4 o f at)
  number_small o at = number_by (leb (at + 4) (length f)) o at refl

  i32_small : (o : Order) (at : ℕ) → Accepting (λ (z : ℤ). size z < 2 ^ 32) (i32_at o f at)
  unfolding i32_at Accepting
  i32_small o at = accepting_bind _ _ _ _ (number_small o at) (λ n h. signed_small n h)

  extents_small : (o : Order) (block : ℕ) → Accepting (λ (d : Extents). (size d.x < 2 ^ 32) × (size d.y < 2 ^ 32)) (extents o f block)
  unfolding extents Accepting
  extents_small o block =
      accepting_bind _ _ _ _ (i32_small o (block + 8)) (λ x h.
      accepting_bind _ _ _ _ (i32_small o (block + 12)) (λ y k.
      accepting_then _ _ _ (λ z. accepting_then _ _ _ (λ channels. accepting_then _ _ _ (λ time. (h, k))))))

  cz_small : (o : Order) (block declared : ℕ) → Accepting (λ (i : CzInfo). (i.dim_x < 2 ^ 32) × (i.dim_y < 2 ^ 32)) (cz_info o f block declared)
  unfolding cz_info Accepting
  cz_small o block declared =
      accepting_then _ _ _ (λ n.
      accepting_bind _ _ _ _ (extents_small o block) (λ d h.
      accepting_then _ _ _ (λ _.
      accepting_then _ _ _ (λ sizes. accepting_then _ _ _ (λ colors. accepting_then _ _ _ (λ pm. h))))))

-- ---- the description

-- what holds anyway
always : {A : Type 0} (P : A → Type 0) (m : Result A) → ((a : A) → P a) → Accepting P m
unfolding Accepting
always P (accepted a) h = h a
always P (refused row) h = tt

-- "XY": the first full page is as large as the CZ block says
equal : (a b c d : ℕ) → (eqb a b && eqb c d) ≡ true → (a ≡ b) × (c ≡ d)
equal a b c d t = (eqb-true a b (both_hold (eqb a b) (eqb c d) t).0, eqb-true c d (both_hold (eqb a b) (eqb c d) t).1)

agreement_sizes : (p : Directory) (i : CzInfo) → Accepting (λ (u : Unit {0}). (i.dim_x ≡ p.scalars image_width) × (i.dim_y ≡ p.scalars image_length)) (agreement p i)
unfolding agreement
agreement_sizes p i =
    accepting_bind _ _ _ _ (accepting_need decode (eqb i.dim_x (p.scalars image_width) && eqb i.dim_y (p.scalars image_length))) (λ _ t.
    always _ _ (λ _. equal i.dim_x (p.scalars image_width) i.dim_y (p.scalars image_length) t))

-- "Scenes are P × M, at least 1."
layout_some : (i : CzInfo) (pages : ℕ) → Accepting (λ (l : Layout). 0 < l.scenes) (layout_for i pages)
unfolding layout_for layout scenes Accepting
layout_some i pages =
    accepting_bind (λ (l : Layout). 0 < l.scenes) _ _ _
    (accepting_bind (λ (n : ℕ). 0 < n) _ _ _
    (accepting_then _ _ _ (λ positions. accepting_then _ _ _ (λ tiles. omega arith))) (λ n h. h))
    (λ l h. accepting_then _ _ _ (λ expected. accepting_then _ _ _ (λ _. h)))

-- A picture of 32-bit sizes and at most 65,535 channels, at least one time point, one plane and one scene.
record Small (d : Description) : Type 0 where
  long : 0 < d.dims.t
  wide : d.dims.x < 2 ^ 32
  high : d.dims.y < 2 ^ 32
  deep : 0 < d.dims.z
  channels : d.dims.c ≤ 65535
  scenes : 0 < d.layout.scenes

describe_small : (o : Order) (k : Kind) (p : Directory) (pages : ℕ) (i : CzInfo) → FewSamples p → (i.dim_x < 2 ^ 32) × (i.dim_y < 2 ^ 32) →
    Accepting Small (describe o k p pages i)
unfolding describe Accepting FewSamples
describe_small o k p pages i few h =
    accepting_bind _ _ _ _ (agreement_sizes p i) (λ _ a.
    accepting_bind _ _ _ _ (layout_some i pages) (λ l some.
    record { long = omega arith; wide = rw (← a.0) h.0; high = rw (← a.1) h.1; deep = omega arith; channels = omega arith; scenes = some }))

walk_small : (o : Order) (f : List ℕ) → Bytes f → (w : Walk) → FewFirst w.first → Accepting Small (describe_walk o f w)
unfolding describe_walk FewFirst
walk_small o f bytes w few =
    accepting_bind _ _ _ _ (accepting_given decode w.first) (λ p e.
    accepting_then _ _ _ (λ _.
    accepting_then _ _ _ (λ k.
    accepting_then _ _ _ (λ cz.
    accepting_bind _ _ _ _ (cz_small f bytes o cz.0 cz.1) (λ i h.
    describe_small o k p (length w.pages) i (subst (λ (x : Option Directory). FewFirst x) e few) h)))))

read_small : (f : List ℕ) → Bytes f → Accepting (λ (x : Opened). Small x.description) (read f)
unfolding read Accepting
read_small f bytes =
    accepting_then _ _ _ (λ _.
    accepting_then _ _ _ (λ o.
    accepting_bind _ _ _ _ (walk_few o f) (λ w few. accepting_bind Small _ _ _ (walk_small o f bytes w few) (λ d h. h))))

-- ---- opening

-- How large a description's numbers are: time points, depth and scenes as a table of 4,096 words has room for, width and height of 32 bits, and
-- channels as many as a directory can state.
pub record Few (d : Description) : Type 0 where
  pub long : d.dims.t ≤ 2048
  pub wide : d.dims.x < 2 ^ 32
  pub high : d.dims.y < 2 ^ 32
  pub deep : d.dims.z ≤ 2048
  pub channels : d.dims.c ≤ 65535
  pub scenes : d.layout.scenes ≤ 2048

-- in a product with no 0 among its factors none is larger than the product
factors : (s t z k : ℕ) → 0 < s → 0 < t → 0 < z → 0 < k → s * t * z * k * 2 ≤ 4096 → (s ≤ 2048) × (t ≤ 2048) × (z ≤ 2048)
factors s t z k a i b h room =
    omega (
      arith,
      le-mul_of_pos_right s i,
      le-mul_of_pos_right t a,
      le-mul_of_pos_right (s * t) b,
      le-mul_of_pos_right z (mul-pos a i),
      le-mul_of_pos_right (s * t * z) h,
    )

few : (d : Description) (table : List ℕ) → Small d → Fits d table → length table ≤ 4096 → Few d
few d table small fits room =
    let w : d.layout.scenes * d.dims.t * d.dims.z * strips_per_page d * 2 ≤ 4096 = rw (fits.long, fits.deep, ← fits.words) room in
    let n = factors d.layout.scenes d.dims.t d.dims.z (strips_per_page d) small.scenes small.long small.deep fits.strips w in
    record { long = n.1; wide = small.wide; high = small.high; deep = n.2; channels = small.channels; scenes = n.0 }

read_few : (f : List ℕ) → Bytes f → (x : Opened) → read f ≡ accepted x → length x.table ≤ 4096 → Few x.description
read_few f bytes x e room =
    few x.description x.table (accepting_told _ (read f) x (read_small f bytes) e) (accepting_told _ (read f) x (read_fits f) e) room

pub open_few : (f : List ℕ) → Bytes f → Accepting (λ (x : Opened). Few x.description) (open_file f 4096)
unfolding open_file Accepting
open_few f bytes =
    accepting_bind _ _ _ _ (accepting_self (read f)) (λ x e.
    accepting_bind _ _ _ _ (lend_fits (length x.table) 4096) (λ _ room. read_few f bytes x e room))
