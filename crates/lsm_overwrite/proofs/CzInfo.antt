-- Two files that agree on the bytes which the CZ-LSM-Info block names: the block states the same. Assumes nothing.
use Prim.Native.Nat.{ℕ, ◌+◌, ◌-◌, ◌≤◌}
use native.Mathlib.Omega.{arith}
use mathlib.Core.Bool.{Bool, true, false}
use mathlib.Core.Path.{◌≡◌, refl, ap}
use mathlib.Core.List.{List}
use lib.Dec.{leb}
use lib.ListN.{length}
use borrow.Author.Tests.{le-leb, leb-true}
use Rattle.lsm_format.specs.Answer.{Result, need, decode}
use Rattle.lsm_format.specs.Ranges.{in_file, On, Agree}
use Rattle.lsm_format.specs.Numbers.{Order}
use Rattle.lsm_format.specs.CzInfo.{header, extents, voxels, channel_block, shots, from, range_from, cz_info, cz_ranges}
use Rattle.lsm_format.proofs.CzInfo.{need_accepted}
use Rattle.lsm_overwrite.proofs.TwoFiles.{bind_law, bind_told, over_law, number_law, i32_law}

module _ (f g : List ℕ) where
  -- a range that is in the file
  on_listed : (s n : ℕ) → s + n ≤ length f → Agree f g (in_file f s n) → On f g s n
  unfolding in_file
  on_listed s n h a = rw (le-leb (s + n) (length f) h, in_file) at a

  -- a part that is read from some length on
  from_law : {A : Type 0} (b : Bool) (s n : ℕ) (other : A) {m m' : Result A} → (On f g s n → m' ≡ m) → Agree f g (range_from b s n) →
      from b m' other ≡ from b m other
  from_law true s n other h a = h a
  from_law false s n other h a = refl

  module _ (len : length g ≡ length f) (o : Order) (block : ℕ) where
    -- past the tests the first eight bytes are in the file
    header_law : (declared : ℕ) → Agree f g (in_file f block 8) → header o g block declared ≡ header o f block declared
    unfolding header
    header_law declared a =
        bind_told _ (ap (λ (n : ℕ). need decode (leb block n)) len) (λ _ start.
        bind_told _ refl (λ _ eight.
        bind_told _ (ap (λ (n : ℕ). need decode (leb declared (n - block))) len) (λ _ whole.
        let i : block ≤ length f = leb-true _ _ (need_accepted _ _ start) in
        let j : 8 ≤ declared = leb-true _ _ (need_accepted _ _ eight) in
        let k : declared ≤ length f - block = leb-true _ _ (need_accepted _ _ whole) in
        let on : On f g block 8 = on_listed block 8 (omega arith) a in
        bind_law _ (i32_law f g len o block 8 block on (omega arith)) (λ magic.
        bind_law _ refl (λ _. bind_law _ (i32_law f g len o block 8 (block + 4) on (omega arith)) (λ size. refl))))))

    extents_law : On f g block 28 → extents o g block ≡ extents o f block
    unfolding extents
    extents_law on =
        bind_law _ (i32_law f g len o block 28 (block + 8) on (omega arith)) (λ x.
        bind_law _ (i32_law f g len o block 28 (block + 12) on (omega arith)) (λ y.
        bind_law _ (i32_law f g len o block 28 (block + 16) on (omega arith)) (λ z.
        bind_law _ (i32_law f g len o block 28 (block + 20) on (omega arith)) (λ channels.
        bind_law _ (i32_law f g len o block 28 (block + 24) on (omega arith)) (λ time. refl)))))

    voxels_law : On f g (block + 40) 24 → voxels o g block ≡ voxels o f block
    unfolding voxels
    voxels_law on =
        bind_law _ (number_law f g len 8 o (block + 40) 24 (block + 40) on (omega arith)) (λ x.
        bind_law _ (number_law f g len 8 o (block + 40) 24 (block + 48) on (omega arith)) (λ y.
        bind_law _ (number_law f g len 8 o (block + 40) 24 (block + 56) on (omega arith)) (λ z. refl)))

    channel_law : On f g (block + 108) 4 → channel_block o g block ≡ channel_block o f block
    unfolding channel_block
    channel_law on = bind_law _ (i32_law f g len o (block + 108) 4 (block + 108) on (omega arith)) (λ n. refl)

    shots_law : On f g (block + 264) 8 → shots o g block ≡ shots o f block
    unfolding shots
    shots_law on =
        bind_law _ (i32_law f g len o (block + 264) 8 (block + 264) on (omega arith)) (λ p.
        bind_law _ (i32_law f g len o (block + 264) 8 (block + 268) on (omega arith)) (λ m. refl))

    pub cz_law : (declared : ℕ) → Agree f g (cz_ranges o f block declared) → cz_info o g block declared ≡ cz_info o f block declared
    unfolding cz_info cz_ranges
    cz_law declared a =
        over_law f g (header o f block declared) _ (header_law declared a.0) a.1 (λ n w.
        bind_law _ (extents_law w.0) (λ d.
        bind_law _ refl (λ _.
        bind_law _ (from_law (leb 64 n) (block + 40) 24 _ voxels_law w.1.0) (λ sizes.
        bind_law _ (from_law (leb 112 n) (block + 108) 4 _ channel_law w.1.1.0) (λ colors.
        bind_law _ (from_law (leb 272 n) (block + 264) 8 _ shots_law w.1.1.1) (λ pm. refl))))))
