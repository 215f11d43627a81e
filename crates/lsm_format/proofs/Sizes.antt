-- Sizes in two steps: the samples of a picture, then its bytes. Assumes nothing.
use Prim.Native.Nat.{ℕ, ◌*◌, ◌^◌, ◌-◌, ◌<◌}
use native.Mathlib.Omega.{arith}
use mathlib.Core.Path.{◌≡◌}
use Rattle.std.specs.Prelude.{None, Some}
use Rattle.lsm_format.specs.Answer.{refused, given, oversized_allocation}
use Rattle.lsm_format.specs.Sizes.{Kind, u8, u16, i16, f32, sample_size, picture_limit, unlimited_size}
use Rattle.lsm_format.specs.Words.{word}
use Rattle.lsm_format.proofs.Words.{word_over, word_none, word_some, product_stays}

pub sample_size_pos : (k : Kind) → 0 < sample_size k
sample_size_pos u8 = omega arith
sample_size_pos u16 = omega arith
sample_size_pos i16 = omega arith
sample_size_pos f32 = omega arith

-- samples that overflow are bytes that do, since a sample has at least one byte
pub samples_over : (width height : ℕ) (k : Kind) → word (width * height) ≡ None →
    unlimited_size width height k ≡ refused (oversized_allocation (2 ^ 64 - 1) picture_limit)
unfolding unlimited_size
samples_over width height k e = rw (word_over (product_stays _ _ (sample_size_pos k) (word_none _ e)))

pub samples_fit : (width height n : ℕ) (k : Kind) → word (width * height) ≡ Some n →
    unlimited_size width height k ≡ given (oversized_allocation (2 ^ 64 - 1) picture_limit) (word (n * sample_size k))
unfolding unlimited_size
samples_fit width height n k e = rw (word_some _ _ e).0
