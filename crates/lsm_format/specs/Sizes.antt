-- Sizes of samples and of pictures (types.rs, guard.rs).
use Rattle.std.specs.Prelude.{ℕ, ◌*◌, ◌-◌, ◌^◌, leb}
use Rattle.lsm_format.specs.Answer.{Result, accepted, bind, need, given, oversized_allocation}
use Rattle.lsm_format.specs.Words.{word}

-- The kinds of samples, in document 01's order ("Kind 0 to 3 is U8, U16, I16, F32").
pub data Kind : Type 0 where
  u8 u16 i16 f32 : Kind

-- types.rs, `DType::size_bytes`: the bytes of one sample.
abbrev pub sample_size : Kind → ℕ
sample_size u8 = 1
sample_size u16 = 2
sample_size i16 = 2
sample_size f32 = 4

-- guard.rs, `MAX_DECODED_PLANE_BYTES`
abbrev pub picture_limit : ℕ
picture_limit = 4294967296

-- The bytes of a picture of the given width and height, without overflow.
abbrev pub picture_bytes : ℕ → ℕ → Kind → ℕ
picture_bytes width height k = width * height * sample_size k

-- "as is a size that overflows (requested 2^64 − 1)"
unfoldable pub unlimited_size : ℕ → ℕ → Kind → Result ℕ
unlimited_size width height k = given (oversized_allocation (2 ^ 64 - 1) picture_limit) (word (picture_bytes width height k))

-- "A picture above 4,294,967,296 bytes is OversizedAllocation"
unfoldable pub picture_size : ℕ → ℕ → Kind → Result ℕ
picture_size width height k =
    bind (unlimited_size width height k) (λ n.
    bind (need (oversized_allocation n picture_limit) (leb n picture_limit)) (λ _. accepted n))
