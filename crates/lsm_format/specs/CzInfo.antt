-- The CZ-LSM-Info block (lsm_cz_info.rs; CZ-LSMINFO, whose field names stand beside the offsets).
use Rattle.std.specs.Prelude.{ℕ, zero, suc, ◌+◌, ◌-◌, min, Bool, true, false, ◌&&◌, List, leb, eqb, ℤ, pos, negsuc, length, Option, None}
use Rattle.lsm_format.specs.Answer.{Result, accepted, bind, need, decode, unsupported}
use Rattle.lsm_format.specs.Ranges.{Ranges, nothing, at, both, over, in_file}
use Rattle.lsm_format.specs.Numbers.{Order, positive_of, i32_at, f64_bits_at}
use Rattle.lsm_format.specs.Calibration.{Calibration, uncalibrated, calibration}

-- What the block states: DimensionX, Y, Z, Channels and Time; DimensionP and M; the channel block's place; the calibration.
pub record CzInfo : Type 0 where
  pub dim_x : ℕ
  pub dim_y : ℕ
  pub dim_z : ℕ
  pub dim_channels : ℕ
  pub dim_time : ℕ
  pub dim_p : ℤ
  pub dim_m : ℤ
  pub channel_colors : Option ℕ
  pub calibration : Calibration

-- "magic not hex 0400494C" (MagicNumber)
abbrev pub is_magic : ℤ → Bool
is_magic (pos n) = eqb n 0x0400494C
is_magic (negsuc n) = false

-- "A structure size ≤ 0 means the declared length, otherwise the smaller of the two."
abbrev pub block_length : ℕ → ℤ → ℕ
block_length declared (pos zero) = declared
block_length declared (pos (suc n)) = min declared (suc n)
block_length declared (negsuc n) = declared

-- "Checks in order: offset past the file; declared under 8; less present than declared; magic [..] (all Decode). [..] Under 28 is
-- Decode." The block's length.
unfoldable pub header : Order → List ℕ → ℕ → ℕ → Result ℕ
header o f block declared =
    bind (need decode (leb block (length f))) (λ _.
    bind (need decode (leb 8 declared)) (λ _.
    bind (need decode (leb declared (length f - block))) (λ _.
    bind (i32_at o f block) (λ magic.
    bind (need decode (is_magic magic)) (λ _.
    bind (i32_at o f (block + 4)) (λ size.
    bind (need decode (leb 28 (block_length declared size))) (λ _. accepted (block_length declared size))))))))

-- The five dimensions.
pub record Extents : Type 0 where
  pub x : ℤ
  pub y : ℤ
  pub z : ℤ
  pub channels : ℤ
  pub time : ℤ

-- DimensionX at 8, DimensionY at 12, DimensionZ at 16, DimensionChannels at 20, DimensionTime at 24
unfoldable pub extents : Order → List ℕ → ℕ → Result Extents
extents o f block =
    bind (i32_at o f (block + 8)) (λ x.
    bind (i32_at o f (block + 12)) (λ y.
    bind (i32_at o f (block + 16)) (λ z.
    bind (i32_at o f (block + 20)) (λ channels.
    bind (i32_at o f (block + 24)) (λ time.
    accepted (record { x = x; y = y; z = z; channels = channels; time = time }))))))

-- a number above 0; one that is not below 0; the number that either of them is
abbrev pub positive : ℤ → Bool
positive (pos zero) = false
positive (pos (suc n)) = true
positive (negsuc n) = false

abbrev pub natural : ℤ → Bool
natural (pos n) = true
natural (negsuc n) = false

abbrev pub size : ℤ → ℕ
size (pos n) = n
size (negsuc n) = 0

-- "X, Y, channels ≤ 0 or Z, T < 0 is Unsupported."
abbrev pub stated : Extents → Bool
stated d = positive d.x && positive d.y && natural d.z && positive d.channels && natural d.time

-- "From 64 bytes calibration is read": VoxelSizeX at 40, VoxelSizeY at 48, VoxelSizeZ at 56.
unfoldable pub voxels : Order → List ℕ → ℕ → Result Calibration
voxels o f block =
    bind (f64_bits_at o f (block + 40)) (λ x.
    bind (f64_bits_at o f (block + 48)) (λ y.
    bind (f64_bits_at o f (block + 56)) (λ z. accepted (calibration x y z))))

-- "the channel block's offset (≤ 0 is none)"
abbrev pub block_place : ℤ → Option ℕ
block_place n = positive_of n

-- "from 112 the channel block's offset": OffsetChannelColors at 108.
unfoldable pub channel_block : Order → List ℕ → ℕ → Result (Option ℕ)
channel_block o f block = bind (i32_at o f (block + 108)) (λ n. accepted (block_place n))

-- "from 272 P and M": DimensionP at 264, DimensionM at 268.
unfoldable pub shots : Order → List ℕ → ℕ → Result (ℤ × ℤ)
shots o f block = bind (i32_at o f (block + 264)) (λ p. bind (i32_at o f (block + 268)) (λ m. accepted (p, m)))

-- A part of the block that is read from some length on, and what stands for it in a shorter block.
abbrev pub from : {A : Type 0} → Bool → Result A → A → Result A
from true read other = read
from false read other = accepted other

-- "below 272 both are 1"
unfoldable pub cz_info : Order → List ℕ → ℕ → ℕ → Result CzInfo
cz_info o f block declared =
    bind (header o f block declared) (λ n.
    bind (extents o f block) (λ d.
    bind (need unsupported (stated d)) (λ _.
    bind (from (leb 64 n) (voxels o f block) uncalibrated) (λ sizes.
    bind (from (leb 112 n) (channel_block o f block) None) (λ colors.
    bind (from (leb 272 n) (shots o f block) (pos 1, pos 1)) (λ pm.
    accepted (record {
      dim_x = size d.x;
      dim_y = size d.y;
      dim_z = size d.z;
      dim_channels = size d.channels;
      dim_time = size d.time;
      dim_p = pm.0;
      dim_m = pm.1;
      channel_colors = colors;
      calibration = sizes;
    })))))))

-- "in the CZ block used, 0 to 27, and where its length allows 40 to 63, 108 to 111, 264 to 271". The first eight decide alone
-- how long it is.
abbrev pub range_from : Bool → ℕ → ℕ → Ranges
range_from true start count = at start count
range_from false start count = nothing

unfoldable pub cz_ranges : Order → List ℕ → ℕ → ℕ → Ranges
cz_ranges o f block declared =
    both (in_file f block 8)
    (over (header o f block declared) (λ n.
    both (at block 28)
    (both (range_from (leb 64 n) (block + 40) 24)
    (both (range_from (leb 112 n) (block + 108) 4) (range_from (leb 272 n) (block + 264) 8)))))
