-- The list of a third small file, J, computed. It has what G and H haven't: a CZ block that ends just before a part of it would be read,
-- several channels, a name that is too long, a length word and strips that aren't in the file.
use Prim.Native.Nat.{ℕ, ◌*◌, ◌^◌}
use mathlib.Core.Path.{◌≡◌, refl}
use mathlib.Core.List.{List, [], ◌∷◌, ◌++◌}
use Rattle.std.specs.Prelude.{Some}
use lib.ListN.{set, replicate}
use lib.Ieee.{of_bits, of_fields, odd, lt}
use Rattle.lsm_format.specs.Answer.{Result, accepted, refused, bind}
use Rattle.lsm_format.specs.Ranges.{over, in_file, flat}
use Rattle.lsm_format.specs.Words.{word}
use Rattle.lsm_format.specs.Numbers.{little, part_at, number_at, i32_at, signed32}
use Rattle.lsm_format.specs.Sizes.{picture_size, unlimited_size}
use Rattle.lsm_format.specs.Rectangle.{Rect, coordinate, coordinates, rectangle}
use Rattle.lsm_format.specs.Scenes.{layout, scenes, pages_expected, page_of}
use Rattle.lsm_format.specs.Lent.{lend}
use Rattle.lsm_format.specs.Calibration.{Calibration, uncalibrated, sized, micrometres, z_step, calibration}
use Rattle.lsm_format.specs.CzInfo.{cz_info, header, extents, voxels, channel_block, shots, cz_ranges}
use Rattle.lsm_format.specs.Channels.{pointers, name_record, color_at_ranges, color_ranges, record_ranges, name_ranges, channels_ranges, channel_ranges}
use Rattle.lsm_format.specs.Directory.{directory, ends, entries, entry, scalar, scalar_values, array, array_values, entry_values, value_at, values_at, value_place, type_size, integer_size, entry_ranges, entries_ranges, directory_ranges}
use Rattle.lsm_format.specs.Open.{open_file, read, tiff_header, walk, chain, join, agrees, describe_walk, agreement, layout_for, describe, chain_ranges, walk_ranges, open_ranges}
use Rattle.lsm_format.specs.Picture.{place, inside, total, channel_strips, scene_there, coordinate_there, joined_size, plane_strips, in_turn, whole_strips, rows_in, whole_channel, whole_rows_of, whole_channels, whole_pages, whole_rows, row_strips, window_strips, region_strips, region_from}
use Rattle.lsm_format.specs.Listed.{strips_ranges, listed, span_ranges, sample_ranges, window_ranges, region_ranges, listed_for}

-- Little-endian, 1,460 bytes. The numbers in front are places in the file; those of the CZ block's parts are counted from its start.
abbrev J : List ℕ
J =
    -- 0: the header
    73 ∷ 73 ∷ 42 ∷ 0 ∷ 8 ∷ 0 ∷ 0 ∷ 0
    -- 8: the directory, eight entries: width 2, height 1, bits 8, strip offsets (three at 112), samples per pixel 3, strip byte counts (2, 2
    -- and 2, bytes), planar configuration 2, the CZ entry (271 bytes at 118)
    ∷ 8 ∷ 0
    ∷ 0 ∷ 1 ∷ 3 ∷ 0 ∷ 1 ∷ 0 ∷ 0 ∷ 0 ∷ 2 ∷ 0 ∷ 0 ∷ 0
    ∷ 1 ∷ 1 ∷ 3 ∷ 0 ∷ 1 ∷ 0 ∷ 0 ∷ 0 ∷ 1 ∷ 0 ∷ 0 ∷ 0
    ∷ 2 ∷ 1 ∷ 3 ∷ 0 ∷ 1 ∷ 0 ∷ 0 ∷ 0 ∷ 8 ∷ 0 ∷ 0 ∷ 0
    ∷ 17 ∷ 1 ∷ 3 ∷ 0 ∷ 3 ∷ 0 ∷ 0 ∷ 0 ∷ 112 ∷ 0 ∷ 0 ∷ 0
    ∷ 21 ∷ 1 ∷ 3 ∷ 0 ∷ 1 ∷ 0 ∷ 0 ∷ 0 ∷ 3 ∷ 0 ∷ 0 ∷ 0
    ∷ 23 ∷ 1 ∷ 1 ∷ 0 ∷ 3 ∷ 0 ∷ 0 ∷ 0 ∷ 2 ∷ 2 ∷ 2 ∷ 0
    ∷ 28 ∷ 1 ∷ 3 ∷ 0 ∷ 1 ∷ 0 ∷ 0 ∷ 0 ∷ 2 ∷ 0 ∷ 0 ∷ 0
    ∷ 108 ∷ 134 ∷ 1 ∷ 0 ∷ 15 ∷ 1 ∷ 0 ∷ 0 ∷ 118 ∷ 0 ∷ 0 ∷ 0
    ∷ 0 ∷ 0 ∷ 0 ∷ 0
    -- 110: the first channel's strip
    ∷ 7 ∷ 9
    -- 112: strip offsets: 110; 1459, the last byte of the file; 1464, past its end
    ∷ 110 ∷ 0 ∷ 179 ∷ 5 ∷ 184 ∷ 5
    -- 118: the CZ block: magic, size 271, X 2, Y 1, Z 1, channels 3, T 1
    ∷ 76 ∷ 73 ∷ 0 ∷ 4 ∷ 15 ∷ 1 ∷ 0 ∷ 0
    ∷ 2 ∷ 0 ∷ 0 ∷ 0 ∷ 1 ∷ 0 ∷ 0 ∷ 0 ∷ 1 ∷ 0 ∷ 0 ∷ 0 ∷ 3 ∷ 0 ∷ 0 ∷ 0 ∷ 1 ∷ 0 ∷ 0 ∷ 0
    -- 28 to 39 of it
    ∷ replicate 12 0
    -- 40 to 63: voxel sizes of 2^-20, 2^-21 and 2^-22
    ++ 0 ∷ 0 ∷ 0 ∷ 0 ∷ 0 ∷ 0 ∷ 176 ∷ 62
    ∷ 0 ∷ 0 ∷ 0 ∷ 0 ∷ 0 ∷ 0 ∷ 160 ∷ 62
    ∷ 0 ∷ 0 ∷ 0 ∷ 0 ∷ 0 ∷ 0 ∷ 144 ∷ 62
    -- 64 to 107
    ∷ replicate 44 0
    -- 108: the channel block at 389
    ++ 133 ∷ 1 ∷ 0 ∷ 0
    -- 112 to 263
    ∷ replicate 152 0
    -- 264: P 2, and M 1 without its last byte
    ++ 2 ∷ 0 ∷ 0 ∷ 0 ∷ 1 ∷ 0 ∷ 0
    -- 389: the channel block: 0 to 11, the colours at 20 and the names at 32
    ∷ 0 ∷ 0 ∷ 0 ∷ 0 ∷ 0 ∷ 0 ∷ 0 ∷ 0 ∷ 0 ∷ 0 ∷ 0 ∷ 0
    ∷ 20 ∷ 0 ∷ 0 ∷ 0 ∷ 32 ∷ 0 ∷ 0 ∷ 0
    -- 409: the colours, each with its fourth byte
    ∷ 255 ∷ 0 ∷ 0 ∷ 1 ∷ 0 ∷ 255 ∷ 0 ∷ 1 ∷ 0 ∷ 0 ∷ 255 ∷ 1
    -- 421: the first name, of 1,025 bytes
    ∷ 1 ∷ 4 ∷ 0 ∷ 0
    ∷ replicate 1025 110
    -- 1450: the second name, of three bytes, a trailing zero among them; then three of the four bytes of the third name's length
    ++ 3 ∷ 0 ∷ 0 ∷ 0 ∷ 68 ∷ 121 ∷ 0
    ∷ 1 ∷ 0 ∷ 0 ∷ []

-- J with another structure size in the CZ block, at most 255
abbrev J-size : ℕ → List ℕ
J-size n = set (set J 122 n) 123 0

-- ---- opening

-- what opening J reads before the CZ block; the strip offsets are out of line, the byte counts in their entry
abbrev J-directory : List (ℕ × ℕ)
J-directory = (0, 8) ∷ (8, 2) ∷ (8, 102) ∷ (18, 2) ∷ (30, 2) ∷ (42, 2) ∷ (112, 6) ∷ (66, 2) ∷ (78, 3) ∷ (90, 2) ∷ []

-- "in the CZ block used, 0 to 27", its first eight bytes first
abbrev J-head : List (ℕ × ℕ)
J-head = J-directory ++ (118, 8) ∷ (118, 28) ∷ []

-- "and where its length allows 40 to 63, 108 to 111, 264 to 271": 271 bytes have all but the last of these
abbrev J-open : List (ℕ × ℕ)
J-open = J-head ++ (158, 24) ∷ (226, 4) ∷ []

opening_lists : flat (open_ranges J) ≡ J-open
unfolding open_ranges walk_ranges chain_ranges directory_ranges entries_ranges entry_ranges cz_ranges over in_file flat tiff_header walk chain join agrees directory ends entries entry scalar scalar_values array array_values entry_values value_at values_at value_place type_size integer_size header i32_at signed32 number_at part_at bind
opening_lists = refl

-- "Files with a strip outside the file still open.": three strips, "offset then count". "below 272 both are 1": P isn't 2.
opens : bind (open_file J 6) (λ x. accepted x.table) ≡ accepted (110 ∷ 2 ∷ 1459 ∷ 2 ∷ 1464 ∷ 2 ∷ [])
unfolding open_file lend read describe_walk agreement layout_for describe cz_info extents voxels channel_block shots layout scenes pages_expected word tiff_header walk chain join agrees directory ends entries entry scalar scalar_values array array_values entry_values value_at values_at value_place type_size integer_size header i32_at signed32 number_at part_at bind
opens = refl

-- "less present than declared", "offset past the file": where its first eight bytes aren't in the file, the CZ block isn't read. It is at
-- 1453, seven bytes before the end; and at 1461.
absent_lists :
    (flat (open_ranges (set (set J 102 173) 103 5)) ≡ J-directory)
    × (flat (open_ranges (set (set J 102 181) 103 5)) ≡ J-directory)
unfolding open_ranges walk_ranges chain_ranges directory_ranges entries_ranges entry_ranges cz_ranges over in_file flat tiff_header walk chain join agrees directory ends entries entry scalar scalar_values array array_values entry_values value_at values_at value_place type_size integer_size header i32_at signed32 number_at part_at bind
absent_lists = (refl, refl)

-- ---- the channels

-- the first channel: "the first three bytes of each colour given"; "each length word reached"; of 1,025 bytes no name is given
abbrev J-first : List (ℕ × ℕ)
J-first = (401, 8) ∷ (409, 3) ∷ (421, 4) ∷ []

-- the second: both length words, and "each name given with its trailing zeros"
abbrev J-second : List (ℕ × ℕ)
J-second = (401, 8) ∷ (413, 3) ∷ (421, 4) ∷ (1450, 4) ∷ (1454, 3) ∷ []

-- the third: "each length word reached that is wholly in the file", so not the third; a name that is only passed isn't listed
abbrev J-third : List (ℕ × ℕ)
J-third = (401, 8) ∷ (417, 3) ∷ (421, 4) ∷ (1450, 4) ∷ []

channel_lists :
    (flat (channel_ranges little J (Some 389) 0) ≡ J-first)
    × (flat (channel_ranges little J (Some 389) 1) ≡ J-second)
    × (flat (channel_ranges little J (Some 389) 2) ≡ J-third)
unfolding channel_ranges pointers color_ranges color_at_ranges name_ranges record_ranges name_record over in_file flat i32_at signed32 number_at part_at bind
channel_lists = (refl, refl, refl)

name_lists :
    -- "Length 1024 is kept": the first name with one byte less
    (flat (channel_ranges little (set J 421 0) (Some 389) 0) ≡ J-first ++ (425, 1024) ∷ [])
    -- "A negative length [..] ends the names": the second's
    × (flat (channel_ranges little (set J 1453 255) (Some 389) 1) ≡ (401, 8) ∷ (413, 3) ∷ (421, 4) ∷ (1450, 4) ∷ [])
    × (flat (channel_ranges little (set J 1453 255) (Some 389) 2) ≡ J-third)
    -- "or a [..] name that passes the end of the file": one that ends there, one that passes it by a byte
    × (flat (channel_ranges little (set J 1450 6) (Some 389) 1) ≡ (401, 8) ∷ (413, 3) ∷ (421, 4) ∷ (1450, 4) ∷ (1454, 6) ∷ [])
    × (flat (channel_ranges little (set J 1450 7) (Some 389) 1) ≡ (401, 8) ∷ (413, 3) ∷ (421, 4) ∷ (1450, 4) ∷ [])
    × (flat (channel_ranges little (set J 1450 7) (Some 389) 2) ≡ J-third)
    -- "a length word [..] that passes the end of the file": the names at 1450, so that the second's length is reached on the way to the third
    × (flat (channel_ranges little (set (set J 405 37) 406 4) (Some 389) 2) ≡ (401, 8) ∷ (417, 3) ∷ (1450, 4) ∷ [])
unfolding channel_ranges pointers color_ranges color_at_ranges name_ranges record_ranges name_record over in_file flat i32_at signed32 number_at part_at bind
name_lists = (refl, refl, refl, refl, refl, refl, refl)

-- "A pointer ≤ 0 means none of that sort": that of the colours, 0 and negative; that of the names
pointer_lists :
    (flat (channel_ranges little (set J 401 0) (Some 389) 0) ≡ (401, 8) ∷ (421, 4) ∷ [])
    × (flat (channel_ranges little (set J 404 255) (Some 389) 0) ≡ (401, 8) ∷ (421, 4) ∷ [])
    × (flat (channel_ranges little (set J 405 0) (Some 389) 0) ≡ (401, 8) ∷ (409, 3) ∷ [])
    × (flat (channel_ranges little (set J 408 255) (Some 389) 0) ≡ (401, 8) ∷ (409, 3) ∷ [])
unfolding channel_ranges pointers color_ranges color_at_ranges name_ranges record_ranges name_record over in_file flat i32_at signed32 number_at part_at bind
pointer_lists = (refl, refl, refl, refl)

-- "It needs all 4 bytes in the file": the colours at 1449, so that the third lacks its fourth byte; and at 1448, so that it has it
colour_lists :
    (flat (channel_ranges little (set (set J 401 36) 402 4) (Some 389) 1) ≡ (401, 8) ∷ (1453, 3) ∷ (421, 4) ∷ (1450, 4) ∷ (1454, 3) ∷ [])
    × (flat (channel_ranges little (set (set J 401 36) 402 4) (Some 389) 2) ≡ (401, 8) ∷ (421, 4) ∷ (1450, 4) ∷ [])
    × (flat (channel_ranges little (set (set J 401 35) 402 4) (Some 389) 2) ≡ (401, 8) ∷ (1456, 3) ∷ (421, 4) ∷ (1450, 4) ∷ [])
unfolding channel_ranges pointers color_ranges color_at_ranges name_ranges record_ranges name_record over in_file flat i32_at signed32 number_at part_at bind
colour_lists = (refl, refl, refl)

-- ---- the whole list

-- with the channels, and "the in-file strips of full pages": neither the one that is partly outside the file nor the one past its end
all_lists : flat (listed J) ≡ J-open ++ J-first ++ J-second ++ J-third ++ (110, 2) ∷ []
unfolding listed strips_ranges channels_ranges channel_ranges pointers color_ranges color_at_ranges name_ranges record_ranges name_record read describe_walk agreement layout_for describe cz_info extents voxels channel_block shots layout scenes pages_expected word open_ranges walk_ranges chain_ranges directory_ranges entries_ranges entry_ranges cz_ranges over in_file flat tiff_header walk chain join agrees directory ends entries entry scalar scalar_values array array_values entry_values value_at values_at value_place type_size integer_size header i32_at signed32 number_at part_at bind
all_lists = refl

-- "where its length allows": the CZ block with other sizes. "From 64 bytes calibration is read, from 112 the channel block's offset", and so
-- the channel block.
length_lists :
    (flat (listed (J-size 60)) ≡ J-head ++ (110, 2) ∷ [])
    × (flat (listed (J-size 63)) ≡ J-head ++ (110, 2) ∷ [])
    × (flat (listed (J-size 64)) ≡ J-head ++ (158, 24) ∷ (110, 2) ∷ [])
    × (flat (listed (J-size 111)) ≡ J-head ++ (158, 24) ∷ (110, 2) ∷ [])
    × (flat (listed (J-size 112)) ≡ J-open ++ J-first ++ J-second ++ J-third ++ (110, 2) ∷ [])
unfolding listed strips_ranges channels_ranges channel_ranges pointers color_ranges color_at_ranges name_ranges record_ranges name_record read describe_walk agreement layout_for describe cz_info extents voxels channel_block shots layout scenes pages_expected word open_ranges walk_ranges chain_ranges directory_ranges entries_ranges entry_ranges cz_ranges over in_file flat tiff_header walk chain join agrees directory ends entries entry scalar scalar_values array array_values entry_values value_at values_at value_place type_size integer_size header i32_at signed32 number_at part_at bind
length_lists = (refl, refl, refl, refl, refl)

-- what opening says of the voxel sizes
abbrev sizes : List ℕ → Result Calibration
sizes f = bind (open_file f 6) (λ x. accepted x.description.calibration)

-- "From 64 bytes calibration is read": 1003, 1002 and 1001 are the exponents of the voxel sizes, with 1023 added
voxel_sizes :
    (sizes (J-size 63) ≡ accepted uncalibrated)
    × (sizes (J-size 64) ≡ accepted (sized (micrometres (1003 * 2 ^ 52)) (micrometres (1002 * 2 ^ 52)) (z_step (micrometres (1001 * 2 ^ 52)))))
unfolding open_file lend calibration of_bits of_fields odd lt read describe_walk agreement layout_for describe cz_info extents voxels channel_block shots layout scenes pages_expected word tiff_header walk chain join agrees directory ends entries entry scalar scalar_values array array_values entry_values value_at values_at value_place type_size integer_size header i32_at signed32 number_at part_at bind
voxel_sizes = (refl, refl)

-- J with a CZ block of 272 bytes, size and declared: the channel block's first byte is M's last
abbrev J-272 : List ℕ
J-272 = set (set J 98 16) 122 16

-- "from 272 P and M": they are listed, and two scenes of one page aren't there
shots_list :
    (flat (listed J-272) ≡ J-open ++ (382, 8) ∷ [])
    × (open_file J-272 6 ≡ refused (2 ∷ []))
unfolding open_file lend listed strips_ranges channels_ranges channel_ranges pointers color_ranges color_at_ranges name_ranges record_ranges name_record read describe_walk agreement layout_for describe cz_info extents voxels channel_block shots layout scenes pages_expected word open_ranges walk_ranges chain_ranges directory_ranges entries_ranges entry_ranges cz_ranges over in_file flat tiff_header walk chain join agrees directory ends entries entry scalar scalar_values array array_values entry_values value_at values_at value_place type_size integer_size header i32_at signed32 number_at part_at bind
shots_list = (refl, refl)

-- "A structure size ≤ 0 means the declared length, otherwise the smaller of the two": size 0; size 272 and declared 271; size 271 and
-- declared 272
smaller_lists :
    (flat (open_ranges (J-size 0)) ≡ J-open)
    × (flat (open_ranges (set J 122 16)) ≡ J-open)
    × (flat (open_ranges (set J 98 16)) ≡ J-open)
unfolding open_ranges walk_ranges chain_ranges directory_ranges entries_ranges entry_ranges cz_ranges over in_file flat tiff_header walk chain join agrees directory ends entries entry scalar scalar_values array array_values entry_values value_at values_at value_place type_size integer_size header i32_at signed32 number_at part_at bind
smaller_lists = (refl, refl, refl)

-- "in the channel block 12 to 19 where all eight are in the file": a channel block at 1441, of whose pointers the second lacks its last byte
block_lists : flat (listed (set (set J 226 161) 227 5)) ≡ J-open ++ (110, 2) ∷ []
unfolding listed strips_ranges channels_ranges channel_ranges pointers color_ranges color_at_ranges name_ranges record_ranges name_record read describe_walk agreement layout_for describe cz_info extents voxels channel_block shots layout scenes pages_expected word open_ranges walk_ranges chain_ranges directory_ranges entries_ranges entry_ranges cz_ranges over in_file flat tiff_header walk chain join agrees directory ends entries entry scalar scalar_values array array_values entry_values value_at values_at value_place type_size integer_size header i32_at signed32 number_at part_at bind
block_lists = refl

-- ---- one rectangle

-- the second column
abbrev column : Rect
column = record { x = 1; y = 0; w = 1; h = 1 }

rectangle_lists :
    -- "of the strips only the places of its samples": in the first channel's strip
    (flat (listed_for J (coordinate 0 0 0 0) column) ≡ J-open ++ (111, 1) ∷ [])
    -- "none if it isn't accepted": the second channel's strip is partly outside the file, the third's wholly
    × (flat (listed_for J (coordinate 0 0 1 0) column) ≡ J-open)
    × (flat (listed_for J (coordinate 0 0 2 0) column) ≡ J-open)
unfolding listed_for region_ranges region_from window_ranges sample_ranges span_ranges place scene_there coordinate_there coordinates rectangle region_strips joined_size plane_strips in_turn total whole_rows whole_pages whole_channels whole_channel whole_rows_of whole_strips rows_in row_strips window_strips picture_size unlimited_size channel_strips page_of inside read describe_walk agreement layout_for describe cz_info extents voxels channel_block shots layout scenes pages_expected word open_ranges walk_ranges chain_ranges directory_ranges entries_ranges entry_ranges cz_ranges over in_file flat tiff_header walk chain join agrees directory ends entries entry scalar scalar_values array array_values entry_values value_at values_at value_place type_size integer_size header i32_at signed32 number_at part_at bind
rectangle_lists = (refl, refl, refl)
