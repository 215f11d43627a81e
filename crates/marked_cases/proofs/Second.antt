-- The list of a second small file, H, computed. It has what G hasn't: a scalar and strip arrays out of line, a repeated tag, a CZ
-- block of 272 bytes, a channel block, a reduced page.
use Prim.Native.Nat.{ℕ}
use mathlib.Core.Path.{◌≡◌, refl}
use mathlib.Core.List.{List, [], ◌∷◌, ◌++◌}
use Rattle.lsm_format.specs.Answer.{bind}
use Rattle.lsm_format.specs.Ranges.{over, in_file, flat}
use Rattle.lsm_format.specs.Words.{word}
use Rattle.lsm_format.specs.Numbers.{part_at, number_at, i32_at, signed32}
use Rattle.lsm_format.specs.Sizes.{picture_size, unlimited_size}
use Rattle.lsm_format.specs.Rectangle.{Rect, coordinate, coordinates, rectangle}
use Rattle.lsm_format.specs.Scenes.{layout, scenes, pages_expected, page_of}
use Rattle.lsm_format.specs.CzInfo.{cz_info, header, extents, voxels, channel_block, shots, cz_ranges}
use Rattle.lsm_format.specs.Channels.{pointers, name_record, color_at_ranges, color_ranges, record_ranges, name_ranges, channels_ranges, channel_ranges}
use Rattle.lsm_format.specs.Directory.{directory, ends, entries, entry, scalar, scalar_values, array, array_values, entry_values, value_at, values_at, value_place, type_size, integer_size, entry_ranges, entries_ranges, directory_ranges}
use Rattle.lsm_format.specs.Open.{read, tiff_header, walk, chain, join, agrees, describe_walk, agreement, layout_for, describe, chain_ranges, walk_ranges, open_ranges}
use Rattle.lsm_format.specs.Picture.{place, inside, total, channel_strips, scene_there, coordinate_there, joined_size, plane_strips, in_turn, whole_strips, rows_in, whole_channel, whole_rows_of, whole_channels, whole_pages, whole_rows, row_strips, window_strips, region_strips, region_from}
use Rattle.lsm_format.specs.Listed.{strips_ranges, listed, span_ranges, sample_ranges, window_ranges, region_ranges, listed_for}

-- Little-endian, 480 bytes. The numbers in front are places in the file; those of the CZ block's parts are counted from its start.
abbrev H : List ℕ
H =
    -- 0: the header
    73 ∷ 73 ∷ 42 ∷ 0 ∷ 8 ∷ 0 ∷ 0 ∷ 0
    -- 8: the full page's directory, seven entries: width 2, height 2, bits (three values at 144), bits again (8, which wins), strip
    -- offsets (two at 152), strip byte counts (two at 160), the CZ entry; the next directory at 100
    ∷ 7 ∷ 0
    ∷ 0 ∷ 1 ∷ 3 ∷ 0 ∷ 1 ∷ 0 ∷ 0 ∷ 0 ∷ 2 ∷ 0 ∷ 0 ∷ 0
    ∷ 1 ∷ 1 ∷ 3 ∷ 0 ∷ 1 ∷ 0 ∷ 0 ∷ 0 ∷ 2 ∷ 0 ∷ 0 ∷ 0
    ∷ 2 ∷ 1 ∷ 3 ∷ 0 ∷ 3 ∷ 0 ∷ 0 ∷ 0 ∷ 144 ∷ 0 ∷ 0 ∷ 0
    ∷ 2 ∷ 1 ∷ 3 ∷ 0 ∷ 1 ∷ 0 ∷ 0 ∷ 0 ∷ 8 ∷ 0 ∷ 0 ∷ 0
    ∷ 17 ∷ 1 ∷ 4 ∷ 0 ∷ 2 ∷ 0 ∷ 0 ∷ 0 ∷ 152 ∷ 0 ∷ 0 ∷ 0
    ∷ 23 ∷ 1 ∷ 4 ∷ 0 ∷ 2 ∷ 0 ∷ 0 ∷ 0 ∷ 160 ∷ 0 ∷ 0 ∷ 0
    ∷ 108 ∷ 134 ∷ 1 ∷ 0 ∷ 16 ∷ 1 ∷ 0 ∷ 0 ∷ 168 ∷ 0 ∷ 0 ∷ 0
    ∷ 100 ∷ 0 ∷ 0 ∷ 0
    -- 98: spare
    ∷ 0 ∷ 0
    -- 100: a reduced page's directory, three entries: subfile type 1, its strip at 479, of one byte
    ∷ 3 ∷ 0
    ∷ 254 ∷ 0 ∷ 4 ∷ 0 ∷ 1 ∷ 0 ∷ 0 ∷ 0 ∷ 1 ∷ 0 ∷ 0 ∷ 0
    ∷ 17 ∷ 1 ∷ 3 ∷ 0 ∷ 1 ∷ 0 ∷ 0 ∷ 0 ∷ 223 ∷ 1 ∷ 0 ∷ 0
    ∷ 23 ∷ 1 ∷ 3 ∷ 0 ∷ 1 ∷ 0 ∷ 0 ∷ 0 ∷ 1 ∷ 0 ∷ 0 ∷ 0
    ∷ 0 ∷ 0 ∷ 0 ∷ 0
    -- 142: spare
    ∷ 0 ∷ 0
    -- 144: bits, three values of 16; then two spare bytes
    ∷ 16 ∷ 0 ∷ 16 ∷ 0 ∷ 16 ∷ 0 ∷ 0 ∷ 0
    -- 152: strip offsets
    ∷ 218 ∷ 1 ∷ 0 ∷ 0 ∷ 222 ∷ 1 ∷ 0 ∷ 0
    -- 160: strip byte counts
    ∷ 3 ∷ 0 ∷ 0 ∷ 0 ∷ 1 ∷ 0 ∷ 0 ∷ 0
    -- 168: the CZ block: magic, size 272, X 2, Y 2, Z 1, channels 1, T 1
    ∷ 76 ∷ 73 ∷ 0 ∷ 4 ∷ 16 ∷ 1 ∷ 0 ∷ 0
    ∷ 2 ∷ 0 ∷ 0 ∷ 0 ∷ 2 ∷ 0 ∷ 0 ∷ 0 ∷ 1 ∷ 0 ∷ 0 ∷ 0 ∷ 1 ∷ 0 ∷ 0 ∷ 0 ∷ 1 ∷ 0 ∷ 0 ∷ 0
    -- 28 to 39 of it
    ∷ 0 ∷ 0 ∷ 0 ∷ 0 ∷ 0 ∷ 0 ∷ 0 ∷ 0 ∷ 0 ∷ 0 ∷ 0 ∷ 0
    -- 40 to 63: voxel sizes of 1e-6
    ∷ 141 ∷ 237 ∷ 181 ∷ 160 ∷ 247 ∷ 198 ∷ 176 ∷ 62
    ∷ 141 ∷ 237 ∷ 181 ∷ 160 ∷ 247 ∷ 198 ∷ 176 ∷ 62
    ∷ 141 ∷ 237 ∷ 181 ∷ 160 ∷ 247 ∷ 198 ∷ 176 ∷ 62
    -- 64 to 107
    ∷ 0 ∷ 0 ∷ 0 ∷ 0 ∷ 0 ∷ 0 ∷ 0 ∷ 0 ∷ 0 ∷ 0 ∷ 0 ∷ 0 ∷ 0 ∷ 0 ∷ 0 ∷ 0 ∷ 0 ∷ 0 ∷ 0 ∷ 0 ∷ 0 ∷ 0
    ∷ 0 ∷ 0 ∷ 0 ∷ 0 ∷ 0 ∷ 0 ∷ 0 ∷ 0 ∷ 0 ∷ 0 ∷ 0 ∷ 0 ∷ 0 ∷ 0 ∷ 0 ∷ 0 ∷ 0 ∷ 0 ∷ 0 ∷ 0 ∷ 0 ∷ 0
    -- 108: the channel block at 440
    ∷ 184 ∷ 1 ∷ 0 ∷ 0
    -- 112 to 263
    ∷ 0 ∷ 0 ∷ 0 ∷ 0 ∷ 0 ∷ 0 ∷ 0 ∷ 0 ∷ 0 ∷ 0 ∷ 0 ∷ 0 ∷ 0 ∷ 0 ∷ 0 ∷ 0 ∷ 0 ∷ 0 ∷ 0 ∷ 0 ∷ 0 ∷ 0 ∷ 0 ∷ 0 ∷ 0 ∷ 0 ∷ 0 ∷ 0 ∷ 0 ∷ 0 ∷ 0 ∷ 0 ∷ 0 ∷ 0 ∷ 0 ∷ 0 ∷ 0 ∷ 0
    ∷ 0 ∷ 0 ∷ 0 ∷ 0 ∷ 0 ∷ 0 ∷ 0 ∷ 0 ∷ 0 ∷ 0 ∷ 0 ∷ 0 ∷ 0 ∷ 0 ∷ 0 ∷ 0 ∷ 0 ∷ 0 ∷ 0 ∷ 0 ∷ 0 ∷ 0 ∷ 0 ∷ 0 ∷ 0 ∷ 0 ∷ 0 ∷ 0 ∷ 0 ∷ 0 ∷ 0 ∷ 0 ∷ 0 ∷ 0 ∷ 0 ∷ 0 ∷ 0 ∷ 0
    ∷ 0 ∷ 0 ∷ 0 ∷ 0 ∷ 0 ∷ 0 ∷ 0 ∷ 0 ∷ 0 ∷ 0 ∷ 0 ∷ 0 ∷ 0 ∷ 0 ∷ 0 ∷ 0 ∷ 0 ∷ 0 ∷ 0 ∷ 0 ∷ 0 ∷ 0 ∷ 0 ∷ 0 ∷ 0 ∷ 0 ∷ 0 ∷ 0 ∷ 0 ∷ 0 ∷ 0 ∷ 0 ∷ 0 ∷ 0 ∷ 0 ∷ 0 ∷ 0 ∷ 0
    ∷ 0 ∷ 0 ∷ 0 ∷ 0 ∷ 0 ∷ 0 ∷ 0 ∷ 0 ∷ 0 ∷ 0 ∷ 0 ∷ 0 ∷ 0 ∷ 0 ∷ 0 ∷ 0 ∷ 0 ∷ 0 ∷ 0 ∷ 0 ∷ 0 ∷ 0 ∷ 0 ∷ 0 ∷ 0 ∷ 0 ∷ 0 ∷ 0 ∷ 0 ∷ 0 ∷ 0 ∷ 0 ∷ 0 ∷ 0 ∷ 0 ∷ 0 ∷ 0 ∷ 0
    -- 264: P 1, M 1
    ∷ 1 ∷ 0 ∷ 0 ∷ 0 ∷ 1 ∷ 0 ∷ 0 ∷ 0
    -- 440: the channel block: 0 to 11, the colours at 20 and the names at 24
    ∷ 0 ∷ 0 ∷ 0 ∷ 0 ∷ 0 ∷ 0 ∷ 0 ∷ 0 ∷ 0 ∷ 0 ∷ 0 ∷ 0
    ∷ 20 ∷ 0 ∷ 0 ∷ 0 ∷ 24 ∷ 0 ∷ 0 ∷ 0
    -- 460: the colour, and its fourth byte
    ∷ 255 ∷ 128 ∷ 64 ∷ 1
    -- 464: the name of five bytes, two trailing zeros among them; then a spare byte
    ∷ 5 ∷ 0 ∷ 0 ∷ 0 ∷ 68 ∷ 121 ∷ 101 ∷ 0 ∷ 0
    ∷ 0
    -- 474: the first strip; then a spare byte
    ∷ 1 ∷ 2 ∷ 3 ∷ 0
    -- 478: the second strip; then the reduced page's
    ∷ 4 ∷ 5 ∷ []

-- what opening H reads
abbrev H-open : List (ℕ × ℕ)
H-open =
    -- "The 8-byte header"
    (0, 8)
    -- "each visited directory, from its count to the last byte of its next pointer": the count first, then all of it
    ∷ (8, 2) ∷ (8, 90)
    -- width and height, each in its entry
    ∷ (18, 2) ∷ (30, 2)
    -- "out of line, the first value of each entry of a scalar tag the reader uses": of the three values of bits, one
    ∷ (144, 2)
    -- "also where a repeated tag's later entry wins": that entry
    ∷ (54, 2)
    -- "and all values of strip arrays"
    ∷ (152, 8) ∷ (160, 8)
    -- the reduced page's directory, and its scalar and strip arrays, each in its entry
    ∷ (100, 2) ∷ (100, 42) ∷ (110, 4) ∷ (122, 2) ∷ (134, 2)
    -- "in the CZ block used, 0 to 27", its first eight bytes first
    ∷ (168, 8) ∷ (168, 28)
    -- "and where its length allows 40 to 63, 108 to 111, 264 to 271"
    ∷ (208, 24) ∷ (276, 4) ∷ (432, 8) ∷ []

-- what the whole list has besides
abbrev H-rest : List (ℕ × ℕ)
H-rest =
    -- "in the channel block 12 to 19 where all eight are in the file"
    (452, 8)
    -- "the first three bytes of each colour given"
    ∷ (460, 3)
    -- "each length word reached that is wholly in the file"
    ∷ (464, 4)
    -- "each name given with its trailing zeros"
    ∷ (468, 5)
    -- "the in-file strips of full pages": not the reduced page's, at 479
    ∷ (474, 3) ∷ (478, 1) ∷ []

opening_lists : flat (open_ranges H) ≡ H-open
unfolding open_ranges walk_ranges chain_ranges directory_ranges entries_ranges entry_ranges cz_ranges over in_file flat tiff_header walk chain join agrees directory ends entries entry scalar scalar_values array array_values entry_values value_at values_at value_place type_size integer_size header i32_at signed32 number_at part_at bind
opening_lists = refl

all_lists : flat (listed H) ≡ H-open ++ H-rest
unfolding listed strips_ranges channels_ranges channel_ranges pointers color_ranges color_at_ranges name_ranges record_ranges name_record read describe_walk agreement layout_for describe cz_info extents voxels channel_block shots layout scenes pages_expected word open_ranges walk_ranges chain_ranges directory_ranges entries_ranges entry_ranges cz_ranges over in_file flat tiff_header walk chain join agrees directory ends entries entry scalar scalar_values array array_values entry_values value_at values_at value_place type_size integer_size header i32_at signed32 number_at part_at bind
all_lists = refl

-- the second row, which the two strips share
abbrev row : Rect
row = record { x = 0; y = 1; w = 2; h = 1 }

-- "For one rectangle, of the strips only the places of its samples in the channel's joined strips": the last byte of the first strip, and
-- the second strip. None of the channel block.
row_lists : flat (listed_for H (coordinate 0 0 0 0) row) ≡ H-open ++ (476, 1) ∷ (478, 1) ∷ []
unfolding listed_for region_ranges region_from window_ranges sample_ranges span_ranges place scene_there coordinate_there coordinates rectangle region_strips joined_size plane_strips in_turn total whole_rows whole_pages whole_channels whole_channel whole_rows_of whole_strips rows_in row_strips window_strips picture_size unlimited_size channel_strips page_of inside read describe_walk agreement layout_for describe cz_info extents voxels channel_block shots layout scenes pages_expected word open_ranges walk_ranges chain_ranges directory_ranges entries_ranges entry_ranges cz_ranges over in_file flat tiff_header walk chain join agrees directory ends entries entry scalar scalar_values array array_values entry_values value_at values_at value_place type_size integer_size header i32_at signed32 number_at part_at bind
row_lists = refl
