-- The list of the small file G, computed; and what a header, an entry and a directory add to a list.
use Prim.Native.Nat.{ℕ}
use mathlib.Core.Path.{◌≡◌, refl}
use mathlib.Core.Bool.{false}
use mathlib.Core.List.{List, [], ◌∷◌, ◌++◌}
use lib.Dec.{eqb}
use lib.ListN.{take, set, replicate}
use Rattle.lsm_format.specs.Answer.{bind}
use Rattle.lsm_format.specs.Ranges.{over, in_file, flat}
use Rattle.lsm_format.specs.Words.{word}
use Rattle.lsm_format.specs.Numbers.{Order, little, part_at, number_at, u32_at, i32_at, signed32}
use Rattle.lsm_format.specs.Sizes.{picture_size, unlimited_size}
use Rattle.lsm_format.specs.Rectangle.{Rect, coordinate, coordinates, rectangle}
use Rattle.lsm_format.specs.Scenes.{layout, scenes, pages_expected, page_of}
use Rattle.lsm_format.specs.CzInfo.{cz_info, header, extents, voxels, channel_block, shots, cz_ranges}
use Rattle.lsm_format.specs.Channels.{channels_ranges, channel_ranges}
use Rattle.lsm_format.specs.Directory.{directory, ends, entries, entry, scalar, scalar_values, array, array_values, entry_values, value_at, values_at, value_place, type_size, integer_size, entry_ranges, entries_ranges, directory_ranges}
use Rattle.lsm_format.specs.Open.{read, tiff_header, start, walk, chain, join, agrees, describe_walk, agreement, layout_for, describe, chain_ranges, walk_ranges, open_ranges}
use Rattle.lsm_format.specs.Picture.{total, place, inside, channel_strips, scene_there, coordinate_there, whole_strips, rows_in, whole_channel, whole_rows_of, whole_channels, whole_pages, whole_rows, row_strips, window_strips, region_strips, region_from}
use Rattle.lsm_format.specs.Listed.{strips_ranges, listed, span_ranges, sample_ranges, window_ranges, region_ranges, listed_for}
use Rattle.marked_cases.specs.Marked.{G}
use Rattle.marked_cases.proofs.Table.{bare, two}

-- ---- the list

-- what opening G reads: the header; the directory, its count first; the scalars and strip arrays, each in its entry; the CZ block, its first
-- eight bytes first
abbrev pub G-open : List (ℕ × ℕ)
G-open =
    (0, 8) ∷ (8, 2) ∷ (8, 78) ∷ (18, 2) ∷ (30, 2) ∷ (42, 2) ∷ (54, 2) ∷ (66, 2) ∷ (88, 8) ∷ (88, 28) ∷ []

-- "G's rectangle at column 1, 1 by 1"
abbrev pub second : Rect
second = record { x = 1; y = 0; w = 1; h = 1 }

pub opening_lists : flat (open_ranges G) ≡ G-open
unfolding open_ranges walk_ranges chain_ranges directory_ranges entries_ranges entry_ranges cz_ranges over in_file flat tiff_header walk chain join agrees directory ends entries entry scalar scalar_values array array_values entry_values value_at values_at value_place type_size integer_size header i32_at signed32 number_at part_at bind
opening_lists = refl

-- with G's strip; 86 and 87 are spare
pub all_lists : flat (listed G) ≡ G-open ++ (116, 2) ∷ []
unfolding listed strips_ranges channels_ranges channel_ranges open_ranges read describe_walk agreement layout_for describe cz_info extents voxels channel_block shots layout scenes pages_expected word walk_ranges chain_ranges directory_ranges entries_ranges entry_ranges cz_ranges over in_file flat tiff_header walk chain join agrees directory ends entries entry scalar scalar_values array array_values entry_values value_at values_at value_place type_size integer_size header i32_at signed32 number_at part_at bind
all_lists = refl

-- "of the strips only the places of its samples in the channel's joined strips": "byte 117", and not 116
pub second_lists : flat (listed_for G (coordinate 0 0 0 0) second) ≡ G-open ++ (117, 1) ∷ []
unfolding listed_for region_ranges region_from window_ranges sample_ranges span_ranges place scene_there coordinate_there coordinates rectangle region_strips whole_rows whole_pages whole_channels whole_channel whole_rows_of whole_strips rows_in row_strips window_strips total picture_size unlimited_size channel_strips page_of inside open_ranges read describe_walk agreement layout_for describe cz_info extents voxels channel_block shots layout scenes pages_expected word walk_ranges chain_ranges directory_ranges entries_ranges entry_ranges cz_ranges over in_file flat tiff_header walk chain join agrees directory ends entries entry scalar scalar_values array array_values entry_values value_at values_at value_place type_size integer_size header i32_at signed32 number_at part_at bind
second_lists = refl

-- "none if it isn't accepted": a rectangle that passes the picture; and none of an empty one
passing_lists : flat (listed_for G (coordinate 0 0 0 0) (record { x = 1; y = 0; w = 2; h = 1 })) ≡ G-open
unfolding listed_for region_ranges region_from window_ranges sample_ranges span_ranges place scene_there coordinate_there coordinates rectangle region_strips whole_rows whole_pages whole_channels whole_channel whole_rows_of whole_strips rows_in row_strips window_strips total picture_size unlimited_size channel_strips page_of inside open_ranges read describe_walk agreement layout_for describe cz_info extents voxels channel_block shots layout scenes pages_expected word walk_ranges chain_ranges directory_ranges entries_ranges entry_ranges cz_ranges over in_file flat tiff_header walk chain join agrees directory ends entries entry scalar scalar_values array array_values entry_values value_at values_at value_place type_size integer_size header i32_at signed32 number_at part_at bind
passing_lists = refl

empty_lists : flat (listed_for G (coordinate 0 0 0 0) (record { x = 1; y = 0; w = 0; h = 1 })) ≡ G-open
unfolding listed_for region_ranges region_from window_ranges sample_ranges span_ranges place scene_there coordinate_there coordinates rectangle region_strips whole_rows whole_pages whole_channels whole_channel whole_rows_of whole_strips rows_in row_strips window_strips total picture_size unlimited_size channel_strips page_of inside open_ranges read describe_walk agreement layout_for describe cz_info extents voxels channel_block shots layout scenes pages_expected word walk_ranges chain_ranges directory_ranges entries_ranges entry_ranges cz_ranges over in_file flat tiff_header walk chain join agrees directory ends entries entry scalar scalar_values array array_values entry_values value_at values_at value_place type_size integer_size header i32_at signed32 number_at part_at bind
empty_lists = refl

-- ---- the header

-- "The 8-byte header"; "Under 8 bytes" there is none
header_lists :
    (flat (open_ranges bare) ≡ (0, 8) ∷ [])
    × (flat (open_ranges (take 7 bare)) ≡ [])
    -- "magic other than 42": nothing behind the header is read
    × (flat (open_ranges (set G 2 43)) ≡ (0, 8) ∷ [])
unfolding open_ranges walk_ranges chain_ranges over in_file flat tiff_header walk chain number_at part_at bind
header_lists = (refl, refl, refl)

-- ---- an entry

-- an entry of type and count, its tag in two bytes, its value or its offset; eight bytes behind it
abbrev entry_of : ℕ → ℕ → ℕ → ℕ → ℕ → List ℕ
entry_of low high type count value =
    low ∷ high ∷ type ∷ 0 ∷ count ∷ 0 ∷ 0 ∷ 0 ∷ value ∷ 0 ∷ 0 ∷ 0 ∷ 1 ∷ 0 ∷ 1 ∷ 0 ∷ 1 ∷ 0 ∷ 1 ∷ 0 ∷ []

entry_lists :
    -- "out of line, the first value of each entry of a scalar tag": bits, of three values
    (flat (entry_ranges little (entry_of 2 1 3 3 12) 0) ≡ (12, 2) ∷ [])
    -- where it is in the file; "a scalar with count 0", or of a type that isn't read
    × (flat (entry_ranges little (entry_of 2 1 3 3 19) 0) ≡ [])
    × (flat (entry_ranges little (entry_of 2 1 3 0 12) 0) ≡ [])
    × (flat (entry_ranges little (entry_of 2 1 5 1 12) 0) ≡ [])
    -- "the reader uses": not of tag 280
    × (flat (entry_ranges little (entry_of 24 1 3 3 12) 0) ≡ [])
    -- "and all values of strip arrays": three offsets, three byte counts; one value more than the file has
    × (flat (entry_ranges little (entry_of 17 1 3 3 12) 0) ≡ (12, 6) ∷ [])
    × (flat (entry_ranges little (entry_of 23 1 3 3 12) 0) ≡ (12, 6) ∷ [])
    × (flat (entry_ranges little (entry_of 17 1 3 5 12) 0) ≡ [])
    -- the CZ entry: the block is read only once all directories are
    × (flat (entry_ranges little (entry_of 108 134 1 8 12) 0) ≡ [])
unfolding entry_ranges over in_file flat scalar_values array_values entry_values value_place type_size integer_size number_at part_at bind
entry_lists = (refl, refl, refl, refl, refl, refl, refl, refl, refl)

-- "100,000 strips pass, 100,001 are Decode": so many bytes behind an entry of so many strip offsets
array_lists :
    (flat (entry_ranges little (17 ∷ 1 ∷ 1 ∷ 0 ∷ 160 ∷ 134 ∷ 1 ∷ 0 ∷ 12 ∷ 0 ∷ 0 ∷ 0 ∷ replicate 100001 0) 0) ≡ (12, 100000) ∷ [])
    × (flat (entry_ranges little (17 ∷ 1 ∷ 1 ∷ 0 ∷ 161 ∷ 134 ∷ 1 ∷ 0 ∷ 12 ∷ 0 ∷ 0 ∷ 0 ∷ replicate 100001 0) 0) ≡ [])
unfolding entry_ranges over in_file flat array_values entry_values value_place type_size integer_size number_at part_at bind
array_lists = (refl, refl)

-- ---- each visited directory

-- "from its count to the last byte of its next pointer": of no entries; without the pointer's last byte; without the count's
directory_lists :
    (flat (directory_ranges little (0 ∷ 0 ∷ 0 ∷ 0 ∷ 0 ∷ 0 ∷ []) 0) ≡ (0, 2) ∷ (0, 6) ∷ [])
    × (flat (directory_ranges little (0 ∷ 0 ∷ 0 ∷ 0 ∷ 0 ∷ []) 0) ≡ (0, 2) ∷ [])
    × (flat (directory_ranges little (0 ∷ []) 0) ≡ [])
unfolding directory_ranges entries_ranges over in_file flat number_at part_at bind
directory_lists = (refl, refl, refl)

-- "each visited directory", "exactly 1,000,000 pass"
chain_lists : (o : Order) (f : List ℕ) → walk_ranges o f ≡ over (u32_at o f 4) (λ place. chain_ranges 1000000 (eqb place 0) o f place start)
unfolding walk_ranges
chain_lists o f = refl

-- a directory that isn't visited any more isn't read
visited_lists :
    (flat (chain_ranges 2 false little two 0 start) ≡ (0, 2) ∷ (0, 6) ∷ (6, 2) ∷ (6, 6) ∷ [])
    × (flat (chain_ranges 1 false little two 0 start) ≡ (0, 2) ∷ (0, 6) ∷ [])
    × (flat (chain_ranges 0 false little two 0 start) ≡ [])
unfolding chain_ranges directory_ranges entries_ranges over in_file flat chain join agrees directory ends entries number_at part_at bind
visited_lists = (refl, refl, refl)
