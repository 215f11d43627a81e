-- Time series (document 02, request 1): a small file of three weeks, two planes and two channels, with its list and that of a rectangle of the last
-- week; pages of a layout; and what a handed-in description with a T of its own asks for. Words in quotation marks are document 02's, or document 01's.
use Prim.Native.Nat.{ℕ, ◌+◌, ◌-◌, ◌^◌}
use mathlib.Core.Path.{◌≡◌, refl}
use mathlib.Core.Bool.{false}
use mathlib.Core.List.{List, [], ◌∷◌, ◌++◌}
use Rattle.std.specs.Prelude.{None, Some}
use lib.ListN.{set}
use Rattle.lsm_format.specs.Answer.{Result, accepted, refused, bind}
use Rattle.lsm_format.specs.Ranges.{over, in_file, flat}
use Rattle.lsm_format.specs.Words.{word}
use Rattle.lsm_format.specs.Numbers.{little, part_at, number_at, i32_at, signed32}
use Rattle.lsm_format.specs.Sizes.{u8, picture_size, unlimited_size}
use Rattle.lsm_format.specs.Rectangle.{Rect, coordinate, coordinates, rectangle}
use Rattle.lsm_format.specs.Scenes.{Layout, layout, scenes, pages_expected, page_of}
use Rattle.lsm_format.specs.Lent.{lend}
use Rattle.lsm_format.specs.Calibration.{uncalibrated}
use Rattle.lsm_format.specs.CzInfo.{cz_info, header, extents, voxels, channel_block, shots, cz_ranges}
use Rattle.lsm_format.specs.Channels.{channels_ranges, channel_ranges}
use Rattle.lsm_format.specs.Directory.{directory, ends, entries, entry, scalar, scalar_values, array, array_values, entry_values, value_at, values_at, value_place, type_size, integer_size, entry_ranges, entries_ranges, directory_ranges}
use Rattle.lsm_format.specs.Open.{Description, Opened, open_file, read, tiff_header, walk, chain, join, agrees, describe_walk, agreement, layout_for, describe, chain_ranges, walk_ranges, open_ranges}
use Rattle.lsm_format.specs.Picture.{Samples, scene_there, coordinate_there, plane, plane_from, joined_size, plane_strips, in_turn, channel_strips, inside, total, samples_in, channel_picture, window, span, stored_picture, bytes, stored, place, each_sample, region, region_from, region_strips, whole_rows, whole_pages, whole_channels, whole_channel, whole_rows_of, whole_strips, rows_in, row_strips, window_strips}
use Rattle.lsm_format.specs.Listed.{strips_ranges, listed, span_ranges, sample_ranges, window_ranges, region_ranges, listed_for}
use Rattle.marked_cases.specs.Marked.{G, G-with, G-opened}
use Rattle.marked_cases.proofs.Handed.{rect, samples, four}

-- ---- the T of a file

stated :
    -- "T (0 counts as 1)"
    (open_file (G-with 112 0) 2 ≡ accepted G-opened)
    -- T below 0 stays Unsupported
    × (open_file (set (set (set (set G 112 255) 113 255) 114 255) 115 255) 2 ≡ refused (3 ∷ []))
    -- the largest T, by the page count
    × (open_file (set (set (set (set G 112 255) 113 255) 114 255) 115 127) 2 ≡ refused (2 ∷ []))
unfolding open_file lend read describe_walk agreement layout_for describe cz_info extents voxels channel_block shots layout scenes pages_expected word tiff_header walk chain join agrees directory ends entries entry scalar scalar_values array array_values entry_values value_at values_at value_place type_size integer_size header i32_at signed32 number_at part_at bind
stated = (refl, refl, refl)

-- ---- a file of three weeks

-- An entry of type 3: its tag, 256 and so much, its count, and two values of 16 bits below 256.
abbrev pub short : ℕ → ℕ → ℕ → ℕ → List ℕ
short tag count a b = tag ∷ 1 ∷ 3 ∷ 0 ∷ count ∷ 0 ∷ 0 ∷ 0 ∷ a ∷ 0 ∷ b ∷ 0 ∷ []

-- The entries of a page: width 2, height 1, bits 8, two strip offsets, samples per pixel 2, two byte counts of 2, planar configuration 2. The two
-- strips stand one behind the other.
abbrev page : ℕ → List ℕ
page at =
    short 0 1 2 0 ++ short 1 1 1 0 ++ short 2 1 8 0 ++ short 17 2 at (at + 2) ++ short 21 1 2 0 ++ short 23 2 2 2 ++ short 28 1 2 0

-- Little-endian, 612 bytes, one scene. The numbers in front are places in the file.
abbrev pub W : List ℕ
W =
    -- 0: the header, with the first directory at 60
    73 ∷ 73 ∷ 42 ∷ 0 ∷ 60 ∷ 0 ∷ 0 ∷ 0
    -- 8: the CZ block: magic, size 28, X 2, Y 1, Z 2, channels 2, T 3
    ∷ 76 ∷ 73 ∷ 0 ∷ 4 ∷ 28 ∷ 0 ∷ 0 ∷ 0
    ∷ 2 ∷ 0 ∷ 0 ∷ 0 ∷ 1 ∷ 0 ∷ 0 ∷ 0 ∷ 2 ∷ 0 ∷ 0 ∷ 0 ∷ 2 ∷ 0 ∷ 0 ∷ 0 ∷ 3 ∷ 0 ∷ 0 ∷ 0
    -- 36: the samples, page by page, each with two of the first channel and two of the second
    ∷ 10 ∷ 11 ∷ 12 ∷ 13 ∷ 20 ∷ 21 ∷ 22 ∷ 23
    ∷ 30 ∷ 31 ∷ 32 ∷ 33 ∷ 40 ∷ 41 ∷ 42 ∷ 43
    ∷ 50 ∷ 51 ∷ 52 ∷ 53 ∷ 60 ∷ 61 ∷ 62 ∷ 63
    -- 60: the first page's directory, with the CZ entry (28 bytes at 8) before its other entries
    ∷ 8 ∷ 0
    ∷ 108 ∷ 134 ∷ 1 ∷ 0 ∷ 28 ∷ 0 ∷ 0 ∷ 0 ∷ 8 ∷ 0 ∷ 0 ∷ 0
    ∷ page 36 ++ 162 ∷ 0 ∷ 0 ∷ 0
    -- 162, 252, 342, 432, 522: the others'
    ∷ 7 ∷ 0 ∷ page 40 ++ 252 ∷ 0 ∷ 0 ∷ 0
    ∷ 7 ∷ 0 ∷ page 44 ++ 86 ∷ 1 ∷ 0 ∷ 0
    ∷ 7 ∷ 0 ∷ page 48 ++ 176 ∷ 1 ∷ 0 ∷ 0
    ∷ 7 ∷ 0 ∷ page 52 ++ 10 ∷ 2 ∷ 0 ∷ 0
    ∷ 7 ∷ 0 ∷ page 56 ++ 0 ∷ 0 ∷ 0 ∷ 0 ∷ []

abbrev W-opened : Opened
W-opened =
    record {
      description =
          record {
            order = little;
            kind = u8;
            dims = record { t = 3; c = 2; z = 2; y = 1; x = 2 };
            layout = record { scenes = 1; t = 3; depth = 2 };
            interleaved = false;
            strips_per_channel = 1;
            calibration = uncalibrated;
            channel_block = None;
          };
      visited = 6;
      table =
          36 ∷ 2 ∷ 38 ∷ 2 ∷ 40 ∷ 2 ∷ 42 ∷ 2 ∷ 44 ∷ 2 ∷ 46 ∷ 2 ∷ 48 ∷ 2 ∷ 50 ∷ 2 ∷ 52 ∷ 2 ∷ 54 ∷ 2 ∷ 56 ∷ 2 ∷ 58 ∷ 2 ∷ [];
    }

opens :
    (open_file W 24 ≡ accepted W-opened)
    -- "Pages expected are scenes × T (0 counts as 1) × depth": with T 2, 4 and 0 they are 4, 8 and 2, and the file has 6
    × (open_file (set W 32 2) 24 ≡ refused (2 ∷ []))
    × (open_file (set W 32 4) 24 ≡ refused (2 ∷ []))
    × (open_file (set W 32 0) 24 ≡ refused (2 ∷ []))
    -- with Z 0 as with Z 1: so 6 time points of one plane
    × (bind (open_file (set (set W 24 0) 32 6) 24) (λ x. accepted x.description.layout) ≡ accepted (record { scenes = 1; t = 6; depth = 1 }))
unfolding open_file lend read describe_walk agreement layout_for describe cz_info extents voxels channel_block shots layout scenes pages_expected word tiff_header walk chain join agrees directory ends entries entry scalar scalar_values array array_values entry_values value_at values_at value_place type_size integer_size header i32_at signed32 number_at part_at bind
opens = (refl, refl, refl, refl, refl)

-- What plane and region answer with what opening gave.
abbrev plane_at : ℕ → ℕ → ℕ → Result Samples
plane_at t c z = plane W-opened.description W-opened.table W (coordinate 0 t c z)

-- the second column
abbrev pub column : Rect
column = rect 1 0 1 1

-- "a picture's page is (scene × T + t) × depth + z": a week's planes follow one another, then come those of the next week
pictures :
    (plane_at 0 0 0 ≡ samples 1 2 (10 ∷ 11 ∷ []))
    × (plane_at 0 0 1 ≡ samples 1 2 (20 ∷ 21 ∷ []))
    × (plane_at 1 0 0 ≡ samples 1 2 (30 ∷ 31 ∷ []))
    × (plane_at 1 1 1 ≡ samples 1 2 (42 ∷ 43 ∷ []))
    × (plane_at 2 1 0 ≡ samples 1 2 (52 ∷ 53 ∷ []))
    × (plane_at 2 1 1 ≡ samples 1 2 (62 ∷ 63 ∷ []))
    × (plane_at 3 0 0 ≡ refused (6 ∷ 0 ∷ 3 ∷ 0 ∷ 0 ∷ []))
    × (region W-opened.description W-opened.table W (coordinate 0 2 1 0) column ≡ samples 1 1 (53 ∷ []))
unfolding plane plane_from region region_from scene_there coordinate_there coordinates rectangle joined_size plane_strips in_turn region_strips row_strips window_strips whole_rows whole_pages whole_channels whole_channel whole_rows_of whole_strips rows_in picture_size unlimited_size word channel_strips page_of inside total samples_in channel_picture window span stored_picture bytes stored place each_sample bind
pictures = (refl, refl, refl, refl, refl, refl, refl, refl)

-- ---- its list

-- what a directory of seven entries at a place reads; the scalars and strip arrays stand in their entries
abbrev W-page : ℕ → List (ℕ × ℕ)
W-page at = (at, 2) ∷ (at, 90) ∷ (at + 10, 2) ∷ (at + 22, 2) ∷ (at + 34, 2) ∷ (at + 46, 4) ∷ (at + 58, 2) ∷ (at + 70, 4) ∷ (at + 82, 2) ∷ []

-- what opening reads: the header, the first directory, the five others, and the CZ block
abbrev pub W-open : List (ℕ × ℕ)
W-open =
    (0, 8) ∷ (60, 2) ∷ (60, 102) ∷ (82, 2) ∷ (94, 2) ∷ (106, 2) ∷ (118, 4) ∷ (130, 2) ∷ (142, 4) ∷ (154, 2)
    ∷ (W-page 162 ++ W-page 252 ++ W-page 342 ++ W-page 432 ++ W-page 522 ++ (8, 8) ∷ (8, 28) ∷ [])

-- "the in-file strips of full pages": of every week
all_lists : flat (listed W) ≡ W-open ++ (36, 2) ∷ (38, 2) ∷ (40, 2) ∷ (42, 2) ∷ (44, 2) ∷ (46, 2) ∷ (48, 2) ∷ (50, 2) ∷ (52, 2) ∷ (54, 2) ∷ (56, 2) ∷ (58, 2) ∷ []
unfolding listed strips_ranges channels_ranges channel_ranges open_ranges walk_ranges chain_ranges directory_ranges entries_ranges entry_ranges cz_ranges over in_file flat read describe_walk agreement layout_for describe cz_info extents voxels channel_block shots layout scenes pages_expected word tiff_header walk chain join agrees directory ends entries entry scalar scalar_values array array_values entry_values value_at values_at value_place type_size integer_size header i32_at signed32 number_at part_at bind
all_lists = refl

-- "of the strips only the places of its samples": of the last week's first plane, the second channel's second sample
pub last_week_lists : flat (listed_for W (coordinate 0 2 1 0) column) ≡ W-open ++ (55, 1) ∷ []
unfolding listed_for region_ranges region_from window_ranges sample_ranges span_ranges place scene_there coordinate_there coordinates rectangle region_strips joined_size plane_strips in_turn total whole_rows whole_pages whole_channels whole_channel whole_rows_of whole_strips rows_in row_strips window_strips picture_size unlimited_size channel_strips page_of inside open_ranges walk_ranges chain_ranges directory_ranges entries_ranges entry_ranges cz_ranges over in_file flat read describe_walk agreement layout_for describe cz_info extents voxels channel_block shots layout scenes pages_expected word tiff_header walk chain join agrees directory ends entries entry scalar scalar_values array array_values entry_values value_at values_at value_place type_size integer_size header i32_at signed32 number_at part_at bind
last_week_lists = refl

-- ---- pages of a layout

abbrev laid : ℕ → ℕ → ℕ → Layout
laid scenes t depth = record { scenes = scenes; t = t; depth = depth }

page_numbers :
    -- of two scenes of three weeks and two planes: the last page, and the first of each scene and of the second week
    (page_of (laid 2 3 2) (coordinate 1 2 0 1) ≡ Some 11)
    × (page_of (laid 2 3 2) (coordinate 1 0 0 0) ≡ Some 6)
    × (page_of (laid 2 3 2) (coordinate 0 1 0 0) ≡ Some 2)
    × (page_of (laid 2 3 2) (coordinate 2 0 0 0) ≡ None)
    -- the largest page number, and one more: by the scene's weeks, by t, by the depth, by z
    × (page_of (laid (2 ^ 33) (2 ^ 32) 1) (coordinate (2 ^ 32 - 1) (2 ^ 32 - 1) 0 0) ≡ Some (2 ^ 64 - 1))
    × (page_of (laid (2 ^ 33) (2 ^ 32) 1) (coordinate (2 ^ 32) 0 0 0) ≡ None)
    × (page_of (laid (2 ^ 33) (2 ^ 32) 1) (coordinate (2 ^ 32 - 1) (2 ^ 32) 0 0) ≡ None)
    × (page_of (laid 1 1 (2 ^ 32)) (coordinate 0 (2 ^ 32) 0 0) ≡ None)
    × (page_of (laid 1 1 (2 ^ 32)) (coordinate 0 (2 ^ 32 - 1) 0 (2 ^ 32 - 1)) ≡ Some (2 ^ 64 - 1))
    × (page_of (laid 1 1 (2 ^ 32)) (coordinate 0 (2 ^ 32 - 1) 0 (2 ^ 32)) ≡ None)
    -- taken exactly: a factor 0 makes 0, however large the others are
    × (page_of (laid (2 ^ 40) (2 ^ 40) 0) (coordinate (2 ^ 40 - 1) (2 ^ 63) 0 5) ≡ Some 5)
    × (page_of (laid 2 0 3) (coordinate 1 2 0 1) ≡ Some 7)
unfolding page_of word
page_numbers = (refl, refl, refl, refl, refl, refl, refl, refl, refl, refl, refl, refl)

pages_expected_lem :
    (pages_expected (laid 2 3 2) ≡ accepted 12)
    -- "overflow is Decode": by the weeks, and by the depth; just below it
    × (pages_expected (laid (2 ^ 32) (2 ^ 32) 1) ≡ refused (2 ∷ []))
    × (pages_expected (laid (2 ^ 16) (2 ^ 16) (2 ^ 32)) ≡ refused (2 ∷ []))
    × (pages_expected (laid 1 (2 ^ 32 + 1) (2 ^ 32 - 1)) ≡ accepted (2 ^ 64 - 1))
    -- exactly
    × (pages_expected (laid (2 ^ 40) (2 ^ 40) 0) ≡ accepted 0)
unfolding pages_expected word bind
pages_expected_lem = (refl, refl, refl, refl, refl)

-- ---- a description that is handed in

-- one channel of 8 bits in one strip, one row of so many columns: T and Z of the dimensions, and the layout
abbrev weekly : ℕ → ℕ → ℕ → Layout → Description
weekly t z x l =
    record {
      order = little;
      kind = u8;
      dims = record { t = t; c = 1; z = z; y = 1; x = x };
      layout = l;
      interleaved = false;
      strips_per_channel = 1;
      calibration = uncalibrated;
      channel_block = None;
    }

-- four pages of one byte each
abbrev bytewise : List ℕ
bytewise = 0 ∷ 1 ∷ 1 ∷ 1 ∷ 2 ∷ 1 ∷ 3 ∷ 1 ∷ []

abbrev corner : Rect
corner = rect 0 0 1 1

handed_in :
    -- the dimensions' T is what t is held to, and the layout's T what pages are counted by
    (plane (weekly 2 1 1 (laid 2 1 1)) bytewise four (coordinate 0 1 0 0) ≡ samples 1 1 (11 ∷ []))
    × (plane (weekly 1 1 1 (laid 2 2 1)) bytewise four (coordinate 1 0 0 0) ≡ samples 1 1 (12 ∷ []))
    × (plane (weekly 1 1 1 (laid 2 2 1)) bytewise four (coordinate 0 1 0 0) ≡ refused (6 ∷ 0 ∷ 1 ∷ 0 ∷ 0 ∷ []))
    -- T 0 is taken as given: no t is below it, not for an empty rectangle either; in the layout, every scene begins with the first page
    × (plane (weekly 0 1 1 (laid 1 1 1)) bytewise four (coordinate 0 0 0 0) ≡ refused (6 ∷ 0 ∷ 0 ∷ 0 ∷ 0 ∷ []))
    × (region (weekly 0 1 1 (laid 1 1 1)) bytewise four (coordinate 0 0 0 0) (rect 0 0 0 1) ≡ refused (6 ∷ 0 ∷ 0 ∷ 0 ∷ 0 ∷ []))
    × (plane (weekly 2 1 1 (laid 2 0 1)) bytewise four (coordinate 1 1 0 0) ≡ samples 1 1 (11 ∷ []))
    -- a table that ends after the first week
    × (plane (weekly 2 1 1 (laid 1 2 1)) (0 ∷ 1 ∷ []) four (coordinate 0 0 0 0) ≡ samples 1 1 (10 ∷ []))
    × (plane (weekly 2 1 1 (laid 1 2 1)) (0 ∷ 1 ∷ []) four (coordinate 0 1 0 0) ≡ refused (6 ∷ 0 ∷ 1 ∷ 0 ∷ 0 ∷ []))
    -- "A page number that overflows [..] is 6"
    × (plane (weekly 3 1 1 (laid 2 (2 ^ 64 - 1) 1)) bytewise four (coordinate 1 2 0 0) ≡ refused (6 ∷ 1 ∷ 2 ∷ 0 ∷ 0 ∷ []))
unfolding plane plane_from region region_from scene_there coordinate_there coordinates rectangle joined_size plane_strips in_turn region_strips row_strips window_strips whole_rows whole_pages whole_channels whole_channel whole_rows_of whole_strips rows_in picture_size unlimited_size word channel_strips page_of inside total samples_in channel_picture window span stored_picture bytes stored place each_sample bind
handed_in = (refl, refl, refl, refl, refl, refl, refl, refl, refl)

-- A picture of 2^33 columns is oversized: by rows its strip outside the file is refused, by plane's checks its size. So the answers tell what
-- the whole-row test said.
abbrev wide : Layout → List ℕ → Result Samples
wide l table = region (weekly 2 1 (2 ^ 33) l) table four (coordinate 0 0 0 0) corner

abbrev by_rows : Result Samples
by_rows = refused (2 ∷ [])

abbrev by_plane : Result Samples
by_plane = refused (4 ∷ 2 ^ 33 ∷ 4294967296 ∷ [])

-- "The whole-row test covers all of them": the picture asked for is the first week's
whole_rows_lem :
    (wide (laid 1 2 1) (0 ∷ 2 ^ 33 ∷ 0 ∷ 2 ^ 33 ∷ []) ≡ by_rows)
    -- the second week's page holds three bytes; it is missing
    × (wide (laid 1 2 1) (0 ∷ 2 ^ 33 ∷ 0 ∷ 3 ∷ []) ≡ by_plane)
    × (wide (laid 1 2 1) (0 ∷ 2 ^ 33 ∷ []) ≡ by_plane)
    -- it isn't of the layout's pages, though the dimensions have two weeks
    × (wide (laid 1 1 1) (0 ∷ 2 ^ 33 ∷ 0 ∷ 3 ∷ []) ≡ by_rows)
    -- "or an overflow, means no"; no page at all means yes
    × (wide (laid (2 ^ 32) (2 ^ 32) 1) (0 ∷ 2 ^ 33 ∷ []) ≡ by_plane)
    × (wide (laid (2 ^ 40) (2 ^ 40) 0) (0 ∷ 2 ^ 33 ∷ []) ≡ by_rows)
unfolding plane plane_from region region_from scene_there coordinate_there coordinates rectangle joined_size plane_strips in_turn region_strips row_strips window_strips whole_rows whole_pages whole_channels whole_channel whole_rows_of whole_strips rows_in picture_size unlimited_size word channel_strips page_of inside total samples_in channel_picture window span stored_picture bytes stored place each_sample bind
whole_rows_lem = (refl, refl, refl, refl, refl, refl)
