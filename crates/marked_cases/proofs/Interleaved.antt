-- Interleaved channels (document 02, request 2): a small file of three channels whose strips split a pixel, with its list and that of a rectangle of
-- one channel; what a file states of its channels and strips; and what a handed-in description with the flag asks for. Words in quotation marks are
-- document 02's, or document 01's. Each row is computed from the definitions. Assumes nothing.
use Prim.Native.Nat.{ℕ, ◌-◌, ◌^◌}
use mathlib.Core.Path.{◌≡◌, refl}
use mathlib.Core.Bool.{Bool, true, false}
use mathlib.Core.List.{List, [], ◌∷◌, ◌++◌}
use Rattle.std.specs.Prelude.{None}
use lib.ListN.{set}
use Rattle.lsm_format.specs.Answer.{Result, accepted, refused, bind}
use Rattle.lsm_format.specs.Ranges.{over, in_file, flat}
use Rattle.lsm_format.specs.Words.{word}
use Rattle.lsm_format.specs.Numbers.{little, part_at, number_at, i32_at, signed32}
use Rattle.lsm_format.specs.Sizes.{Kind, u8, u16, picture_size, unlimited_size}
use Rattle.lsm_format.specs.Rectangle.{Rect, coordinate, coordinates, rectangle}
use Rattle.lsm_format.specs.Scenes.{layout, scenes, pages_expected, page_of}
use Rattle.lsm_format.specs.Lent.{lend}
use Rattle.lsm_format.specs.Calibration.{uncalibrated}
use Rattle.lsm_format.specs.CzInfo.{cz_info, header, extents, voxels, channel_block, shots, cz_ranges}
use Rattle.lsm_format.specs.Channels.{channels_ranges, channel_ranges}
use Rattle.lsm_format.specs.Directory.{directory, ends, entries, entry, scalar, scalar_values, array, array_values, entry_values, value_at, values_at, value_place, type_size, integer_size, entry_ranges, entries_ranges, directory_ranges}
use Rattle.lsm_format.specs.Open.{Description, Opened, open_file, read, tiff_header, walk, chain, join, agrees, describe_walk, agreement, layout_for, describe, chain_ranges, walk_ranges, open_ranges}
use Rattle.lsm_format.specs.Picture.{Samples, scene_there, coordinate_there, plane, plane_from, joined_size, plane_strips, in_turn, channel_strips, inside, total, samples_in, channel_picture, window, span, stored_picture, bytes, stored, place, each_sample, region, region_from, region_strips, whole_rows, whole_pages, whole_channels, whole_channel, whole_rows_of, whole_strips, rows_in, row_strips, window_strips, into}
use Rattle.lsm_format.specs.Listed.{strips_ranges, listed, span_ranges, sample_ranges, window_ranges, region_ranges, listed_for}
use Rattle.marked_cases.proofs.Handed.{described, turned, rect, samples, four}
use Rattle.marked_cases.proofs.Series.{short}

-- ---- a file of three channels

-- An entry of type 1: its tag, 256 and so much, its count, and three values.
abbrev pub in_bytes : ℕ → ℕ → ℕ → ℕ → ℕ → List ℕ
in_bytes tag count a b c = tag ∷ 1 ∷ 1 ∷ 0 ∷ count ∷ 0 ∷ 0 ∷ 0 ∷ a ∷ b ∷ c ∷ 0 ∷ []

-- The entries of its page: width 2, height 2, bits 8, three strip offsets, samples per pixel 3, byte counts of 5, 1 and 6, planar configuration 1.
abbrev page : List ℕ
page =
    short 0 1 2 0 ++ short 1 1 2 0 ++ short 2 1 8 0 ++ in_bytes 17 3 144 149 138 ++ short 21 1 3 0 ++ in_bytes 23 3 5 1 6 ++ short 28 1 1 0

-- Little-endian, 150 bytes. The numbers in front are places in the file.
abbrev pub I : List ℕ
I =
    -- 0: the header
    73 ∷ 73 ∷ 42 ∷ 0 ∷ 8 ∷ 0 ∷ 0 ∷ 0
    -- 8: the directory, eight entries, the last of them the CZ entry (28 bytes at 110)
    ∷ 8 ∷ 0
    ∷ page ++ 108 ∷ 134 ∷ 1 ∷ 0 ∷ 28 ∷ 0 ∷ 0 ∷ 0 ∷ 110 ∷ 0 ∷ 0 ∷ 0
    ∷ 0 ∷ 0 ∷ 0 ∷ 0
    -- 110: the CZ block: magic, size 28, X 2, Y 2, Z 1, channels 3, T 1
    ∷ 76 ∷ 73 ∷ 0 ∷ 4 ∷ 28 ∷ 0 ∷ 0 ∷ 0
    ∷ 2 ∷ 0 ∷ 0 ∷ 0 ∷ 2 ∷ 0 ∷ 0 ∷ 0 ∷ 1 ∷ 0 ∷ 0 ∷ 0 ∷ 3 ∷ 0 ∷ 0 ∷ 0 ∷ 1 ∷ 0 ∷ 0 ∷ 0
    -- 138: the third strip: the pixels of the second row
    ∷ 12 ∷ 22 ∷ 32 ∷ 13 ∷ 23 ∷ 33
    -- 144: the first strip: a pixel, and two samples of the next
    ∷ 10 ∷ 20 ∷ 30 ∷ 11 ∷ 21
    -- 149: the second strip: that pixel's third sample
    ∷ 31 ∷ []

abbrev I-opened : Opened
I-opened =
    record {
      description =
          record {
            order = little;
            kind = u8;
            dims = record { t = 1; c = 3; z = 1; y = 2; x = 2 };
            layout = record { scenes = 1; t = 1; depth = 1 };
            interleaved = true;
            strips_per_channel = 3;
            calibration = uncalibrated;
            channel_block = None;
          };
      visited = 1;
      table = 144 ∷ 5 ∷ 149 ∷ 1 ∷ 138 ∷ 6 ∷ [];
    }

-- Whether the channels are interleaved, and the strips of a component plane, by what opening gives.
abbrev shared_out : List ℕ → Result (Bool × ℕ)
shared_out f = bind (open_file f 12) (λ x. accepted (x.description.interleaved, x.description.strips_per_channel))

opens :
    (open_file I 6 ≡ accepted I-opened)
    -- "Accept them, like any value but 2 with several channels": no such entry, but one of tag 280; 0; 3; 65,538 of type 4, whose lower half is 2
    × (open_file (set I 82 24) 6 ≡ accepted I-opened)
    × (open_file (set I 90 0) 6 ≡ accepted I-opened)
    × (open_file (set I 90 3) 6 ≡ accepted I-opened)
    × (open_file (set (set (set I 84 4) 90 2) 92 1) 6 ≡ accepted I-opened)
    -- with 2, each channel has a strip of its own
    × (shared_out (set I 90 2) ≡ accepted (false, 1))
    -- "that check leaves the order too", and no other does: X, the channels and the page count are held to the CZ block
    × (open_file (set I 118 3) 6 ≡ refused (2 ∷ []))
    × (open_file (set I 130 2) 6 ≡ refused (2 ∷ []))
    × (open_file (set I 134 2) 6 ≡ refused (2 ∷ []))
unfolding open_file lend read describe_walk agreement layout_for describe cz_info extents voxels channel_block shots layout scenes pages_expected word tiff_header walk chain join agrees directory ends entries entry scalar scalar_values array array_values entry_values value_at values_at value_place type_size integer_size header i32_at signed32 number_at part_at bind
opens = (refl, refl, refl, refl, refl, refl, refl, refl, refl)

-- I with so many channels, and a planar configuration
abbrev with_channels : ℕ → ℕ → List ℕ
with_channels n planar = set (set (set I 66 n) 130 n) 90 planar

several :
    -- "with several channels": two are
    (shared_out (with_channels 2 1) ≡ accepted (true, 3))
    -- one is never interleaved, whatever the entry states, and without it
    × (shared_out (with_channels 1 1) ≡ accepted (false, 3))
    × (shared_out (with_channels 1 2) ≡ accepted (false, 3))
    × (shared_out (set (with_channels 1 1) 82 24) ≡ accepted (false, 3))
    -- "SamplesPerPixel 0 counts as 1 channel"
    × (shared_out (set (with_channels 1 1) 66 0) ≡ accepted (false, 3))
unfolding open_file lend read describe_walk agreement layout_for describe cz_info extents voxels channel_block shots layout scenes pages_expected word tiff_header walk chain join agrees directory ends entries entry scalar scalar_values array array_values entry_values value_at values_at value_place type_size integer_size header i32_at signed32 number_at part_at bind
several = (refl, refl, refl, refl, refl)

-- I with so many strips: one or two in the entries, five out of line
abbrev strips : ℕ → List ℕ
strips n = set (set (set (set (set (set I 50 n) 55 0) 56 0) 74 n) 79 0) 80 0

-- "Strips must only be more than none"
any_strips :
    (shared_out (strips 1) ≡ accepted (true, 1))
    × (shared_out (strips 2) ≡ accepted (true, 2))
    × (shared_out (strips 5) ≡ accepted (true, 5))
    × (shared_out (strips 0) ≡ refused (2 ∷ []))
    -- planar, five strips can't be shared out to three channels
    × (shared_out (set (strips 5) 90 2) ≡ refused (2 ∷ []))
unfolding open_file lend read describe_walk agreement layout_for describe cz_info extents voxels channel_block shots layout scenes pages_expected word tiff_header walk chain join agrees directory ends entries entry scalar scalar_values array array_values entry_values value_at values_at value_place type_size integer_size header i32_at signed32 number_at part_at bind
any_strips = (refl, refl, refl, refl, refl)

-- I with Z 2 and a second page at 150, with the planar configuration of each
abbrev two_pages : ℕ → ℕ → List ℕ
two_pages first second = set (set (set (set I 106 150) 126 2 ++ 7 ∷ 0 ∷ page ++ 0 ∷ 0 ∷ 0 ∷ 0 ∷ []) 90 first) 232 second

-- the same with one channel, and no planar configuration on the second page
abbrev two_lone_pages : ℕ → List ℕ
two_lone_pages first = set (set (set (set (two_pages first 1) 66 1) 130 1) 208 1) 224 24

-- "agreement with the first full page (geometry 3 [..])" takes the planar configuration as 2 or not, as before
pages_agree :
    (shared_out (two_pages 1 3) ≡ accepted (true, 3))
    × (shared_out (two_pages 1 2) ≡ refused (3 ∷ []))
    -- also of one channel, where it is irrelevant
    × (shared_out (two_lone_pages 1) ≡ accepted (false, 3))
    × (shared_out (two_lone_pages 2) ≡ refused (3 ∷ []))
unfolding open_file lend read describe_walk agreement layout_for describe cz_info extents voxels channel_block shots layout scenes pages_expected word tiff_header walk chain join agrees directory ends entries entry scalar scalar_values array array_values entry_values value_at values_at value_place type_size integer_size header i32_at signed32 number_at part_at bind
pages_agree = (refl, refl, refl, refl)

-- ---- its pictures

-- What plane and region answer with what opening gave.
abbrev plane_at : ℕ → Result Samples
plane_at c = plane I-opened.description I-opened.table I (coordinate 0 0 c 0)

-- the second of its two columns
abbrev pub right_column : Rect
right_column = rect 1 0 1 2

abbrev column_of : ℕ → Result Samples
column_of c = region I-opened.description I-opened.table I (coordinate 0 0 c 0) right_column

-- "All strips then belong to every channel. The sample at row, column, channel stands at ((row × width + column) × channels + channel) × sample size
-- in the joined strips."
pictures :
    (plane_at 0 ≡ samples 2 2 (10 ∷ 11 ∷ 12 ∷ 13 ∷ []))
    × (plane_at 1 ≡ samples 2 2 (20 ∷ 21 ∷ 22 ∷ 23 ∷ []))
    × (plane_at 2 ≡ samples 2 2 (30 ∷ 31 ∷ 32 ∷ 33 ∷ []))
    × (plane_at 3 ≡ refused (6 ∷ 0 ∷ 0 ∷ 3 ∷ 0 ∷ []))
    × (column_of 0 ≡ samples 2 1 (11 ∷ 13 ∷ []))
    × (column_of 1 ≡ samples 2 1 (21 ∷ 23 ∷ []))
    × (column_of 2 ≡ samples 2 1 (31 ∷ 33 ∷ []))
    -- "buffer last": with the length of one channel's samples, those asked for
    × (into (plane_at 1) 4 ≡ plane_at 1)
    × (into (plane_at 1) 3 ≡ refused (7 ∷ 4 ∷ []))
    × (into (column_of 1) 2 ≡ column_of 1)
    × (into (column_of 1) 1 ≡ refused (7 ∷ 2 ∷ []))
unfolding plane plane_from region region_from into lend scene_there coordinate_there coordinates rectangle joined_size plane_strips in_turn region_strips row_strips window_strips whole_rows whole_pages whole_channels whole_channel whole_rows_of whole_strips rows_in picture_size unlimited_size word channel_strips page_of inside total samples_in channel_picture window span stored_picture bytes stored place each_sample bind
pictures = (refl, refl, refl, refl, refl, refl, refl, refl, refl, refl, refl)

-- ---- its lists

-- what opening reads; the scalars and strip arrays stand in their entries
abbrev pub I-open : List (ℕ × ℕ)
I-open =
    (0, 8) ∷ (8, 2) ∷ (8, 102) ∷ (18, 2) ∷ (30, 2) ∷ (42, 2) ∷ (54, 3) ∷ (66, 2) ∷ (78, 3) ∷ (90, 2) ∷ (110, 8) ∷ (110, 28) ∷ []

-- "the in-file strips of full pages"
all_lists : flat (listed I) ≡ I-open ++ (144, 5) ∷ (149, 1) ∷ (138, 6) ∷ []
unfolding listed strips_ranges channels_ranges channel_ranges open_ranges walk_ranges chain_ranges directory_ranges entries_ranges entry_ranges cz_ranges over in_file flat read describe_walk agreement layout_for describe cz_info extents voxels channel_block shots layout scenes pages_expected word tiff_header walk chain join agrees directory ends entries entry scalar scalar_values array array_values entry_values value_at values_at value_place type_size integer_size header i32_at signed32 number_at part_at bind
all_lists = refl

-- "The pixel bytes listed for a rectangle are those of its own channel": neither the samples beside them nor what stands between
pub right_column_lists : flat (listed_for I (coordinate 0 0 1 0) right_column) ≡ I-open ++ (148, 1) ∷ (142, 1) ∷ []
unfolding listed_for region_ranges region_from window_ranges sample_ranges span_ranges place scene_there coordinate_there coordinates rectangle region_strips joined_size plane_strips in_turn total whole_rows whole_pages whole_channels whole_channel whole_rows_of whole_strips rows_in row_strips window_strips picture_size unlimited_size channel_strips page_of inside open_ranges walk_ranges chain_ranges directory_ranges entries_ranges entry_ranges cz_ranges over in_file flat read describe_walk agreement layout_for describe cz_info extents voxels channel_block shots layout scenes pages_expected word tiff_header walk chain join agrees directory ends entries entry scalar scalar_values array array_values entry_values value_at values_at value_place type_size integer_size header i32_at signed32 number_at part_at bind
right_column_lists = refl

-- ---- a description that is handed in

-- a description with the flag set
abbrev together : Description → Description
together d =
    record {
      order = d.order;
      kind = d.kind;
      dims = d.dims;
      layout = d.layout;
      interleaved = true;
      strips_per_channel = d.strips_per_channel;
      calibration = d.calibration;
      channel_block = d.channel_block;
    }

-- one page: so many channels, rows and columns, and strips of a component plane; planar and interleaved
abbrev apart : Kind → ℕ → ℕ → ℕ → ℕ → Description
apart kind c y x strips = described kind c 1 y x 1 1 strips

abbrev mixed : Kind → ℕ → ℕ → ℕ → ℕ → Description
mixed kind c y x strips = together (apart kind c y x strips)

abbrev first : Rect
first = rect 0 0 1 1

-- a file of eight bytes, and a table of two strips there, the first three bytes at its end, the second the five before them
abbrev eight : List ℕ
eight = 10 ∷ 11 ∷ 12 ∷ 13 ∷ 14 ∷ 15 ∷ 16 ∷ 17 ∷ []

abbrev split : List ℕ
split = 5 ∷ 3 ∷ 0 ∷ 5 ∷ []

-- "in the joined strips": the first ends inside a sample of 16 bits, the first pixel's of the second of two channels
split_sample :
    (plane (mixed u16 2 1 2 2) split eight (coordinate 0 0 0 0) ≡ samples 1 2 (15 ∷ 16 ∷ 11 ∷ 12 ∷ []))
    × (plane (mixed u16 2 1 2 2) split eight (coordinate 0 0 1 0) ≡ samples 1 2 (17 ∷ 10 ∷ 13 ∷ 14 ∷ []))
    × (region (mixed u16 2 1 2 2) split eight (coordinate 0 0 1 0) (rect 1 0 1 1) ≡ samples 1 1 (13 ∷ 14 ∷ []))
    -- "little-endian whatever the file's order"
    × (plane (turned (mixed u16 2 1 2 2)) split eight (coordinate 0 0 1 0) ≡ samples 1 2 (10 ∷ 17 ∷ 14 ∷ 13 ∷ []))
    × (region (turned (mixed u16 2 1 2 2)) split eight (coordinate 0 0 1 0) first ≡ samples 1 1 (10 ∷ 17 ∷ []))
    -- the sample that the strips share
    × (flat (region_ranges (mixed u16 2 1 2 2) split eight (coordinate 0 0 1 0) first) ≡ (7, 1) ∷ (0, 1) ∷ [])
unfolding region_ranges window_ranges sample_ranges span_ranges over flat plane plane_from region region_from scene_there coordinate_there coordinates rectangle joined_size plane_strips in_turn region_strips row_strips window_strips whole_rows whole_pages whole_channels whole_channel whole_rows_of whole_strips rows_in picture_size unlimited_size word channel_strips page_of inside total samples_in channel_picture window span stored_picture bytes stored place each_sample bind
split_sample = (refl, refl, refl, refl, refl, refl)

-- "In turn they must keep within channels × picture size instead of the picture's size, and their total must be that, else 2"
counted :
    -- two channels of one sample each: exactly; a strip with one channel's picture; one byte too many, in one strip and in the second
    (plane (mixed u8 2 1 1 1) (0 ∷ 2 ∷ []) four (coordinate 0 0 1 0) ≡ samples 1 1 (11 ∷ []))
    × (plane (mixed u8 2 1 1 1) (0 ∷ 1 ∷ []) four (coordinate 0 0 0 0) ≡ refused (2 ∷ []))
    × (plane (mixed u8 2 1 1 1) (0 ∷ 3 ∷ []) four (coordinate 0 0 0 0) ≡ refused (2 ∷ []))
    × (plane (mixed u8 2 1 1 2) (0 ∷ 1 ∷ 2 ∷ 2 ∷ []) four (coordinate 0 0 0 0) ≡ refused (2 ∷ []))
    -- a strip outside the file, also where the first has all of this channel's bytes
    × (plane (mixed u8 2 1 1 1) (3 ∷ 2 ∷ []) four (coordinate 0 0 0 0) ≡ refused (2 ∷ []))
    × (plane (mixed u8 2 1 1 2) (0 ∷ 1 ∷ 4 ∷ 1 ∷ []) four (coordinate 0 0 0 0) ≡ refused (2 ∷ []))
    -- the limit is on the picture and not on the product: of exactly 4,294,967,296 bytes, two channels have a strip outside the file; one row more
    × (plane (mixed u8 2 65536 65536 1) (0 ∷ 2 ^ 33 ∷ []) four (coordinate 0 0 0 0) ≡ refused (2 ∷ []))
    × (plane (mixed u8 2 65537 65536 1) (0 ∷ 2 ^ 33 ∷ []) four (coordinate 0 0 0 0) ≡ refused (4 ∷ 4295032832 ∷ 4294967296 ∷ []))
unfolding plane plane_from scene_there coordinate_there coordinates joined_size plane_strips in_turn picture_size unlimited_size word channel_strips page_of inside total samples_in channel_picture window span stored_picture bytes stored place each_sample bind
counted = (refl, refl, refl, refl, refl, refl, refl, refl)

-- "if that product overflows, it is 4 with 2^64 − 1, right after the picture's size"
overflows :
    -- before the page, which there isn't; planar there is no product
    (plane (mixed u8 (2 ^ 32) 65536 65536 1) [] four (coordinate 0 0 0 0) ≡ refused (4 ∷ (2 ^ 64 - 1) ∷ 4294967296 ∷ []))
    × (plane (apart u8 (2 ^ 32) 65536 65536 1) [] four (coordinate 0 0 0 0) ≡ refused (6 ∷ 0 ∷ 0 ∷ 0 ∷ 0 ∷ []))
    -- one channel less: the page decides, and where there is one, the total
    × (plane (mixed u8 (2 ^ 32 - 1) 65536 65536 1) [] four (coordinate 0 0 0 0) ≡ refused (6 ∷ 0 ∷ 0 ∷ 0 ∷ 0 ∷ []))
    × (plane (mixed u8 (2 ^ 32 - 1) 65536 65536 1) (0 ∷ 4 ∷ []) four (coordinate 0 0 0 0) ≡ refused (2 ∷ []))
    -- after the picture's size, and before that the coordinate and the scene
    × (plane (mixed u8 (2 ^ 32) 65537 65536 1) [] four (coordinate 0 0 0 0) ≡ refused (4 ∷ 4295032832 ∷ 4294967296 ∷ []))
    × (plane (mixed u8 (2 ^ 32) 65536 65536 1) [] four (coordinate 0 0 (2 ^ 32) 0) ≡ refused (6 ∷ 0 ∷ 0 ∷ 2 ^ 32 ∷ 0 ∷ []))
    × (plane (mixed u8 (2 ^ 32) 65536 65536 1) [] four (coordinate 1 0 (2 ^ 32) 0) ≡ refused (5 ∷ 1 ∷ 1 ∷ []))
unfolding plane plane_from scene_there coordinate_there coordinates joined_size plane_strips in_turn picture_size unlimited_size word channel_strips page_of inside total samples_in channel_picture window span stored_picture bytes stored place each_sample bind
overflows = (refl, refl, refl, refl, refl, refl, refl)

-- two channels of 2^33 columns, and a layout of no page, over which the whole-row test says yes
abbrev pageless : Description
pageless = described u8 2 1 1 (2 ^ 33) 1 0 1

-- "Rectangles take plane's checks", whatever the whole-row test says: a picture of 2^33 columns is oversized, so the answers tell
rectangles :
    -- two channels, in a strip that holds a row of one channel, or a row of both; planar, a strip each, and they are outside the file
    (region (mixed u8 2 1 (2 ^ 33) 1) (0 ∷ 2 ^ 33 ∷ []) four (coordinate 0 0 0 0) first ≡ refused (4 ∷ 2 ^ 33 ∷ 4294967296 ∷ []))
    × (region (mixed u8 2 1 (2 ^ 33) 1) (0 ∷ 2 ^ 34 ∷ []) four (coordinate 0 0 0 0) first ≡ refused (4 ∷ 2 ^ 33 ∷ 4294967296 ∷ []))
    × (region (apart u8 2 1 (2 ^ 33) 1) (0 ∷ 2 ^ 33 ∷ 0 ∷ 2 ^ 33 ∷ []) four (coordinate 0 0 0 0) first ≡ refused (2 ∷ []))
    -- where the planar rectangle is accepted
    × (region (together pageless) (0 ∷ 4 ∷ 1 ∷ 3 ∷ []) four (coordinate 0 0 1 0) first ≡ refused (4 ∷ 2 ^ 33 ∷ 4294967296 ∷ []))
    × (region pageless (0 ∷ 4 ∷ 1 ∷ 3 ∷ []) four (coordinate 0 0 1 0) first ≡ samples 1 1 (11 ∷ []))
    -- the product, before the page
    × (region (mixed u8 (2 ^ 32) 65536 65536 1) [] four (coordinate 0 0 0 0) first ≡ refused (4 ∷ (2 ^ 64 - 1) ∷ 4294967296 ∷ []))
    -- the checks before stay: a rectangle that passes the picture, and an empty one inside it
    × (region (mixed u8 2 1 (2 ^ 33) 1) (0 ∷ 2 ^ 33 ∷ []) four (coordinate 0 0 0 0) (rect (2 ^ 33) 0 1 1) ≡ refused (2 ∷ []))
    × (region (mixed u8 2 1 (2 ^ 33) 1) (0 ∷ 2 ^ 33 ∷ []) four (coordinate 0 0 0 0) (rect (2 ^ 33) 0 0 1) ≡ samples 1 0 [])
    -- the total, although the rectangle's sample is there
    × (region (mixed u8 2 1 1 1) (0 ∷ 3 ∷ []) four (coordinate 0 0 0 0) first ≡ refused (2 ∷ []))
unfolding region region_from scene_there coordinate_there coordinates rectangle joined_size plane_strips in_turn region_strips row_strips window_strips whole_rows whole_pages whole_channels whole_channel whole_rows_of whole_strips rows_in picture_size unlimited_size word channel_strips page_of inside total samples_in channel_picture window span stored_picture bytes stored place each_sample bind
rectangles = (refl, refl, refl, refl, refl, refl, refl, refl, refl)

-- three channels on two pages of one strip
abbrev paged : Description
paged = together (described u8 3 2 1 1 1 2 1)

-- "Plane and region answer from what is given": the flag decides, and the strips are the page's
given_flag :
    -- one channel: the product is the picture's size; a rectangle takes plane's checks
    (plane (mixed u8 1 2 2 1) (0 ∷ 4 ∷ []) four (coordinate 0 0 0 0) ≡ samples 2 2 (10 ∷ 11 ∷ 12 ∷ 13 ∷ []))
    × (region (mixed u8 1 1 (2 ^ 33) 1) (0 ∷ 2 ^ 33 ∷ []) four (coordinate 0 0 0 0) first ≡ refused (4 ∷ 2 ^ 33 ∷ 4294967296 ∷ []))
    × (region (apart u8 1 1 (2 ^ 33) 1) (0 ∷ 2 ^ 33 ∷ []) four (coordinate 0 0 0 0) first ≡ refused (2 ∷ []))
    -- no channel: no c is below it, not for an empty rectangle either
    × (plane (mixed u8 0 1 1 1) (0 ∷ 1 ∷ []) four (coordinate 0 0 0 0) ≡ refused (6 ∷ 0 ∷ 0 ∷ 0 ∷ 0 ∷ []))
    × (region (mixed u8 0 1 1 1) (0 ∷ 1 ∷ []) four (coordinate 0 0 0 0) (rect 0 0 0 1) ≡ refused (6 ∷ 0 ∷ 0 ∷ 0 ∷ 0 ∷ []))
    -- a page takes 2 × strips words, whatever the channels: two words are the first page, and the next two are the second
    × (plane paged (0 ∷ 3 ∷ []) four (coordinate 0 0 2 0) ≡ samples 1 1 (12 ∷ []))
    × (plane paged (0 ∷ 3 ∷ []) four (coordinate 0 0 2 1) ≡ refused (6 ∷ 0 ∷ 0 ∷ 2 ∷ 1 ∷ []))
    × (plane paged (0 ∷ 3 ∷ 1 ∷ 3 ∷ []) four (coordinate 0 0 2 1) ≡ samples 1 1 (13 ∷ []))
    × (plane (described u8 3 2 1 1 1 2 1) (0 ∷ 3 ∷ []) four (coordinate 0 0 2 0) ≡ refused (6 ∷ 0 ∷ 0 ∷ 2 ∷ 0 ∷ []))
    -- "no strips per page"
    × (plane (mixed u8 2 1 1 0) (0 ∷ 2 ∷ []) four (coordinate 0 0 0 0) ≡ refused (6 ∷ 0 ∷ 0 ∷ 0 ∷ 0 ∷ []))
unfolding plane plane_from region region_from scene_there coordinate_there coordinates rectangle joined_size plane_strips in_turn region_strips row_strips window_strips whole_rows whole_pages whole_channels whole_channel whole_rows_of whole_strips rows_in picture_size unlimited_size word channel_strips page_of inside total samples_in channel_picture window span stored_picture bytes stored place each_sample bind
given_flag = (refl, refl, refl, refl, refl, refl, refl, refl, refl, refl)
