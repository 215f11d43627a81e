-- Cases that no file can show: "Description, table and file may come from different places. Plane and region answer from what is given."
-- Each row stands beside the words of document 01 that decide it, in the order of its checks; among the last are the inputs that
-- docs/DIFFERENCES.md names.
use Prim.Native.Nat.{ℕ, ◌+◌, ◌-◌, ◌^◌}
use mathlib.Core.Path.{◌≡◌, refl}
use mathlib.Core.Bool.{true, false}
use mathlib.Core.List.{List, [], ◌∷◌, ◌++◌}
use Rattle.std.specs.Prelude.{None, Some}
use lib.ListN.{take, set}
use Rattle.lsm_format.specs.Answer.{Result, accepted, refused, bind}
use Rattle.lsm_format.specs.Ranges.{over, flat}
use Rattle.lsm_format.specs.Words.{word}
use Rattle.lsm_format.specs.Numbers.{little, big, part_at, number_at, i32_at, signed32}
use Rattle.lsm_format.specs.Sizes.{Kind, u8, u16, f32, picture_size, unlimited_size}
use Rattle.lsm_format.specs.Rectangle.{Rect, coordinate, coordinates, rectangle}
use Rattle.lsm_format.specs.Scenes.{page_of}
use Rattle.lsm_format.specs.Lent.{lend}
use Rattle.lsm_format.specs.Calibration.{uncalibrated}
use Rattle.lsm_format.specs.Channels.{lookup, channel_in, pointers, color, color_at, name, name_span}
use Rattle.lsm_format.specs.Open.{Description}
use Rattle.lsm_format.specs.Picture.{Samples, scene_there, coordinate_there, plane, plane_from, joined_size, plane_strips, in_turn, channel_strips, inside, total, samples_in, channel_picture, window, span, stored_picture, bytes, stored, place, each_sample, region, region_from, region_strips, whole_rows, whole_pages, whole_channels, whole_channel, whole_rows_of, whole_strips, rows_in, row_strips, window_strips, into}
use Rattle.lsm_format.specs.Listed.{span_ranges, sample_ranges, window_ranges, region_ranges}

-- Planar, one time point; so many channels, planes, rows and columns; scenes of so many pages; strips of a channel.
abbrev pub described : Kind → ℕ → ℕ → ℕ → ℕ → ℕ → ℕ → ℕ → Description
described kind c z y x scenes depth strips =
    record {
      order = little;
      kind = kind;
      dims = record { t = 1; c = c; z = z; y = y; x = x };
      layout = record { scenes = scenes; t = 1; depth = depth };
      interleaved = false;
      strips_per_channel = strips;
      calibration = uncalibrated;
      channel_block = None;
    }

-- one scene of one page, one channel in so many strips
abbrev single : Kind → ℕ → ℕ → ℕ → Description
single kind y x strips = described kind 1 1 y x 1 1 strips

abbrev pub rect : ℕ → ℕ → ℕ → ℕ → Rect
rect x y w h = record { x = x; y = y; w = w; h = h }

abbrev pub samples : ℕ → ℕ → List ℕ → Result Samples
samples rows columns bs = accepted (record { rows = rows; columns = columns; bytes = bs })

-- a file of four bytes, which is all that is handed in as one
abbrev pub four : List ℕ
four = 10 ∷ 11 ∷ 12 ∷ 13 ∷ []

-- ---- plane

plane_order :
    -- "Plane: scene": 5, whatever else is wrong
    (plane (single u8 (2 ^ 40) (2 ^ 40) 0) [] four (coordinate 1 1 1 1) ≡ refused (5 ∷ 1 ∷ 1 ∷ []))
    -- "t, c, z": 6, although the picture is oversized
    × (plane (single u8 (2 ^ 40) 1 0) [] four (coordinate 0 0 1 0) ≡ refused (6 ∷ 0 ∷ 0 ∷ 1 ∷ 0 ∷ []))
    × (plane (single u8 (2 ^ 40) 1 0) [] four (coordinate 0 1 0 0) ≡ refused (6 ∷ 0 ∷ 1 ∷ 0 ∷ 0 ∷ []))
    × (plane (single u8 (2 ^ 40) 1 0) [] four (coordinate 0 0 0 1) ≡ refused (6 ∷ 0 ∷ 0 ∷ 0 ∷ 1 ∷ []))
    -- "size": 4, although there is no page
    × (plane (single u8 (2 ^ 40) 1 0) [] four (coordinate 0 0 0 0) ≡ refused (4 ∷ 2 ^ 40 ∷ 4294967296 ∷ []))
    -- "a size that overflows (requested 2^64 − 1)"
    × (plane (single u16 (2 ^ 32) (2 ^ 32) 0) [] four (coordinate 0 0 0 0) ≡ refused (4 ∷ (2 ^ 64 - 1) ∷ 4294967296 ∷ []))
    -- the largest picture that a file can announce
    × (plane (single f32 (2 ^ 31 - 1) (2 ^ 31 - 1) 1) (0 ∷ 1 ∷ []) four (coordinate 0 0 0 0) ≡ refused (4 ∷ 18446744056529682436 ∷ 4294967296 ∷ []))
    -- "page": "A page number that overflows [..] is 6"
    × (plane (described u8 1 1 1 1 3 (2 ^ 63) 1) (0 ∷ 1 ∷ []) four (coordinate 2 0 0 0) ≡ refused (6 ∷ 2 ∷ 0 ∷ 0 ∷ 0 ∷ []))
    -- "no strips per page": 6, also for a picture of no bytes
    × (plane (single u8 1 1 0) (0 ∷ 1 ∷ []) four (coordinate 0 0 0 0) ≡ refused (6 ∷ 0 ∷ 0 ∷ 0 ∷ 0 ∷ []))
    × (plane (single u8 0 1 0) (0 ∷ 1 ∷ []) four (coordinate 0 0 0 0) ≡ refused (6 ∷ 0 ∷ 0 ∷ 0 ∷ 0 ∷ []))
    -- "a page not wholly in the table": channel 0 has its strip there, channel 1 lacks a word
    × (plane (described u8 2 1 1 1 1 1 1) (0 ∷ 1 ∷ 0 ∷ []) four (coordinate 0 0 0 0) ≡ refused (6 ∷ 0 ∷ 0 ∷ 0 ∷ 0 ∷ []))
    -- "(reckoned exactly)": strips whose words are 2 ^ 64 in all are not the table of no words
    × (plane (described u8 (2 ^ 32) 1 1 1 1 1 (2 ^ 31)) [] four (coordinate 0 0 0 0) ≡ refused (6 ∷ 0 ∷ 0 ∷ 0 ∷ 0 ∷ []))
    -- "a strip whose offset plus length overflows is 2"
    × (plane (single u8 1 1 1) ((2 ^ 64 - 1) ∷ 1 ∷ []) four (coordinate 0 0 0 0) ≡ refused (2 ∷ []))
    -- "each within the file"
    × (plane (single u8 1 2 1) (3 ∷ 2 ∷ []) four (coordinate 0 0 0 0) ≡ refused (2 ∷ []))
    -- "then within the picture's size; their total": one byte too many, one too few
    × (plane (single u8 1 2 1) (0 ∷ 3 ∷ []) four (coordinate 0 0 0 0) ≡ refused (2 ∷ []))
    × (plane (single u8 1 2 1) (0 ∷ 1 ∷ []) four (coordinate 0 0 0 0) ≡ refused (2 ∷ []))
    -- "buffer last"
    × (into (plane (single u8 1 2 1) (1 ∷ 2 ∷ []) four (coordinate 0 0 0 0)) 1 ≡ refused (7 ∷ 2 ∷ []))
    × (into (plane (single u8 1 2 1) (1 ∷ 2 ∷ []) four (coordinate 0 0 0 0)) 2 ≡ samples 1 2 (11 ∷ 12 ∷ []))
unfolding plane plane_from into lend scene_there coordinate_there coordinates joined_size plane_strips in_turn picture_size unlimited_size word channel_strips page_of inside total samples_in channel_picture window span stored_picture bytes stored place each_sample bind
plane_order = (refl, refl, refl, refl, refl, refl, refl, refl, refl, refl, refl, refl, refl, refl, refl, refl, refl, refl)

-- "strips in turn, each within the file, then within the picture's size; their total", with 13 for a strip outside the file and 14 for bytes
-- that are miscounted, so that the rows tell which of them is found first: two strips and a file of four bytes, a picture of three
in_turn_lem :
    -- the first strip too long, the second outside the file: the first strip's fault
    (in_turn (13 ∷ []) (14 ∷ []) (0 ∷ 4 ∷ 9 ∷ 1 ∷ []) 4 0 2 3 ≡ refused (14 ∷ []))
    -- the first outside, the second too long
    × (in_turn (13 ∷ []) (14 ∷ []) (9 ∷ 1 ∷ 0 ∷ 4 ∷ []) 4 0 2 3 ≡ refused (13 ∷ []))
    -- one strip that is both: outside the file comes first
    × (in_turn (13 ∷ []) (14 ∷ []) (0 ∷ 5 ∷ 0 ∷ 1 ∷ []) 4 0 2 3 ≡ refused (13 ∷ []))
    -- the second passes what the first leaves of the picture
    × (in_turn (13 ∷ []) (14 ∷ []) (0 ∷ 2 ∷ 0 ∷ 2 ∷ []) 4 0 2 3 ≡ refused (14 ∷ []))
    -- their total falls short: only after all lie in the file
    × (in_turn (13 ∷ []) (14 ∷ []) (0 ∷ 1 ∷ 0 ∷ 1 ∷ []) 4 0 2 3 ≡ refused (14 ∷ []))
    × (in_turn (13 ∷ []) (14 ∷ []) (0 ∷ 1 ∷ 4 ∷ 1 ∷ []) 4 0 2 3 ≡ refused (13 ∷ []))
    -- a strip of no bytes at the file's end passes, and past it doesn't
    × (in_turn (13 ∷ []) (14 ∷ []) (0 ∷ 3 ∷ 4 ∷ 0 ∷ []) 4 0 2 3 ≡ accepted tt)
    × (in_turn (13 ∷ []) (14 ∷ []) (0 ∷ 3 ∷ 5 ∷ 0 ∷ []) 4 0 2 3 ≡ refused (13 ∷ []))
unfolding in_turn bind
in_turn_lem = (refl, refl, refl, refl, refl, refl, refl, refl)

-- ---- the picture

joined :
    -- "the channel's joined strips": three bytes, then one, in rows of two
    (plane (single u8 2 2 2) (1 ∷ 3 ∷ 0 ∷ 1 ∷ []) four (coordinate 0 0 0 0) ≡ samples 2 2 (11 ∷ 12 ∷ 13 ∷ 10 ∷ []))
    -- a rectangle across them
    × (region (single u8 2 2 2) (1 ∷ 3 ∷ 0 ∷ 1 ∷ []) four (coordinate 0 0 0 0) (rect 1 0 1 2) ≡ samples 2 1 (12 ∷ 10 ∷ []))
    -- a sample that two strips share
    × (plane (single u16 1 2 2) (0 ∷ 3 ∷ 3 ∷ 1 ∷ []) four (coordinate 0 0 0 0) ≡ samples 1 2 (10 ∷ 11 ∷ 12 ∷ 13 ∷ []))
    -- the second channel's strip; the second page's
    × (plane (described u8 2 1 1 1 1 1 1) (0 ∷ 1 ∷ 3 ∷ 1 ∷ []) four (coordinate 0 0 1 0) ≡ samples 1 1 (13 ∷ []))
    × (plane (described u8 1 1 1 1 2 1 1) (0 ∷ 1 ∷ 3 ∷ 1 ∷ []) four (coordinate 1 0 0 0) ≡ samples 1 1 (13 ∷ []))
unfolding plane plane_from region region_from scene_there coordinate_there coordinates rectangle joined_size plane_strips in_turn region_strips row_strips window_strips whole_rows whole_pages whole_channels whole_channel whole_rows_of whole_strips rows_in picture_size unlimited_size word channel_strips page_of inside total samples_in channel_picture window span stored_picture bytes stored place each_sample bind
joined = (refl, refl, refl, refl, refl)

-- the same description in big-endian order
abbrev pub turned : Description → Description
turned d =
    record {
      order = big;
      kind = d.kind;
      dims = d.dims;
      layout = d.layout;
      interleaved = d.interleaved;
      strips_per_channel = d.strips_per_channel;
      calibration = d.calibration;
      channel_block = d.channel_block;
    }

-- "little-endian whatever the file's order"
turned_round :
    (plane (turned (single u16 1 2 2)) (0 ∷ 3 ∷ 3 ∷ 1 ∷ []) four (coordinate 0 0 0 0) ≡ samples 1 2 (11 ∷ 10 ∷ 13 ∷ 12 ∷ []))
    × (region (turned (single u16 1 2 2)) (0 ∷ 3 ∷ 3 ∷ 1 ∷ []) four (coordinate 0 0 0 0) (rect 1 0 1 1) ≡ samples 1 1 (13 ∷ 12 ∷ []))
    × (plane (turned (single f32 1 1 1)) (0 ∷ 4 ∷ []) four (coordinate 0 0 0 0) ≡ samples 1 1 (13 ∷ 12 ∷ 11 ∷ 10 ∷ []))
unfolding plane plane_from region region_from scene_there coordinate_there coordinates rectangle joined_size plane_strips in_turn region_strips row_strips window_strips whole_rows whole_pages whole_channels whole_channel whole_rows_of whole_strips rows_in picture_size unlimited_size word channel_strips page_of inside total samples_in channel_picture window span stored_picture bytes stored place each_sample bind
turned_round = (refl, refl, refl)

-- "of the strips only the places of its samples in the channel's joined strips"
sample_places :
    -- a rectangle across two strips
    (flat (region_ranges (single u8 2 2 2) (1 ∷ 3 ∷ 0 ∷ 1 ∷ []) four (coordinate 0 0 0 0) (rect 1 0 1 2)) ≡ (2, 1) ∷ (0, 1) ∷ [])
    -- a sample that two strips share
    × (flat (region_ranges (single u16 1 2 2) (0 ∷ 3 ∷ 0 ∷ 1 ∷ []) four (coordinate 0 0 0 0) (rect 1 0 1 1)) ≡ (2, 1) ∷ (0, 1) ∷ [])
unfolding region_ranges window_ranges sample_ranges span_ranges over flat region_from scene_there coordinate_there coordinates rectangle joined_size plane_strips in_turn region_strips row_strips window_strips whole_rows whole_pages whole_channels whole_channel whole_rows_of whole_strips rows_in picture_size unlimited_size word channel_strips page_of inside total place bind
sample_places = (refl, refl)

-- ---- region

region_order :
    -- "Region: scene; t, c, z"
    (region (single u8 1 2 0) [] four (coordinate 1 0 1 0) (rect 3 0 1 1) ≡ refused (5 ∷ 1 ∷ 1 ∷ []))
    × (region (single u8 1 2 0) [] four (coordinate 0 0 1 0) (rect 3 0 1 1) ≡ refused (6 ∷ 0 ∷ 0 ∷ 1 ∷ 0 ∷ []))
    -- "rectangle": 2 before size and page; one whose end passes the picture, one whose end overflows
    × (region (single u8 1 (2 ^ 40) 0) [] four (coordinate 0 0 0 0) (rect (2 ^ 40) 0 1 1) ≡ refused (2 ∷ []))
    × (region (single u8 1 (2 ^ 40) 0) [] four (coordinate 0 0 0 0) (rect (2 ^ 64 - 1) 0 1 1) ≡ refused (2 ∷ []))
    × (region (single u8 1 (2 ^ 40) 0) [] four (coordinate 0 0 0 0) (rect 0 1 1 1) ≡ refused (2 ∷ []))
    -- "empty": accepted, although the picture is oversized and there is no page; not past the picture
    × (region (single u8 1 (2 ^ 40) 0) [] four (coordinate 0 0 0 0) (rect (2 ^ 40) 0 0 1) ≡ samples 1 0 [])
    × (region (single u8 1 (2 ^ 40) 0) [] four (coordinate 0 0 0 0) (rect 0 1 5 0) ≡ samples 0 5 [])
    × (region (single u8 1 2 0) [] four (coordinate 0 0 0 0) (rect 3 0 0 1) ≡ refused (2 ∷ []))
    -- "otherwise all of plane's checks": size first, although the rectangle is small
    × (region (single u8 1 (2 ^ 40) 1) (0 ∷ 4 ∷ []) four (coordinate 0 0 0 0) (rect 0 0 1 1) ≡ refused (4 ∷ 2 ^ 40 ∷ 4294967296 ∷ []))
    -- a strip of this channel outside the file, although no sample of the rectangle is in it
    × (region (single u8 2 1 2) (0 ∷ 1 ∷ 4 ∷ 1 ∷ []) four (coordinate 0 0 0 0) (rect 0 0 1 1) ≡ refused (2 ∷ []))
    -- strips outside the file of another channel and another page do no harm
    × (region (described u8 2 1 1 1 2 1 1) (3 ∷ 1 ∷ 9 ∷ 1 ∷ 9 ∷ 1 ∷ 9 ∷ 1 ∷ []) four (coordinate 0 0 0 0) (rect 0 0 1 1) ≡ samples 1 1 (13 ∷ []))
    -- where every page's strips hold whole rows: the rectangle's size, then the page, then the strips
    × (region (single u8 2 (2 ^ 33) 2) (0 ∷ 2 ^ 33 ∷ 0 ∷ 2 ^ 33 ∷ []) four (coordinate 0 0 0 0) (rect 0 0 (2 ^ 33) 1) ≡ refused (4 ∷ 2 ^ 33 ∷ 4294967296 ∷ []))
    × (region (single u8 2 (2 ^ 33) 2) (0 ∷ 2 ^ 33 ∷ 0 ∷ 2 ^ 33 ∷ []) four (coordinate 0 0 0 0) (rect 0 0 1 1) ≡ refused (2 ∷ []))
    -- "buffer last"
    × (into (region (single u8 1 2 1) (1 ∷ 2 ∷ []) four (coordinate 0 0 0 0) (rect 1 0 1 1)) 0 ≡ refused (7 ∷ 1 ∷ []))
    × (into (region (single u8 1 2 1) (1 ∷ 2 ∷ []) four (coordinate 0 0 0 0) (rect 1 0 0 1)) 0 ≡ samples 1 0 [])
unfolding region region_from into lend scene_there coordinate_there coordinates rectangle joined_size plane_strips in_turn region_strips row_strips window_strips whole_rows whole_pages whole_channels whole_channel whole_rows_of whole_strips rows_in picture_size unlimited_size word channel_strips page_of inside total samples_in channel_picture window span stored_picture bytes stored place each_sample bind
region_order = (refl, refl, refl, refl, refl, refl, refl, refl, refl, refl, refl, refl, refl, refl, refl)

-- ---- the whole-row test

whole_row_test :
    -- two rows of two in strips of one row each; in one strip
    (whole_rows (single u8 2 2 2) (0 ∷ 2 ∷ 2 ∷ 2 ∷ []) ≡ true)
    × (whole_rows (single u8 2 2 1) (0 ∷ 4 ∷ []) ≡ true)
    -- "each strip's bytes to be a multiple of width × sample size"
    × (whole_rows (single u8 2 2 2) (0 ∷ 3 ∷ 3 ∷ 1 ∷ []) ≡ false)
    -- "each channel's rows to add up to the height"
    × (whole_rows (single u8 2 2 1) (0 ∷ 6 ∷ []) ≡ false)
    × (whole_rows (described u8 2 1 2 2 1 1 1) (0 ∷ 4 ∷ 0 ∷ 2 ∷ []) ≡ false)
    -- "a row of 0 bytes means no"
    × (whole_rows (single u8 0 0 1) (0 ∷ 0 ∷ []) ≡ false)
    -- "covers all of them", the pages expected: the second page's strip is short; "a page missing from the table"
    × (whole_rows (described u8 1 2 2 2 1 2 1) (0 ∷ 4 ∷ 0 ∷ 2 ∷ []) ≡ false)
    × (whole_rows (described u8 1 2 2 2 1 2 1) (0 ∷ 4 ∷ []) ≡ false)
    -- "or an overflow, means no": of the row's bytes; of the pages
    × (whole_rows (single u16 1 (2 ^ 63) 1) (0 ∷ 2 ^ 64 ∷ []) ≡ false)
    × (whole_rows (described u8 1 1 1 1 (2 ^ 32) (2 ^ 32) 1) (0 ∷ 1 ∷ []) ≡ false)
unfolding whole_rows whole_pages whole_channels whole_channel whole_rows_of whole_strips rows_in
whole_row_test = (refl, refl, refl, refl, refl, refl, refl, refl, refl, refl)

-- so many planes in the dimensions, so many pages in the layout; one channel, one row of so many columns
abbrev layered : ℕ → ℕ → ℕ → Description
layered planes pages columns = described u8 1 planes 1 columns 1 pages 1

-- "The whole-row test covers all of them": the layout's pages, however many planes the dimensions state. The second page holds three bytes in
-- rows of two.
layout_pages :
    -- two planes, and a layout of one page: yes, since the second page isn't asked; nor is it missing
    (whole_rows (layered 2 1 2) (0 ∷ 2 ∷ 0 ∷ 3 ∷ []) ≡ true)
    × (whole_rows (layered 2 1 2) (0 ∷ 2 ∷ []) ≡ true)
    -- one plane, and a layout of two pages: no, since the second is asked
    × (whole_rows (layered 1 2 2) (0 ∷ 2 ∷ 0 ∷ 3 ∷ []) ≡ false)
    × (whole_rows (layered 1 2 2) (0 ∷ 2 ∷ []) ≡ false)
    -- "So region may accept where plane is oversized": by rows it is the strip outside the file that is refused, by plane's checks the size
    × (region (layered 2 1 (2 ^ 33)) (0 ∷ 2 ^ 33 ∷ 0 ∷ 3 ∷ []) four (coordinate 0 0 0 0) (rect 0 0 1 1) ≡ refused (2 ∷ []))
    × (region (layered 1 2 (2 ^ 33)) (0 ∷ 2 ^ 33 ∷ 0 ∷ 3 ∷ []) four (coordinate 0 0 0 0) (rect 0 0 1 1) ≡ refused (4 ∷ 2 ^ 33 ∷ 4294967296 ∷ []))
unfolding region region_from scene_there coordinate_there coordinates rectangle joined_size plane_strips in_turn region_strips row_strips window_strips whole_rows whole_pages whole_channels whole_channel whole_rows_of whole_strips rows_in picture_size unlimited_size word channel_strips page_of inside total samples_in channel_picture window span stored_picture bytes stored place each_sample bind
layout_pages = (refl, refl, refl, refl, refl, refl)

-- ---- lent memory

-- "7, length needed"
length_needed :
    -- as many as there is room for; one more
    (lend 2 2 ≡ accepted 2)
    × (lend 3 2 ≡ refused (7 ∷ 3 ∷ []))
    -- the largest length that 64 bits can say; one more, and any past that, are refused with the largest
    × (lend (2 ^ 64 - 1) 0 ≡ refused (7 ∷ (2 ^ 64 - 1) ∷ []))
    × (lend (2 ^ 64) (2 ^ 64 - 1) ≡ refused (7 ∷ (2 ^ 64 - 1) ∷ []))
    × (lend (2 ^ 65) 0 ≡ refused (7 ∷ (2 ^ 64 - 1) ∷ []))
unfolding lend bind
length_needed = (refl, refl, refl, refl, refl)

-- ---- channel lookup

lookups :
    -- "Channel lookup (added) checks the channel": 6 with scene, t and z 0
    (lookup little four (Some 0) 2 2 0 ≡ refused (6 ∷ 0 ∷ 0 ∷ 2 ∷ 0 ∷ []))
    -- "If either can't be read, every channel lacks both": a block at the end of the file, and one behind the largest place
    × (lookup little four (Some 4) 2 1 0 ≡ accepted (record { color = None; name = None }))
    × (lookup little four (Some (2 ^ 64 - 1)) 2 1 0 ≡ accepted (record { color = None; name = None }))
    × (lookup little four None 2 1 0 ≡ accepted (record { color = None; name = None }))
unfolding lookup lend channel_in pointers part_at bind
lookups = (refl, refl, refl, refl)

-- a channel block at 0: the colour, which the first pointer at 12 points at; the second pointer without its last byte
abbrev nineteen : List ℕ
nineteen = 0 ∷ 0 ∷ 0 ∷ 0 ∷ 255 ∷ 128 ∷ 64 ∷ 1 ∷ 0 ∷ 0 ∷ 0 ∷ 0 ∷ 4 ∷ 0 ∷ 0 ∷ 0 ∷ 0 ∷ 0 ∷ 0 ∷ []

second_pointer :
    -- "If either can't be read, every channel lacks both": the first can, the second can't
    (lookup little nineteen (Some 0) 1 0 0 ≡ accepted (record { color = None; name = None }))
    × (lookup little (take 16 nineteen) (Some 0) 1 0 0 ≡ accepted (record { color = None; name = None }))
    -- both can, and the second is 0: "A pointer ≤ 0 means none of that sort"
    × (lookup little (nineteen ++ 0 ∷ []) (Some 0) 1 0 0 ≡ accepted (record { color = Some (255 ∷ 128 ∷ 64 ∷ []); name = None }))
unfolding lookup lend channel_in pointers color color_at name name_span i32_at signed32 number_at part_at bind
second_pointer = (refl, refl, refl)

-- "It needs all 4 bytes in the file; the first three are given": at 16 of 20 bytes, and at 17
last_colour :
    (lookup little (set (nineteen ++ 0 ∷ []) 12 16) (Some 0) 1 0 0 ≡ accepted (record { color = Some (0 ∷ 0 ∷ 0 ∷ []); name = None }))
    × (lookup little (set (nineteen ++ 0 ∷ []) 12 17) (Some 0) 1 0 0 ≡ accepted (record { color = None; name = None }))
unfolding lookup lend channel_in pointers color color_at name name_span i32_at signed32 number_at part_at bind
last_colour = (refl, refl)

-- ---- a page past those of the whole-row test

past_the_test :
    -- "the rectangle's size, the page, and all the channel's strips within the file" decide, although this page's strip holds three bytes in rows
    -- of two, and plane refuses it
    (region (described u8 1 2 1 2 1 1 1) (0 ∷ 2 ∷ 0 ∷ 3 ∷ []) four (coordinate 0 0 0 1) (rect 0 0 2 1) ≡ samples 1 2 (10 ∷ 11 ∷ []))
    × (plane (described u8 1 2 1 2 1 1 1) (0 ∷ 2 ∷ 0 ∷ 3 ∷ []) four (coordinate 0 0 0 1) ≡ refused (2 ∷ []))
    -- the size first, although there is no such page; then the page; then the strips, and not the oversized picture
    × (region (described u8 1 2 1 (2 ^ 33) 1 1 1) (0 ∷ 2 ^ 33 ∷ []) four (coordinate 0 0 0 1) (rect 0 0 (2 ^ 33) 1) ≡ refused (4 ∷ 2 ^ 33 ∷ 4294967296 ∷ []))
    × (region (described u8 1 2 1 (2 ^ 33) 1 1 1) (0 ∷ 2 ^ 33 ∷ []) four (coordinate 0 0 0 1) (rect 0 0 1 1) ≡ refused (6 ∷ 0 ∷ 0 ∷ 0 ∷ 1 ∷ []))
    × (region (described u8 1 2 1 (2 ^ 33) 1 1 1) (0 ∷ 2 ^ 33 ∷ 5 ∷ 3 ∷ []) four (coordinate 0 0 0 1) (rect 0 0 1 1) ≡ refused (2 ∷ []))
    × (region (described u8 1 2 1 (2 ^ 33) 1 1 1) (0 ∷ 2 ^ 33 ∷ 0 ∷ 3 ∷ []) four (coordinate 0 0 0 1) (rect 2 0 1 1) ≡ samples 1 1 (12 ∷ []))
    -- a test over no page says yes
    × (region (described u8 1 1 (2 ^ 64 - 1) 5 1 0 3) (0 ∷ 5 ∷ 0 ∷ 5 ∷ 9 ∷ 5 ∷ []) four (coordinate 0 0 0 0) (rect 0 0 1 1) ≡ refused (2 ∷ []))
    × (region (described u8 1 1 (2 ^ 64 - 1) 5 1 0 2) (0 ∷ 4 ∷ 1 ∷ 3 ∷ []) four (coordinate 0 0 0 0) (rect 0 1 2 1) ≡ samples 1 2 (12 ∷ 13 ∷ []))
    -- where the test says no, plane's checks decide there too
    × (region (described u8 1 2 1 2 1 1 1) (0 ∷ 3 ∷ 0 ∷ 3 ∷ []) four (coordinate 0 0 0 1) (rect 0 0 2 1) ≡ refused (2 ∷ []))
    -- z past the depth of a scene may still be a page of the test
    × (region (described u8 1 2 1 2 2 1 1) (0 ∷ 2 ∷ 0 ∷ 3 ∷ []) four (coordinate 0 0 0 1) (rect 0 0 2 1) ≡ refused (2 ∷ []))
unfolding plane plane_from region region_from scene_there coordinate_there coordinates rectangle joined_size plane_strips in_turn region_strips row_strips window_strips whole_rows whole_pages whole_channels whole_channel whole_rows_of whole_strips rows_in picture_size unlimited_size word channel_strips page_of inside total samples_in channel_picture window span stored_picture bytes stored place each_sample bind
past_the_test = (refl, refl, refl, refl, refl, refl, refl, refl, refl, refl)

-- "an outcome that they leave free is named": a sample that is not in the joined strips
missing_sample :
    -- the least input: one sample, a strip of no bytes
    (region (described u8 1 1 1 1 1 0 1) (0 ∷ 0 ∷ []) four (coordinate 0 0 0 0) (rect 0 0 1 1) ≡ refused (2 ∷ []))
    -- three bytes of a picture of two by two: the last sample is missing, and the others are there
    × (region (described u8 1 2 2 2 1 1 1) (0 ∷ 4 ∷ 1 ∷ 3 ∷ []) four (coordinate 0 0 0 1) (rect 1 1 1 1) ≡ refused (2 ∷ []))
    × (region (described u8 1 2 2 2 1 1 1) (0 ∷ 4 ∷ 1 ∷ 3 ∷ []) four (coordinate 0 0 0 1) (rect 0 1 1 1) ≡ samples 1 1 (13 ∷ []))
    × (region (described u8 1 2 2 2 1 1 1) (0 ∷ 4 ∷ 1 ∷ 3 ∷ []) four (coordinate 0 0 0 1) (rect 1 0 1 1) ≡ samples 1 1 (12 ∷ []))
    -- half a sample isn't one
    × (region (described u16 1 1 1 2 1 0 1) (0 ∷ 3 ∷ []) four (coordinate 0 0 0 0) (rect 1 0 1 1) ≡ refused (2 ∷ []))
unfolding region region_from scene_there coordinate_there coordinates rectangle joined_size plane_strips in_turn region_strips row_strips window_strips whole_rows whole_pages whole_channels whole_channel whole_rows_of whole_strips rows_in picture_size unlimited_size word channel_strips page_of inside total samples_in channel_picture window span stored_picture bytes stored place each_sample bind
missing_sample = (refl, refl, refl, refl, refl)

-- ---- another input of docs/DIFFERENCES.md

rows_past_64_bits :
    -- a channel's rows that pass 64 bits: the whole-row test says no
    region (single u8 (2 ^ 33) 1 2) (0 ∷ (2 ^ 64 - 1) ∷ 0 ∷ (2 ^ 33 + 1) ∷ []) four (coordinate 0 0 0 0) (rect 0 0 1 1) ≡ refused (4 ∷ 8589934592 ∷ 4294967296 ∷ [])
unfolding region region_from scene_there coordinate_there coordinates rectangle joined_size plane_strips in_turn region_strips row_strips window_strips whole_rows whole_pages whole_channels whole_channel whole_rows_of whole_strips rows_in picture_size unlimited_size word channel_strips page_of inside total samples_in channel_picture window span stored_picture bytes stored place each_sample bind
rows_past_64_bits = refl
