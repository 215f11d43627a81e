-- Document 01's marked cases (◆) hold, all in one theorem; and unmarked cases that stand beside them in the paper. Each is computed from the
-- definitions; the file limit, for which no file can be written down, is shown for every file. Assumes nothing.
use Prim.Native.Nat.{ℕ, ◌≤◌, ◌<◌}
use mathlib.Core.Path.{◌≡◌, refl}
use mathlib.Core.Bool.{true, false}
use mathlib.Core.List.{List, [], ◌∷◌}
use lib.Dec.{eqb}
use lib.IntN.{pos, negsuc}
use lib.ListN.{length, take, drop, set}
use borrow.Author.Tests.{le-leb, lt-leb}
use lib.Ieee.{binary32, of_bits, of_fields, odd}
use Rattle.lsm_format.specs.Answer.{Result, accepted, refused, bind}
use Rattle.lsm_format.specs.Words.{word}
use Rattle.lsm_format.specs.Numbers.{Order, little, big, part_at, number_at, u32_at, i32_at, signed32}
use Rattle.lsm_format.specs.Sizes.{picture_size, unlimited_size}
use Rattle.lsm_format.specs.Rectangle.{coordinates, rectangle}
use Rattle.lsm_format.specs.Scenes.{layout, scenes, pages_expected, page_of}
use Rattle.lsm_format.specs.Lent.{lend}
use Rattle.lsm_format.specs.CzInfo.{cz_info, header, extents, voxels, channel_block, shots}
use Rattle.lsm_format.specs.Directory.{directory, ends, entries, entry, scalar, scalar_values, array, array_values, entry_values, value_at, values_at, value_place, type_size, integer_size}
use Rattle.lsm_format.specs.Open.{open_file, read, order_mark, tiff_header, Walk, start, table_words, walk, chain, join, agrees, describe_walk, agreement, layout_for, describe}
use Rattle.lsm_format.specs.Picture.{scene_there, coordinate_there, plane, plane_from, joined_size, plane_strips, in_turn, channel_strips, inside, total, samples_in, channel_picture, window, span, stored_picture, bytes, stored, place, each_sample, region, region_from, region_strips, whole_rows, whole_pages, whole_channels, whole_channel, whole_rows_of, whole_strips, rows_in, row_strips, window_strips}
use Rattle.lsm_format.specs.Utf8.{lossy, lossy_by, piece}
use Rattle.lsm_format.specs.Calibration.{figure, tens_above, tens_below}
use Rattle.lsm_format.specs.Channels.{channel_in}
use Rattle.lsm_format.specs.Printout.{printout, text, accepted_lines, head_lines, dims_line, kind_line, pixel_line, scenes_line, scene_line, channels_line, channel_line, note_lines, each, decimal, decimal_by}
use Rattle.marked_cases.specs.Marked.{G, G-with, G-plane, G-region, Marked}

-- ---- the marked cases

pub marked : Marked
unfolding figure tens_above tens_below lossy lossy_by piece open_file read tiff_header walk chain join agrees directory ends entries entry scalar scalar_values array array_values entry_values value_at values_at value_place type_size integer_size describe_walk agreement layout_for describe cz_info header extents voxels channel_block shots i32_at signed32 number_at part_at layout scenes pages_expected word lend bind scene_there coordinate_there coordinates rectangle plane plane_from joined_size plane_strips in_turn picture_size unlimited_size channel_strips page_of inside total samples_in channel_picture window span stored_picture bytes stored place each_sample region region_from region_strips whole_rows whole_pages whole_channels whole_channel whole_rows_of whole_strips rows_in row_strips window_strips
marked = record {
  figure_1005 = refl;
  figure_1015 = refl;
  figure_9995 = refl;
  lossy_C3_28 = refl;
  lossy_ED_A0_80 = refl;
  G-opens = refl;
  size_0 = refl;
  size_27 = refl;
  declared_27 = refl;
  Z-0 = refl;
  T-2 = refl;
  strip_3_opens = refl;
  strip_3_plane = refl;
  strip_1_opens = refl;
  strip_1_plane = refl;
  strip_1_empty = refl;
  G-column-1 = refl;
}

-- ---- beside them: the figure of a note

-- "The f32 after 1000 (bits hex 447a0001) gives `1e3`."
figure_after_1000 : figure (of_bits binary32 0x447a0001) ≡ 49 ∷ 101 ∷ 51 ∷ []
unfolding figure tens_above tens_below of_bits of_fields odd
figure_after_1000 = refl

-- ---- lossy UTF-8

-- "E2 82 gives one"
lossy_E2_82 : lossy (0xE2 ∷ 0x82 ∷ []) ≡ 0xEF ∷ 0xBF ∷ 0xBD ∷ []
unfolding lossy lossy_by piece
lossy_E2_82 = refl

-- ---- numbers

-- two's complement (TIFF 6.0): the largest number, the least, and -1
signed :
    (i32_at little (255 ∷ 255 ∷ 255 ∷ 127 ∷ []) 0 ≡ accepted (pos 2147483647))
    × (i32_at little (0 ∷ 0 ∷ 0 ∷ 128 ∷ []) 0 ≡ accepted (negsuc 2147483647))
    × (i32_at big (128 ∷ 0 ∷ 0 ∷ 0 ∷ []) 0 ≡ accepted (negsuc 2147483647))
    × (i32_at big (255 ∷ 255 ∷ 255 ∷ 255 ∷ []) 0 ≡ accepted (negsuc 0))
unfolding i32_at signed32 number_at part_at bind
signed = (refl, refl, refl, refl)

-- ---- opening: the file limit, the header and the chain

-- "file limit; header": a file above "the 68,719,476,736-byte file limit" is refused with both numbers, whatever its header is
above_limit : (f : List ℕ) (room : ℕ) → 68719476736 < length f → open_file f room ≡ refused (4 ∷ length f ∷ 68719476736 ∷ [])
unfolding open_file read bind
above_limit f room above = rw (lt-leb (length f) 68719476736 above) refl

-- and one of at most so many bytes isn't: its header and its directories decide
up_to_limit : (f : List ℕ) → length f ≤ 68719476736 →
    read f ≡ bind (tiff_header f) (λ o. bind (walk o f) (λ w. bind (describe_walk o f w) (λ d.
    accepted (record { description = d; visited = w.visited; table = table_words w.pages }))))
unfolding read bind
up_to_limit f below = rw (le-leb (length f) 68719476736 below) refl

-- little-endian, the first directory's place 0: no directory
abbrev pub bare : List ℕ
bare = 0x49 ∷ 0x49 ∷ 42 ∷ 0 ∷ 0 ∷ 0 ∷ 0 ∷ 0 ∷ []

marks :
    -- "Under 8 bytes [..] is Parse"; 8 go on to "pages present"
    (tiff_header (take 7 bare) ≡ refused (1 ∷ []))
    × (open_file (take 7 bare) 0 ≡ refused (1 ∷ []))
    × (open_file bare 0 ≡ refused (2 ∷ []))
    -- "a wrong order mark": both bytes count
    × (order_mark 0x49 0x49 ≡ accepted little)
    × (order_mark 0x4D 0x4D ≡ accepted big)
    × (order_mark 0x4D 0x49 ≡ refused (1 ∷ []))
    × (order_mark 0x49 0x4D ≡ refused (1 ∷ []))
    -- "or magic other than 42"
    × (tiff_header (set bare 2 43) ≡ refused (1 ∷ []))
    × (tiff_header (0x4D ∷ 0x4D ∷ 0 ∷ 42 ∷ 0 ∷ 0 ∷ 0 ∷ 0 ∷ []) ≡ accepted big)
unfolding open_file read tiff_header walk chain describe_walk number_at part_at bind
marks = (refl, refl, refl, refl, refl, refl, refl, refl, refl)

-- "The 1,000,001st visited directory is Parse; exactly 1,000,000 pass."
chain_limit : (o : Order) (f : List ℕ) → walk o f ≡ bind (u32_at o f 4) (λ place. chain 1000000 (eqb place 0) o f place start)
unfolding walk
chain_limit o f = refl

-- with no directory left, the next is Parse, and where there is none the walk ends
none_left :
    (o : Order) (f : List ℕ) (place : ℕ) (w : Walk) →
    (chain 0 false o f place w ≡ refused (1 ∷ [])) × (chain 0 true o f place w ≡ accepted w)
unfolding chain
none_left o f place w = (refl, refl)

-- two directories of no entries, at 0 and at 6
abbrev pub two : List ℕ
two = 0 ∷ 0 ∷ 6 ∷ 0 ∷ 0 ∷ 0 ∷ 0 ∷ 0 ∷ 0 ∷ 0 ∷ 0 ∷ 0 ∷ []

-- the directories visited from 0 on, where at most n may be
abbrev visits : ℕ → List ℕ → Result ℕ
visits n f = bind (chain n false little f 0 start) (λ w. accepted w.visited)

-- as many as may be visited pass, and one more is Parse
one_left : (visits 1 (drop 6 two) ≡ accepted 1) × (visits 1 two ≡ refused (1 ∷ [])) × (visits 2 two ≡ accepted 2)
unfolding chain join agrees directory ends entries number_at part_at bind
one_left = (refl, refl, refl)

-- ---- the small file G

-- the strip table's length comes last: 7 with the words needed
one_word : open_file G 1 ≡ refused (7 ∷ 2 ∷ [])
unfolding open_file read tiff_header walk chain join agrees directory ends entries entry scalar scalar_values array array_values entry_values value_at values_at value_place type_size integer_size describe_walk agreement layout_for describe cz_info header extents voxels channel_block shots i32_at signed32 number_at part_at layout scenes pages_expected word lend bind
one_word = refl

pictures :
    -- "Bytes 116 and 117 are 7 and 9": G's picture
    (G-plane G ≡ accepted (record { rows = 1; columns = 2; bytes = 7 ∷ 9 ∷ [] }))
    -- the rectangle at column 1 where plane is refused
    × (G-region (G-with 66 1) 1 0 1 1 ≡ refused (2 ∷ []))
unfolding open_file read tiff_header walk chain join agrees directory ends entries entry scalar scalar_values array array_values entry_values value_at values_at value_place type_size integer_size describe_walk agreement layout_for describe cz_info header extents voxels channel_block shots i32_at signed32 number_at part_at layout scenes pages_expected word lend bind scene_there coordinate_there coordinates rectangle plane plane_from joined_size plane_strips in_turn picture_size unlimited_size channel_strips page_of inside total samples_in channel_picture window span stored_picture bytes stored place each_sample region region_from region_strips whole_rows whole_pages whole_channels whole_channel whole_rows_of whole_strips rows_in row_strips window_strips
pictures = (refl, refl)

-- ---- what the lister prints

-- "The program `lsm-list`, G on standard input [..], prints:" nine lines
printed : printout G ≡
    -- accepted
    97 ∷ 99 ∷ 99 ∷ 101 ∷ 112 ∷ 116 ∷ 101 ∷ 100 ∷ 10
    -- dims 1 1 1 1 2
    ∷ 100 ∷ 105 ∷ 109 ∷ 115 ∷ 32 ∷ 49 ∷ 32 ∷ 49 ∷ 32 ∷ 49 ∷ 32 ∷ 49 ∷ 32 ∷ 50 ∷ 10
    -- kind 0
    ∷ 107 ∷ 105 ∷ 110 ∷ 100 ∷ 32 ∷ 48 ∷ 10
    -- pixel - - -
    ∷ 112 ∷ 105 ∷ 120 ∷ 101 ∷ 108 ∷ 32 ∷ 45 ∷ 32 ∷ 45 ∷ 32 ∷ 45 ∷ 10
    -- scenes 1
    ∷ 115 ∷ 99 ∷ 101 ∷ 110 ∷ 101 ∷ 115 ∷ 32 ∷ 49 ∷ 10
    -- image
    ∷ 105 ∷ 109 ∷ 97 ∷ 103 ∷ 101 ∷ 10
    -- channels 1
    ∷ 99 ∷ 104 ∷ 97 ∷ 110 ∷ 110 ∷ 101 ∷ 108 ∷ 115 ∷ 32 ∷ 49 ∷ 10
    -- - -
    ∷ 45 ∷ 32 ∷ 45 ∷ 10
    -- notes 0
    ∷ 110 ∷ 111 ∷ 116 ∷ 101 ∷ 115 ∷ 32 ∷ 48 ∷ 10 ∷ []
unfolding printout text accepted_lines head_lines dims_line kind_line pixel_line scenes_line scene_line channels_line channel_line note_lines each decimal decimal_by channel_in open_file read tiff_header walk chain join agrees directory ends entries entry scalar scalar_values array array_values entry_values value_at values_at value_place type_size integer_size describe_walk agreement layout_for describe cz_info header extents voxels channel_block shots i32_at signed32 number_at part_at layout scenes pages_expected word lend bind
printed = refl
