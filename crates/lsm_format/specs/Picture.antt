-- Pictures and rectangles of them (lsm_reader.rs, plane and region; lsm_region.rs; rows.rs; types.rs, crop).
use Rattle.std.specs.Prelude.{ℕ, zero, suc, ◌+◌, ◌-◌, ◌*◌, ◌/◌, ◌%◌, ◌^◌, Bool, true, false, not, ◌&&◌, List, [], ◌∷◌, ◌++◌, reverse, leb, ltb, eqb, length, get_or}
use Rattle.lsm_format.specs.Answer.{Result, accepted, refused, bind, need, given, decode, oversized_allocation, scene_out_of_range}
use Rattle.lsm_format.specs.Words.{word}
use Rattle.lsm_format.specs.Numbers.{Order, little, big}
use Rattle.lsm_format.specs.Sizes.{sample_size, picture_limit, picture_size}
use Rattle.lsm_format.specs.Rectangle.{Rect, Coordinate, no_picture, coordinates, rectangle, is_empty}
use Rattle.lsm_format.specs.Scenes.{pages, page_of}
use Rattle.lsm_format.specs.Lent.{lend, filled}
use Rattle.lsm_format.specs.Open.{Description, component_planes}

-- ---- strips

-- The strip table: "strip by strip, offset then count"; strip i has the words 2 × i and 2 × i + 1.
abbrev pub offset_of : List ℕ → ℕ → ℕ
offset_of table i = get_or table (2 * i) 0

abbrev pub count_of : List ℕ → ℕ → ℕ
count_of table i = get_or table (2 * i + 1) 0

-- The bytes of the n strips from strip i on.
unfoldable pub total : List ℕ → ℕ → ℕ → ℕ
total table i zero = 0
total table i (suc n) = count_of table i + total table (i + 1) n

-- Where byte k of these strips, joined, stands in the file.
unfoldable pub place : List ℕ → ℕ → ℕ → ℕ → ℕ
place table i zero k = 0
place table i (suc n) k =
    elim (ltb k (count_of table i)) [ true ↦ offset_of table i + k | false ↦ place table (i + 1) n (k - count_of table i) ]

-- Byte k of the joined strips.
unfoldable pub stored : List ℕ → List ℕ → ℕ → ℕ → ℕ → ℕ
stored f table i n k = get_or f (place table i n k) 0

-- A strip that lies "within the file": the sum is exact, so "a strip whose offset plus length overflows" passes its end too.
abbrev pub lies : List ℕ → ℕ → ℕ → Bool
lies table len i = leb (offset_of table i + count_of table i) len

-- All of the n strips from strip i on do.
unfoldable pub inside : List ℕ → ℕ → ℕ → ℕ → Bool
inside table len i zero = true
inside table len i (suc n) = lies table len i && inside table len (i + 1) n

-- "strips in turn, each within the file, then within the picture's size; their total": the n strips from strip i on, with `left`
-- bytes still to come. A strip outside the file is refused with the one row, and bytes that are too many or too few with the other.
unfoldable pub in_turn : List ℕ → List ℕ → List ℕ → ℕ → ℕ → ℕ → ℕ → Result (Unit {0})
in_turn outside miscounted table len i zero left = need miscounted (eqb left 0)
in_turn outside miscounted table len i (suc n) left =
    bind (need outside (lies table len i)) (λ _.
    bind (need miscounted (leb (count_of table i) left)) (λ _.
    in_turn outside miscounted table len (i + 1) n (left - count_of table i)))

-- ---- a picture

-- g a, g (a + 1), .., g (a + n - 1), joined.
unfoldable pub span : ℕ → ℕ → (ℕ → List ℕ) → List ℕ
span a zero g = []
span a (suc n) g = g a ++ span (suc a) n g

-- The bytes a, a + 1, .., a + n - 1 of what has the byte f k at k.
unfoldable pub bytes : (ℕ → ℕ) → ℕ → ℕ → List ℕ
bytes f a n = span a n (λ k. f k ∷ [])

-- A picture gives for a row and a column the sample's bytes.
abbrev pub Picture : Type 0
Picture = ℕ → ℕ → List ℕ

-- "little-endian whatever the file's order"
abbrev pub to_little : Order → List ℕ → List ℕ
to_little little sample = sample
to_little big sample = reverse sample

-- A picture with every sample changed.
unfoldable pub each_sample : (List ℕ → List ℕ) → Picture → Picture
each_sample change p row column = change (p row column)

-- "Samples lie row by row": those of a rectangle of a picture.
unfoldable pub window : Picture → Rect → List ℕ
window p r = span r.y r.h (λ row. span r.x r.w (p row))

-- ---- pages

-- A page holds the strips of its first component plane, then of the second, and so on.
abbrev pub strips_per_page : Description → ℕ
strips_per_page d = component_planes d.interleaved d.dims.c * d.strips_per_channel

-- The component plane that has a channel: its own, or the one that has all.
abbrev pub plane_of : Bool → ℕ → ℕ
plane_of true c = 0
plane_of false c = c

-- "The component values for each pixel are stored contiguously": how many samples a pixel has in a component plane, and which of them is a
-- channel's own.
abbrev pub samples_together : Bool → ℕ → ℕ
samples_together true channels = channels
samples_together false channels = 1

abbrev pub own_sample : Bool → ℕ → ℕ
own_sample true c = c
own_sample false c = 0

-- Those of a pixel in the strips that a channel is read from: the "channels" of request 2's formula, or 1.
abbrev pub pixel_samples : Description → ℕ
pixel_samples d = samples_together d.interleaved d.dims.c

-- A table of `words` words has the page whole, where a page has `strips` strips.
abbrev pub page_in : ℕ → ℕ → ℕ → Bool
page_in strips words page = not (eqb strips 0) && leb (2 * ((page + 1) * strips)) words

-- "no strips per page, or a page not wholly in the table (reckoned exactly)": there is no such page.
abbrev pub has_page : Description → ℕ → ℕ → Bool
has_page d words page = page_in (strips_per_page d) words page

-- The strips that a channel is read from, which follow one another in the table: the first, and how many they are; and which sample of a pixel
-- there is the channel's own.
pub record Strips : Type 0 where
  pub first : ℕ
  pub count : ℕ
  pub sample : ℕ

-- The strips of a page's channel: those of the component plane that has it.
abbrev pub strips_on : Description → ℕ → ℕ → Strips
strips_on d page c =
    record {
      first = page * strips_per_page d + plane_of d.interleaved c * d.strips_per_channel;
      count = d.strips_per_channel;
      sample = own_sample d.interleaved c;
    }

-- "page" of "Order of checks": "A page number that overflows, no strips per page, or a page not wholly in the table [..] is 6". Which strips
-- the picture is read from.
unfoldable pub channel_strips : Description → ℕ → Coordinate → Result Strips
channel_strips d words co =
    bind (given (no_picture co) (page_of d.layout co)) (λ page.
    bind (need (no_picture co) (has_page d words page)) (λ _. accepted (strips_on d page co.c)))

-- ---- plane

-- "scene" of "Order of checks": below the count of scenes, or 5.
unfoldable pub scene_there : Description → ℕ → Result (Unit {0})
scene_there d scene = need (scene_out_of_range scene d.layout.scenes) (ltb scene d.layout.scenes)

-- "scene; t, c, z"
unfoldable pub coordinate_there : Description → Coordinate → Result (Unit {0})
coordinate_there d co = bind (scene_there d co.scene) (λ _. coordinates d.dims co)

-- The bytes that a picture's strips must have: "channels × picture size instead of the picture's size" where the channels are interleaved. "If
-- that product overflows, it is 4 with 2^64 − 1". Where they aren't, it is the picture's size, and fits.
unfoldable pub joined_size : Description → ℕ → Result ℕ
joined_size d size = given (oversized_allocation (2 ^ 64 - 1) picture_limit) (word (pixel_samples d * size))

-- "size; page; strips in turn, each within the file, then within the picture's size; their total", with the product "right after the
-- picture's size". All that is asked of the strips is 2 where it fails.
unfoldable pub plane_strips : Description → List ℕ → ℕ → Coordinate → Result Strips
plane_strips d table len co =
    bind (picture_size d.dims.x d.dims.y d.kind) (λ size.
    bind (joined_size d size) (λ all.
    bind (channel_strips d (length table) co) (λ s.
    bind (in_turn decode decode table len s.first s.count all) (λ _. accepted s))))

-- All of plane's checks but the buffer's: the strips that the picture is read from.
unfoldable pub plane_from : Description → List ℕ → ℕ → Coordinate → Result Strips
plane_from d table len co = bind (coordinate_there d co) (λ _. plane_strips d table len co)

-- What plane and region give: how many rows and columns, and the samples' bytes.
pub record Samples : Type 0 where
  pub rows : ℕ
  pub columns : ℕ
  pub bytes : List ℕ

-- "The sample at row, column, channel stands at ((row × width + column) × channels + channel) × sample size in the joined strips." A channel
-- with strips of its own has one sample of a pixel there, "stored at (row × width + column) × sample size".
abbrev pub sample_place : Description → Strips → ℕ → ℕ → ℕ
sample_place d s row column = ((row * d.dims.x + column) * pixel_samples d + s.sample) * sample_size d.kind

-- "the picture meant is always the channel's joined strips": its samples, as they are stored.
unfoldable pub stored_picture : Description → List ℕ → List ℕ → Strips → Picture
stored_picture d table f s row column =
    bytes (stored f table s.first s.count) (sample_place d s row column) (sample_size d.kind)

-- The picture of these strips, and a rectangle of it.
unfoldable pub channel_picture : Description → List ℕ → List ℕ → Strips → Picture
channel_picture d table f s = each_sample (to_little d.order) (stored_picture d table f s)

unfoldable pub samples_in : Description → List ℕ → List ℕ → Rect → Strips → Samples
samples_in d table f r s = record { rows = r.h; columns = r.w; bytes = window (channel_picture d table f s) r }

abbrev pub whole_picture : Description → Rect
whole_picture d = record { x = 0; y = 0; w = d.dims.x; h = d.dims.y }

unfoldable pub plane : Description → List ℕ → List ℕ → Coordinate → Result Samples
plane d table f co = bind (plane_from d table (length f) co) (λ s. accepted (samples_in d table f (whole_picture d) s))

-- ---- whole rows

abbrev pub row_bytes : Description → ℕ
row_bytes d = d.dims.x * sample_size d.kind

-- "each strip's bytes to be a multiple of width × sample size"
unfoldable pub whole_strips : ℕ → List ℕ → ℕ → ℕ → Bool
whole_strips row table i zero = true
whole_strips row table i (suc n) = eqb (count_of table i % row) 0 && whole_strips row table (i + 1) n

-- The rows that the strips hold.
unfoldable pub rows_in : ℕ → List ℕ → ℕ → ℕ → ℕ
rows_in row table i zero = 0
rows_in row table i (suc n) = count_of table i / row + rows_in row table (i + 1) n

-- "each strip's bytes [..], and each channel's rows to add up to the height": the sum is exact, so that rows that overflow 64 bits don't.
unfoldable pub whole_rows_of : ℕ → List ℕ → ℕ → ℕ → ℕ → Bool
whole_rows_of row table i n height = whole_strips row table i n && eqb (rows_in row table i n) height

unfoldable pub whole_channel : Description → List ℕ → Strips → Bool
whole_channel d table s = whole_rows_of (row_bytes d) table s.first s.count d.dims.y

-- "and all channels": the first n of a page.
unfoldable pub whole_channels : Description → List ℕ → ℕ → ℕ → Bool
whole_channels d table page zero = true
whole_channels d table page (suc n) = whole_channels d table page n && whole_channel d table (strips_on d page n)

-- "a page missing from the table [..] means no"
abbrev pub whole_page : Description → List ℕ → ℕ → Bool
whole_page d table page = has_page d (length table) page && whole_channels d table page d.dims.c

-- The first n pages.
unfoldable pub whole_pages : Description → List ℕ → ℕ → Bool
whole_pages d table zero = true
whole_pages d table (suc n) = whole_pages d table n && whole_page d table n

-- "The whole-row test covers all of them", the pages expected, "and all channels; a page missing from the table, or an overflow, means no";
-- "a row of 0 bytes means no".
unfoldable pub whole_rows : Description → List ℕ → Bool
whole_rows d table =
    not (eqb (row_bytes d) 0)
    && (ltb (row_bytes d) (2 ^ 64) && (ltb (pages d.layout) (2 ^ 64) && whole_pages d table (pages d.layout)))

-- ---- region

-- Where the last sample of a rectangle ends in the joined strips: that of row y + h - 1, column x + w - 1.
abbrev pub window_end : Description → Strips → Rect → ℕ
window_end d s r = sample_place d s (r.y + r.h - 1) (r.x + r.w - 1) + sample_size d.kind

-- "the page, and all the channel's strips within the file". The last line always holds for the pages of the test, whose strips hold all
-- rows of the picture. Past them, where only a handed-in description leads, a sample may be missing: "an outcome that they leave free", and
-- it is 2.
unfoldable pub row_strips : Description → List ℕ → ℕ → Coordinate → Rect → Result Strips
row_strips d table len co r =
    bind (channel_strips d (length table) co) (λ s.
    bind (need decode (inside table len s.first s.count)) (λ _.
    bind (need decode (leb (window_end d s r) (total table s.first s.count))) (λ _. accepted s)))

-- "the rectangle's size" before them
unfoldable pub window_strips : Description → List ℕ → ℕ → Coordinate → Rect → Result Strips
window_strips d table len co r = bind (picture_size r.w r.h d.kind) (λ _. row_strips d table len co r)

-- "then, where every page's strips hold whole rows, [..]; otherwise all of plane's checks". Of an interleaved picture, "Rectangles take
-- plane's checks", whatever its strips hold.
abbrev pub strips_by : Bool → Description → List ℕ → ℕ → Coordinate → Rect → Result Strips
strips_by true d table len co r = window_strips d table len co r
strips_by false d table len co r = plane_strips d table len co

unfoldable pub region_strips : Description → List ℕ → ℕ → Coordinate → Rect → Result Strips
region_strips d table len co r = strips_by (not d.interleaved && whole_rows d table) d table len co r

-- "An in-bounds rectangle of width or height 0 is accepted empty with its shape": it is read from no strips.
abbrev pub no_strips : Strips
no_strips = record { first = 0; count = 0; sample = 0 }

abbrev pub filled_strips : Bool → Description → List ℕ → ℕ → Coordinate → Rect → Result Strips
filled_strips true d table len co r = accepted no_strips
filled_strips false d table len co r = region_strips d table len co r

-- "Region: scene; t, c, z; rectangle; empty; then [..]": all checks but the buffer's.
unfoldable pub region_from : Description → List ℕ → ℕ → Coordinate → Rect → Result Strips
region_from d table len co r =
    bind (coordinate_there d co) (λ _. bind (rectangle d.dims r) (λ _. filled_strips (is_empty r) d table len co r))

unfoldable pub region : Description → List ℕ → List ℕ → Coordinate → Rect → Result Samples
region d table f co r = bind (region_from d table (length f) co r) (λ s. accepted (samples_in d table f r s))

-- ---- the sample buffer

-- "buffer last": 7 with the bytes needed.
unfoldable pub into : Result Samples → ℕ → Result Samples
into s room = bind s (λ a. bind (lend (length a.bytes) room) (λ _. accepted a))

-- What the buffer holds afterwards.
abbrev pub buffer_by : Result Samples → List ℕ → List ℕ
buffer_by (accepted a) lent = filled a.bytes lent
buffer_by (refused row) lent = lent
