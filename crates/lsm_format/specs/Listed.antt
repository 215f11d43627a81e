-- Document 01's list, "The bytes that are read", drawn up from one file: the whole list, and the one of a single rectangle.
use Rattle.std.specs.Prelude.{ℕ, zero, suc, List, [], ◌∷◌, length}
use Rattle.lsm_format.specs.Ranges.{Ranges, nothing, at, both, over, in_file}
use Rattle.lsm_format.specs.Sizes.{sample_size}
use Rattle.lsm_format.specs.Rectangle.{Rect, Coordinate}
use Rattle.lsm_format.specs.Channels.{channels_ranges}
use Rattle.lsm_format.specs.Open.{Description, read, open_ranges}
use Rattle.lsm_format.specs.Picture.{Strips, place, sample_place, region_from}

-- ---- the whole list

-- "the in-file strips of full pages": the table has the offset and the count of each
unfoldable pub strips_ranges : List ℕ → List ℕ → Ranges
strips_ranges f [] = nothing
strips_ranges f (offset ∷ []) = nothing
strips_ranges f (offset ∷ count ∷ words) = both (in_file f offset count) (strips_ranges f words)

-- "in the channel block [..]", of every channel
abbrev pub channel_block_ranges : List ℕ → Description → Ranges
channel_block_ranges f d = channels_ranges d.order f d.channel_block d.dims.c

-- "The 8-byte header; each visited directory [..]; in the CZ block used [..]; in the channel block [..]; the in-file strips of full
-- pages."
unfoldable pub listed : List ℕ → Ranges
listed f = both (open_ranges f) (over (read f) (λ x. both (channel_block_ranges f x.description) (strips_ranges f x.table)))

-- ---- the list of one rectangle

-- What is read at a, a + 1, .., a + n - 1.
unfoldable pub span_ranges : ℕ → ℕ → (ℕ → Ranges) → Ranges
span_ranges a zero r = nothing
span_ranges a (suc n) r = both (r a) (span_ranges (suc a) n r)

-- A sample's bytes, each at its place in the file.
unfoldable pub sample_ranges : Description → List ℕ → Strips → ℕ → ℕ → Ranges
sample_ranges d table s row column =
    span_ranges (sample_place d s row column) (sample_size d.kind)
    (λ k. at (place table s.first s.count k) 1)

-- "of the strips only the places of its samples in the channel's joined strips"; "The pixel bytes listed for a rectangle are those of its own
-- channel", whatever stands between them. An empty rectangle has none.
unfoldable pub window_ranges : Description → List ℕ → Rect → Strips → Ranges
window_ranges d table r s = span_ranges r.y r.h (λ row. span_ranges r.x r.w (λ column. sample_ranges d table s row column))

-- "none if it isn't accepted". The room in the buffer isn't among region's checks here, since "accepted means not refused, or refused with 7
-- only".
unfoldable pub region_ranges : Description → List ℕ → List ℕ → Coordinate → Rect → Ranges
region_ranges d table f co r = over (region_from d table (length f) co r) (λ s. window_ranges d table r s)

-- "For one rectangle, of the strips only the places of its samples [..]; opening and that rectangle's call then answer alike."
unfoldable pub listed_for : List ℕ → Coordinate → Rect → Ranges
listed_for f co r = both (open_ranges f) (over (read f) (λ x. region_ranges x.description x.table f co r))
