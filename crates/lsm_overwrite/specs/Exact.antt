-- Demand 3, its second half: "Whatever description, table and file are given, and with a buffer long enough, each accepted rectangle of h
-- rows and w columns from row y, column x has at i, j, for every i below h and j below w, exactly the sample at y + i, x + j of the picture
-- defined under 2, and nothing more; and every rectangle inside an accepted picture is accepted." The statement is `EachRectangle`,
-- `EachPlane` and `EveryInside` at the end, for planar and interleaved pictures alike; proofs/Exact.antt proves them. What a function leaves in
-- the caller's buffer is `Delivered`.
use Rattle.std.specs.Prelude.{ℕ, zero, suc, ◌+◌, ◌*◌, ◌^◌, ◌≤◌, ◌<◌, ◌⊎◌, ◌≡◌, List, [], ◌∷◌, ◌++◌, length, take, drop}
use Rattle.lsm_format.specs.Answer.{Result, accepted, refused}
use Rattle.lsm_format.specs.Sizes.{sample_size}
use Rattle.lsm_format.specs.Rectangle.{Dims, Rect, Coordinate}
use Rattle.lsm_format.specs.Scenes.{page_number}
use Rattle.lsm_format.specs.Open.{Description}
use Rattle.lsm_format.specs.Picture.{Strips, Samples, offset_of, count_of, sample_place, strips_on, to_little, whole_picture, plane, region, into}

-- ---- "the picture defined under 2", by what the caller names

-- The strips of the channel on the page of "a picture's page is (scene × T + t) × depth + z" (document 02, request 1).
abbrev pub named_strips : Description → Coordinate → Strips
named_strips d co = strips_on d (page_number d.layout co) co.c

-- n strips from strip i on, joined: the bytes of one after those of the other.
unfoldable pub strip_bytes : List ℕ → List ℕ → ℕ → ℕ → List ℕ
strip_bytes f table i zero = []
strip_bytes f table i (suc n) = take (count_of table i) (drop (offset_of table i) f) ++ strip_bytes f table (i + 1) n

-- "the picture meant is always the channel's joined strips"
unfoldable pub joined_strips : Description → List ℕ → List ℕ → Coordinate → List ℕ
joined_strips d table f co = strip_bytes f table (named_strips d co).first (named_strips d co).count

-- "with the sample at row, column stored at (row × width + column) × sample size", or, interleaved, "at ((row × width + column) × channels +
-- channel) × sample size in the joined strips".
abbrev pub named_place : Description → Coordinate → ℕ → ℕ → ℕ
named_place d co row column = sample_place d (named_strips d co) row column

-- s bytes from a place on
abbrev pub bytes_from : List ℕ → ℕ → ℕ → List ℕ
bytes_from bytes at s = take s (drop at bytes)

-- "little-endian whatever the file's order"
unfoldable pub picture_sample : Description → List ℕ → List ℕ → Coordinate → ℕ → ℕ → List ℕ
picture_sample d table f co row column =
    to_little d.order (bytes_from (joined_strips d table f co) (named_place d co row column) (sample_size d.kind))

-- A sample that is there, all of it: the channel's strips are in the table, each of them lies in the file, and joined they have the sample's
-- bytes. So no byte is made up for one that is missing.
pub record There (d : Description) (table f : List ℕ) (co : Coordinate) (row column : ℕ) : Type 0 where
  pub in_table : 2 * ((named_strips d co).first + (named_strips d co).count) ≤ length table
  pub in_file : (k : ℕ) → k < (named_strips d co).count →
      offset_of table ((named_strips d co).first + k) + count_of table ((named_strips d co).first + k) ≤ length f
  pub in_strips : named_place d co row column + sample_size d.kind ≤ length (joined_strips d table f co)

-- ---- an answer

-- Rows, columns and bytes that are a rectangle of the picture.
pub record Exact (d : Description) (table f : List ℕ) (co : Coordinate) (r : Rect) (rows columns : ℕ) (bytes : List ℕ) : Type 0 where
  -- "of h rows and w columns"
  pub high : rows ≡ r.h
  pub wide : columns ≡ r.w
  -- "has at i, j, for every i below h and j below w, exactly the sample at y + i, x + j": "the one at i, j of an answer w columns wide stands
  -- at (i × w + j) × sample size"
  pub sample : (i j : ℕ) → i < r.h → j < r.w →
      bytes_from bytes ((i * r.w + j) * sample_size d.kind) (sample_size d.kind) ≡ picture_sample d table f co (r.y + i) (r.x + j)
  pub there : (i j : ℕ) → i < r.h → j < r.w → There d table f co (r.y + i) (r.x + j)
  -- "and nothing more"
  pub size : length bytes ≡ r.h * r.w * sample_size d.kind

-- The same in the caller's buffer: n bytes at its front, which have room there ("a buffer long enough"); past them it is as it was.
pub record Delivered (d : Description) (table f : List ℕ) (co : Coordinate) (r : Rect) (before after : List ℕ) (rows columns bytes : ℕ) : Type 0 where
  pub exact : Exact d table f co r rows columns (take bytes after)
  pub count : bytes ≡ r.h * r.w * sample_size d.kind
  pub long : bytes ≤ length before
  pub past : drop bytes after ≡ drop bytes before

-- ---- accepted, inside

-- "In demand 3, accepted means not refused, or refused with 7 only"
abbrev pub Accepted : {A : Type 0} → Result A → Type 0
Accepted {A} m = ((a : A) × (m ≡ accepted a)) ⊎ ((needed : ℕ) × (m ≡ refused (7 ∷ needed ∷ [])))

-- "inside means that no end overflows or passes the picture"
pub record Inside (d : Dims) (r : Rect) : Type 0 where
  pub right : (r.x + r.w < 2 ^ 64) × (r.x + r.w ≤ d.x)
  pub bottom : (r.y + r.h < 2 ^ 64) × (r.y + r.h ≤ d.y)

-- ---- the statement

-- "Whatever description, table and file are given, [..] each accepted rectangle": what region gives before the buffer's room is asked for.
abbrev pub EachRectangle : Type 0
EachRectangle = (d : Description) (table f : List ℕ) (co : Coordinate) (r : Rect) (a : Samples) →
    region d table f co r ≡ accepted a → Exact d table f co r a.rows a.columns a.bytes

-- The same of a whole picture.
abbrev pub EachPlane : Type 0
EachPlane = (d : Description) (table f : List ℕ) (co : Coordinate) (a : Samples) →
    plane d table f co ≡ accepted a → Exact d table f co (whole_picture d) a.rows a.columns a.bytes

-- "every rectangle inside an accepted picture is accepted", whatever the rooms of the two buffers
abbrev pub EveryInside : Type 0
EveryInside = (d : Description) (table f : List ℕ) (co : Coordinate) (r : Rect) (room room' : ℕ) →
    Accepted (into (plane d table f co) room) → Inside d.dims r → Accepted (into (region d table f co r) room')
