-- Demand 3, its first half: "Take an accepted file, and whatever anyone writes over bytes of it that document 01 doesn't list as read, its
-- length unchanged. Opening, and then, with what it gave, every call of plane, region or channel lookup, whatever its other arguments, answers
-- alike before and after, lent lengths being equal: the same description, strip table, directory count, pictures, rectangles, colours, names,
-- and refusals with their numbers. For one rectangle, the pixel bytes listed are only its own samples." The statement is `SpareBytes` at the
-- end, and `SpareSamples` for one rectangle; proofs/Blind.antt proves both. The list is `listed` of lsm_format/specs/Listed.antt. The demand's
-- second half is Exact.antt. Other words in quotation marks are document 01's.
use Rattle.std.specs.Prelude.{ℕ, ◌≡◌, List, length, get_or}
use Rattle.lsm_format.specs.Answer.{Result, accepted}
use Rattle.lsm_format.specs.Ranges.{Ranges, flat, Inside}
use Rattle.lsm_format.specs.Rectangle.{Rect, Coordinate}
use Rattle.lsm_format.specs.Channels.{Channel, lookup, lookup_memory}
use Rattle.lsm_format.specs.Open.{Opened, open_file, open_memory}
use Rattle.lsm_format.specs.Picture.{Samples, plane, region, into, buffer_by}
use Rattle.lsm_format.specs.Listed.{listed, listed_for}

-- "whatever anyone writes over bytes of it that document 01 doesn't list as read, its length unchanged": g is f so overwritten, in any number
-- of bytes. "File length counts as read."
pub record Overwritten (list : Ranges) (f g : List ℕ) : Type 0 where
  pub same_length : length g ≡ length f
  pub same_listed : (p : ℕ) → Inside p (flat list) → get_or g p 0 ≡ get_or f p 0

-- What a caller holds who has opened a file: "the description and table that opening that same file gave, whatever lent memory held".
-- The memory lent for the table may be of any length that opening accepts, and past the table's words it is as it was.
pub record Held (f : List ℕ) : Type 0 where
  pub lent : List ℕ
  pub opened : Opened
  pub gave : open_file f (length lent) ≡ accepted opened

-- ---- the later calls, with what is held

abbrev pub plane_of : (f : List ℕ) → Held f → Coordinate → Result Samples
plane_of f h co = plane h.opened.description (open_memory f h.lent) f co

abbrev pub region_of : (f : List ℕ) → Held f → Coordinate → Rect → Result Samples
region_of f h co r = region h.opened.description (open_memory f h.lent) f co r

abbrev pub lookup_of : (f : List ℕ) → Held f → ℕ → ℕ → Result Channel
lookup_of f h channel room =
    lookup h.opened.description.order f h.opened.description.channel_block h.opened.description.dims.c channel room

abbrev pub lookup_left : (f : List ℕ) → Held f → ℕ → List ℕ → List ℕ
lookup_left f h channel buffer =
    lookup_memory h.opened.description.order f h.opened.description.channel_block h.opened.description.dims.c channel buffer

-- ---- opening

-- Opening answers alike: the description and the count of directories, or the refusal with its numbers, whatever room the table has;
-- and it leaves the same in the table.
pub record OpensAlike (f g : List ℕ) : Type 0 where
  pub open_answer : (room : ℕ) → open_file g room ≡ open_file f room
  pub open_leaves : (lent : List ℕ) → open_memory g lent ≡ open_memory f lent

-- ---- one rectangle's call

-- Before and after, with what the opening of that same file gave: the same samples or refusal, whatever room the buffer has, and the same
-- left in the buffer.
pub record RegionAlike (f g : List ℕ) (co : Coordinate) (r : Rect) : Type 0 where
  pub region_answer : (a : Held f) (b : Held g) (room : ℕ) → into (region_of g b co r) room ≡ into (region_of f a co r) room
  pub region_leaves : (a : Held f) (b : Held g) (buffer : List ℕ) →
      buffer_by (region_of g b co r) buffer ≡ buffer_by (region_of f a co r) buffer

-- ---- every call

-- "Opening, and then, with what it gave, every call of plane, region or channel lookup, whatever its other arguments, answers alike"
pub record Blind (f g : List ℕ) : Type 0 where
  pub opening : OpensAlike f g
  pub plane_answer : (a : Held f) (b : Held g) (co : Coordinate) (room : ℕ) →
      into (plane_of g b co) room ≡ into (plane_of f a co) room
  pub plane_leaves : (a : Held f) (b : Held g) (co : Coordinate) (buffer : List ℕ) →
      buffer_by (plane_of g b co) buffer ≡ buffer_by (plane_of f a co) buffer
  pub regions : (co : Coordinate) (r : Rect) → RegionAlike f g co r
  pub lookup_answer : (a : Held f) (b : Held g) (channel room : ℕ) → lookup_of g b channel room ≡ lookup_of f a channel room
  pub lookup_leaves : (a : Held f) (b : Held g) (channel : ℕ) (buffer : List ℕ) →
      lookup_left g b channel buffer ≡ lookup_left f a channel buffer

-- "opening and that rectangle's call then answer alike"
pub record BlindFor (f g : List ℕ) (co : Coordinate) (r : Rect) : Type 0 where
  pub opening : OpensAlike f g
  pub rectangle : RegionAlike f g co r

-- ---- the statement

-- "The list is drawn up before overwriting": from f. Where opening refuses f nothing is held, and opening alone answers, alike.
abbrev pub SpareBytes : Type 0
SpareBytes = (f g : List ℕ) → Overwritten (listed f) f g → Blind f g

-- "For one rectangle, of the strips only the places of its samples"
abbrev pub SpareSamples : Type 0
SpareSamples = (f g : List ℕ) (co : Coordinate) (r : Rect) → Overwritten (listed_for f co r) f g → BlindFor f g co r
