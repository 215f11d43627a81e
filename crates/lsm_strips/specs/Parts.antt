-- What the functions answer, in the definitions' terms, and what they ask.
use Rattle.std.specs.Prelude.{ℕ, ◌+◌, ◌*◌, ◌^◌, ◌≤◌, ◌<◌, Bool, false, cond, leb, Option, None, Some}
use Rattle.lsm_format.specs.Open.{Description}
use Rattle.lsm_format.specs.Rectangle.{Rect, Coordinate}
use Rattle.lsm_format.specs.Scenes.{pages, page_of}
use Rattle.lsm_format.specs.Picture as Rule
use Rattle.lsm_format.specs.Picture.{strips_per_page, has_page}
use Rattle.lsm_strips.specs.declared.StripRun.{StripRun}

-- The strips that a picture is read from.
abbrev pub strips_of : StripRun → Rule.Strips
strips_of s = record { first = s.first; count = s.count; sample = s.sample }

-- The first strip of a page that the table has.
unfoldable pub start_of : Description → ℕ → ℕ → Option ℕ
start_of d words page = cond (has_page d words page) (Some (page * strips_per_page d)) None

-- The page asked for is there by its number, and past those of the whole-row test.
abbrev pub past_by : Description → Option ℕ → Bool
past_by d None = false
past_by d (Some page) = leb (pages d.layout) page

unfoldable pub past_test : Description → Coordinate → Bool
past_test d co = past_by d (page_of d.layout co)

-- A rectangle that has samples, no end of which overflows or passes the picture.
pub record Lying (d : Description) (r : Rect) : Type 0 where
  pub right : r.x + r.w < 2 ^ 64
  pub across : r.x + r.w ≤ d.dims.x
  pub bottom : r.y + r.h < 2 ^ 64
  pub down : r.y + r.h ≤ d.dims.y
  pub columns : 0 < r.w
  pub rows : 0 < r.h
