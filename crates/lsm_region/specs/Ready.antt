-- What makes a rectangle ready to be copied.
use Rattle.std.specs.Prelude.{ℕ, ◌+◌, ◌*◌, ◌^◌, ◌≤◌, ◌<◌, ◌≡◌, true, List, length}
use Rattle.lsm_format.specs.Open.{Description}
use Rattle.lsm_format.specs.Rectangle.{Rect}
use Rattle.lsm_format.specs.Sizes.{sample_size, picture_bytes}
use Rattle.lsm_format.specs.Picture.{Strips, total, inside, pixel_samples, window_end}

-- All that copying a rectangle from these strips asks for. A row's bytes fit the machine; a place in the joined strips need not. A rectangle
-- without samples asks nothing of either.
pub record Ready (d : Description) (t : List ℕ) (len : ℕ) (s : Strips) (r : Rect) : Type 0 where
  pub words : 2 * (s.first + s.count) ≤ length t
  pub across : r.x + r.w ≤ d.dims.x
  pub size : picture_bytes r.w r.h d.kind < 2 ^ 64
  pub own : 0 < r.w → 0 < r.h → s.sample < pixel_samples d
  pub line : 0 < r.w → 0 < r.h → d.dims.x * (pixel_samples d * sample_size d.kind) < 2 ^ 64
  pub held : 0 < r.w → 0 < r.h → window_end d s r ≤ total t s.first s.count
  pub within : inside t len s.first s.count ≡ true
