-- Coordinates and rectangles of a picture (types.rs, `checked_region`, `PixelRect`).
use Rattle.std.specs.Prelude.{ℕ, ◌+◌, ◌^◌, Bool, ◌||◌, ◌&&◌, List, leb, ltb, eqb}
use Rattle.lsm_format.specs.Answer.{Result, bind, need, decode, out_of_range}

-- Dimensions, in the canonical order: time points, channels, depth, height, width.
pub record Dims : Type 0 where
  pub t : ℕ
  pub c : ℕ
  pub z : ℕ
  pub y : ℕ
  pub x : ℕ

-- A rectangle: its left column and top row, its width and height.
pub record Rect : Type 0 where
  pub x : ℕ
  pub y : ℕ
  pub w : ℕ
  pub h : ℕ

-- Which picture is asked for: the scene, then "t, c, z".
pub record Coordinate : Type 0 where
  pub scene : ℕ
  pub t : ℕ
  pub c : ℕ
  pub z : ℕ

abbrev pub coordinate : ℕ → ℕ → ℕ → ℕ → Coordinate
coordinate scene t c z = record { scene = scene; t = t; c = c; z = z }

-- "6, scene, t, c, z": there is no such picture.
abbrev pub no_picture : Coordinate → List ℕ
no_picture co = out_of_range co.scene co.t co.c co.z

-- "t, c, z" of "Order of checks": each below its dimension, or 6.
unfoldable pub coordinates : Dims → Coordinate → Result (Unit {0})
coordinates d co = need (no_picture co) (ltb co.t d.t && ltb co.c d.c && ltb co.z d.z)

-- An end, start plus extent, that neither overflows nor passes the picture.
abbrev pub within : ℕ → ℕ → ℕ → Bool
within start extent size = ltb (start + extent) (2 ^ 64) && leb (start + extent) size

-- "A rectangle whose end overflows or passes the picture is Decode."
unfoldable pub rectangle : Dims → Rect → Result (Unit {0})
rectangle d r = need decode (within r.x r.w d.x && within r.y r.h d.y)

-- The coordinate first, then the rectangle.
unfoldable pub in_picture : Dims → Coordinate → Rect → Result (Unit {0})
in_picture d co r = bind (coordinates d co) (λ _. rectangle d r)

-- A "rectangle of width or height 0" is empty.
abbrev pub is_empty : Rect → Bool
is_empty r = eqb r.w 0 || eqb r.h 0
