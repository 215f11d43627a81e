-- Scenes and their pages (lsm_positions.rs).
use Rattle.std.specs.Prelude.{ℕ, ◌+◌, ◌*◌, max, true, false, ltb, ℤ, pos, negsuc, Option, None}
use Rattle.lsm_format.specs.Answer.{Result, accepted, refused, bind, given, decode}
use Rattle.lsm_format.specs.Words.{word}
use Rattle.lsm_format.specs.Rectangle.{Coordinate}

-- "Negative P or M is Decode."
abbrev pub count : ℤ → Result ℕ
count (pos n) = accepted n
count (negsuc n) = refused decode

-- "Scenes are P × M, at least 1." P first, then M.
unfoldable pub scenes : ℤ → ℤ → Result ℕ
scenes p m = bind (count p) (λ positions. bind (count m) (λ tiles. accepted (max 1 (positions * tiles))))

-- How many scenes a file has, how many time points each of them, and how many pages a time point: its depth. "The layout record gains T."
pub record Layout : Type 0 where
  pub scenes : ℕ
  pub t : ℕ
  pub depth : ℕ

unfoldable pub layout : ℤ → ℤ → ℕ → ℕ → Result Layout
layout p m t depth = bind (scenes p m) (λ n. accepted (record { scenes = n; t = t; depth = depth }))

-- "scenes × T [..] × depth", without overflow: the pages of all scenes.
abbrev pub pages : Layout → ℕ
pages l = l.scenes * l.t * l.depth

-- "Pages expected are scenes × T [..] × depth"; "overflow is Decode."
unfoldable pub pages_expected : Layout → Result ℕ
pages_expected l = given decode (word (pages l))

-- "a picture's page is (scene × T + t) × depth + z", without overflow.
abbrev pub page_number : Layout → Coordinate → ℕ
page_number l co = (co.scene * l.t + co.t) * l.depth + co.z

-- There is none for a scene that is not there, and none where the number overflows.
unfoldable pub page_of : Layout → Coordinate → Option ℕ
page_of l co = elim (ltb co.scene l.scenes) [ true ↦ word (page_number l co) | false ↦ None ]
