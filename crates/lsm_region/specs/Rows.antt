-- The rows that are copied from a channel's strips. All numbers are exact.
use Rattle.std.specs.Prelude.{ℕ, ◌+◌, ◌-◌, ◌*◌, ◌≤◌, ◌<◌, ◌≡◌, true, List, get_or}
use Rattle.lsm_format.specs.Picture.{span, bytes}
use Rattle.lsm_strips.specs.Strips.{total_in, place_in, all_lie}
use Rattle.lsm_region.specs.declared.copier.Rows.{Rows}

-- Byte k of the joined strips, of a file.
abbrev pub stored_in : List ℕ → List (List ℕ) → ℕ → ℕ
stored_in f strips k = get_or f (place_in strips k) 0

-- n samples of `size` bytes: the first from a on, and each `step` bytes after the one before.
abbrev pub spaced : (ℕ → ℕ) → ℕ → ℕ → ℕ → ℕ → List ℕ
spaced f a step size n = span 0 n (λ q. bytes f (a + q * step) size)

-- The rows' samples, of `size` bytes each.
abbrev pub rows_of : ℕ → List ℕ → List (List ℕ) → Rows → List ℕ
rows_of size f strips r = span r.y r.h (λ i. spaced (stored_in f strips) (i * r.row + r.start) r.step size r.count)

-- The rows have samples, which don't lap over one another; a row's are no more than it has room for; and the rows are in the strips, which lie
-- in a file of `len` bytes.
pub record RowsIn (size len : ℕ) (strips : List (List ℕ)) (r : Rows) : Type 0 where
  pub some : (0 < size) × (0 < r.count)
  pub apart : size ≤ r.step
  pub across : r.count * r.step ≤ r.row
  pub held : (r.y + r.h - 1) * r.row + (r.start + (r.count - 1) * r.step + size) ≤ total_in strips
  pub within : all_lie len strips ≡ true
