-- The entries of a directory, read one after the other: those from the i-th on, of n. Assumes nothing.
use Prim.Native.Nat.{ℕ, suc, ◌+◌, ◌-◌, ◌*◌, ◌≤◌, ◌<◌}
use native.Mathlib.Omega.{arith}
use mathlib.Core.Path.{◌≡◌}
use mathlib.Core.List.{List}
use Rattle.lsm_format.specs.Answer.{accepted, bind}
use Rattle.lsm_format.specs.Numbers.{Order}
use Rattle.lsm_format.specs.Directory.{Directory, entry, entries}
use Rattle.lsm_format.proofs.Open.{entries_done}

module _ (n : ℕ) (o : Order) (f : List ℕ) (base i : ℕ) (d : Directory) where
  -- one more, and then the others
  pub entries_more : i < n → entries (n - i) o f base i d ≡ bind (entry o f (base + 12 * i) d) (λ e. entries (n - (i + 1)) o f base (i + 1) e)
  unfolding entries
  entries_more h = let one : n - i ≡ suc (n - (i + 1)) = omega arith in rw one

  pub entries_pass : (e : Directory) → i < n → entry o f (base + 12 * i) d ≡ accepted e → entries (n - i) o f base i d ≡ entries (n - (i + 1)) o f base (i + 1) e
  unfolding bind
  entries_pass e h q = rw (entries_more h, q)

  -- no more
  pub entries_over : n ≤ i → entries (n - i) o f base i d ≡ accepted d
  entries_over h = let none : n - i ≡ 0 = omega arith in entries_done (n - i) o f base i d none
