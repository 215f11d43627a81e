-- Laws of trailing zeros: a last byte that is 0, one that is not, and no byte. Assumes nothing.
use Prim.Native.Nat.{ℕ, zero, suc}
use native.Mathlib.Omega.{arith}
use mathlib.Core.Path.{◌≡◌, refl}
use mathlib.Core.List.{List, [], ◌∷◌, ◌++◌}
use lib.ListN.{length}
use Rattle.lsm_format.specs.Channels.{trimmed}
use Rattle.lsm_format.proofs.Channels.{trim_zero, trim_kept}

pub trimmed_zero : (bs rest : List ℕ) → bs ≡ rest ++ 0 ∷ [] → trimmed bs ≡ trimmed rest
trimmed_zero bs rest e = rw e (trim_zero rest)

pub trimmed_kept : (bs rest : List ℕ) (b : ℕ) → bs ≡ rest ++ b ∷ [] → (b ≡ 0 → ⊥) → trimmed bs ≡ bs
trimmed_kept bs rest zero e h = absurd (h refl)
trimmed_kept bs rest (suc c) e h = rw e (trim_kept rest c)

pub trimmed_empty : (bs : List ℕ) → length bs ≡ 0 → trimmed bs ≡ bs
trimmed_empty [] e = refl
trimmed_empty (b ∷ bs) e = absurd (omega arith)
