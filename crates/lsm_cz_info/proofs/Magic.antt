-- The magic number by its bits; the check of `Block::open` finds it alone. Assumes nothing.
use mathlib.Core.Path.{◌≡◌, sym, ap, ◌∙◌}
use mathlib.Core.Bool.{true}
use Prim.Native.Nat.{◌^◌, ◌<◌}
use lib.IntN.{ℤ}
use lib.Signed.{mag}
use mir.Syntax.{w32}
use mir.Val.{to_z, of_z}
use Rattle.lsm_format.specs.CzInfo.{is_magic}
use Rattle.lsm_format.proofs.Told.{back}

pub is_magic_lem : (z : ℤ) → mag z < 2 ^ 31 → of_z w32 z ≡ 0x0400_494C → is_magic z ≡ true
is_magic_lem z h e = ap is_magic (sym (back z h) ∙ ap (to_z w32) e)
