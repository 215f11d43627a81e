-- What a call told of its answer, and signed numbers, which go by their bits. Assumes nothing.
use mathlib.Core.Path.{◌≡◌, refl, sym, ap, ◌∙◌}
use Prim.Native.Nat.{◌^◌, ◌<◌}
use lib.IntN.{ℤ}
use lib.Signed.{mag}
use mir.Syntax.{w32}
use mir.Val.{to_z, of_z}
use mir.ValLaws.{to_z-of_z}
use Rattle.std.specs.Prelude.{Option, None, Some, ok_or}
use Rattle.lsm_format.specs.Answer.{given}
use Rattle.lsm_format.specs.Code.{row_of, answer_of}
use Rattle.lsm_format.specs.declared.error.Refusal.{Refusal}

-- a map of an answer, once the answer is known
pub told : {A B : Type 0} (g : A → B) {r v : A} {m : B} → g r ≡ m → r ≡ v → m ≡ g v
told g e v = sym e ∙ ap g v

-- a value that may be absent, with the refusal for that
pub ok_or_given : {A : Type 0} (o : Option A) (r : Refusal) → answer_of (ok_or o r) ≡ given (row_of r) o
ok_or_given None r = refl
ok_or_given (Some a) r = refl

pub back : (z : ℤ) → mag z < 2 ^ 31 → to_z w32 (of_z w32 z) ≡ z
back z h = to_z-of_z w32 z (record { sfits = h })
