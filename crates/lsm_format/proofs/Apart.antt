-- 0 is not 1, so a case in which they would be the same is none. Assumes nothing.
use mathlib.Core.Path.{◌≡◌}
use Prim.Native.Nat.{ℕ}
use native.Mathlib.Omega.{arith}

-- `no_case cc` answers a case whose hypotheses contradict each other
pub no_case : {A : Type 0} → ◌≡◌ {A = ℕ} 0 1 → A
no_case e = absurd (omega arith)
