-- `figure::wide::Wide::times` meets its contract. The loop's invariant: the limbs passed and `k` times those that are left, with what is
-- carried, make up the product. Assumes nothing.
use Prim.Native.Nat.{◌*◌}
use mathlib.Core.Path.{◌≡◌}
use Rattle.figure.specs.Code.{number_of}
use Rattle.figure.proofs.Limbs.{product}
use Rattle.figure.proofs.wide.Wide.times.Given as goal

abbrev pub invariant-loop-limb : goal.invariant-loop-limb
invariant-loop-limb l = product l.k l.limb-items l.limb-index l.carry ≡ l.k * number_of l.fn.self
