use Prim.Native.Nat.{◌*◌, ◌-◌}
use mathlib.Core.Path.{◌≡◌}
use lib.ListN.{take}
use Rattle.lsm_format.specs.Code.{order_of}
use Rattle.lsm_format.specs.Open.{strip_words}
use Rattle.lsm_values.specs.Code.{values_of}
use Rattle.lsm_reader.proofs.chain.fill_strips.Given as goal

-- the words of the strips before i are there
abbrev pub invariant-loop-i : goal.invariant-loop-i
invariant-loop-i l =
    take (2 * l.i) l.out ≡ take (2 * l.i) (strip_words (values_of (order_of l.e) l.buf l.offsets) (values_of (order_of l.e) l.buf l.counts))

abbrev pub decreases-loop-i : goal.decreases-loop-i
decreases-loop-i l = l.offsets.count - l.i
