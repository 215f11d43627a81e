use Prim.Native.Nat.{◌+◌, ◌-◌, ◌^◌, ◌<◌, min}
use mathlib.Core.Path.{◌≡◌}
use lib.ListN.{length}
use Rattle.lsm_format.specs.Utf8.{lossy}
use Rattle.utf8.proofs.lossy_length.Given as goal

-- what was counted and the text of the bytes that are left make up the text, up to the largest number
abbrev pub invariant-loop-text : goal.invariant-loop-text
invariant-loop-text l = record {
  fits : l.total < 2 ^ 64;
  so_far : min (l.total + length (lossy l.text-iterator.rest.now)) (2 ^ 64 - 1) ≡ min (length (lossy l.s)) (2 ^ 64 - 1);
}
