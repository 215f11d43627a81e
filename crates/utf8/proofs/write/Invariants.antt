use Prim.Native.Nat.{◌+◌}
use mathlib.Core.List.{◌++◌}
use mathlib.Core.Path.{◌≡◌}
use lib.ListN.{length, take}
use Rattle.lsm_format.specs.Utf8.{lossy}
use Rattle.utf8.proofs.write.Given as goal

-- what was written, then the text of the bytes that are left, is the text
abbrev pub invariant-loop-text : goal.invariant-loop-text
invariant-loop-text l = record {
  count : l.n + length (lossy l.text-iterator.rest.now) ≡ length (lossy l.s);
  so_far : take l.n l.out ++ lossy l.text-iterator.rest.now ≡ lossy l.s;
}
