use Prim.Native.Nat.{◌+◌, ◌-◌}
use mathlib.Core.Path.{◌≡◌}
use Rattle.lsm_format.specs.Code.{order_of}
use Rattle.lsm_format.specs.Directory.{plain, entries}
use Rattle.lsm_directory.specs.Code.{directory_of}
use Rattle.lsm_reader.proofs.Going.{Going}
use Rattle.lsm_reader.proofs.chain.walk_chain.Given as goal

-- what is left of the entries, from here and with what they stated so far, is what all of them are from the start
abbrev pub invariant-entries : goal.invariant-entries
invariant-entries l =
    entries (l.ends.entries - l.i) (order_of l.e) l.buf (l.place + 2) l.i (directory_of (order_of l.e) l.buf l.d) ≡ entries l.ends.entries (order_of l.e) l.buf (l.place + 2) 0 plain

-- what is left of the chain, from here and with the walk so far, is what the whole walk answers (`Going`)
abbrev pub invariant-dirs : goal.invariant-dirs
invariant-dirs l = Going (order_of l.e) l.buf l.initial.table l.place l.mark.place l.w l.used l.table

abbrev pub decreases-dirs : goal.decreases-dirs
decreases-dirs l = 1000000 - l.w.visited
