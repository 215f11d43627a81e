use Prim.Native.Nat.{◌+◌, ◌-◌, ◌*◌}
use mathlib.Core.Bool.{◌||◌}
use mathlib.Core.Path.{◌≡◌}
use lib.Dec.{leb}
use Rattle.lsm_format.specs.Code.{order_of}
use Rattle.lsm_values.specs.Values.{some_negative}
use Rattle.lsm_values.specs.Code.{bytes_of}
use Rattle.lsm_values.proofs.top_bit_among.Given as goal

-- a top bit so far, or one of the numbers from the i-th on, is one of them all
abbrev pub invariant-loop-i : goal.invariant-loop-i
invariant-loop-i l =
    (leb 128 l.top || some_negative (l.n - l.i) (bytes_of l.fn.width) (order_of l.fn.e) l.buf (l.place + bytes_of l.fn.width * l.i))
    ≡ some_negative l.n (bytes_of l.fn.width) (order_of l.fn.e) l.buf l.place
