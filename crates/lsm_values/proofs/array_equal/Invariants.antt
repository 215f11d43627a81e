use Prim.Native.Nat.{ℕ, ◌+◌, ◌-◌, ◌*◌}
use mathlib.Core.Path.{◌≡◌}
use Rattle.std.specs.Prelude.{Some}
use Rattle.lsm_format.specs.Code.{order_of}
use Rattle.lsm_format.specs.Directory.{type_size, integer_size, is_signed, all_equal}
use Rattle.lsm_values.specs.Code.{bytes_of}
use Rattle.lsm_values.proofs.array_equal.Given as goal

-- what is left of the values, from the i-th on, is what all but the first are
abbrev pub invariant-loop-i : goal.invariant-loop-i
invariant-loop-i l =
    (type : ℕ) → integer_size type ≡ Some (bytes_of l.a.width) → is_signed type ≡ l.signed →
    all_equal (l.a.count - l.i) l.v type (order_of l.e) l.buf (l.a.place + bytes_of l.a.width * l.i)
    ≡ all_equal (l.a.count - 1) l.v type (order_of l.e) l.buf (l.a.place + type_size type)
