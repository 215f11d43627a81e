-- Sums and products in the machine's 64 bits.
use Rattle.std.specs.Prelude.{ℕ, ◌^◌, true, false, ltb, Option, None, Some}

-- A number where it fits the machine's word ("`usize` has 64 bits"); where it doesn't, it overflows.
unfoldable pub word : ℕ → Option ℕ
word n = elim (ltb n (2 ^ 64)) [ true ↦ Some n | false ↦ None ]
