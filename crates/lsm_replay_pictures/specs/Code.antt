-- How many numbers of a line an answer takes.
use Rattle.std.specs.Prelude.{ℕ, ◌+◌, cond, eqb, length, Result as Answered, Ok, Err}
use Rattle.lsm_format.specs.Code.{row_of}
use Rattle.lsm_format.specs.declared.error.Refusal.{Refusal}
use Rattle.lsm_region.specs.declared.Picture.{Picture}

-- 0, the height, the width, the number of bytes and the bytes; or a refusal's numbers.
abbrev pub count_of : Answered Picture Refusal → ℕ
count_of (Ok p) = 4 + p.bytes
count_of (Err r) = length (row_of r)

-- How many words of a C function's answer a line says at most, by the number returned.
abbrev pub said_words : ℕ → ℕ
said_words number = cond (eqb number 0) 4 5
