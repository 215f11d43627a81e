-- What the functions answer, in the definitions' terms.
use Rattle.std.specs.Prelude.{ℕ, ℤ, pos, negsuc, List, take, drop, Option, None, Some}
use Rattle.lsm_format.specs.Answer.{Result, accepted, refused}
use Rattle.lsm_channel_colors.specs.declared.tables.Pointers.{Pointers}
use Rattle.lsm_channel_colors.specs.declared.tables.Record.{Record}

-- A length as the file states it: "a negative length" ends the names.
abbrev pub natural : ℤ → Option ℕ
natural (pos n) = Some n
natural (negsuc n) = None

-- What a rule accepts, if it does.
abbrev pub read : {A : Type 0} → Result A → Option A
read (accepted a) = Some a
read (refused row) = None

abbrev pub pointers_of : Pointers → ℤ × ℤ
pointers_of p = (p.colors, p.names)

-- Where a name's bytes start and how many they are.
abbrev pub span_of : Record → ℕ × ℕ
span_of r = (r.start, r.len)

-- The bytes that stand there.
abbrev pub bytes_in : List ℕ → ℕ × ℕ → List ℕ
bytes_in f r = take r.1 (drop r.0 f)
