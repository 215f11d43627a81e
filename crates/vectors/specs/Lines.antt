-- The lines of a list of recorded answers: the bytes of a line, and the line itself.
use Rattle.std.specs.Prelude.{ℕ, zero, suc, ◌+◌, ◌-◌, ◌*◌, cond, ◌&&◌, List, [], ◌∷◌, leb, ltb, length, replicate, Option, None, Some}
use Rattle.vectors.specs.Numbers.{digit_of, behind, then, numbers}

-- The byte that two digits are, and the text behind them.
abbrev pub pair_of : Option ℕ → Option ℕ → List ℕ → Option (ℕ × List ℕ)
pair_of (Some high) (Some low) rest = Some (high * 16 + low, rest)
pair_of (Some high) None rest = None
pair_of None low rest = None

-- The byte that a text begins with.
unfoldable pub pair : List ℕ → Option (ℕ × List ℕ)
pair [] = None
pair (h ∷ []) = None
pair (h ∷ l ∷ rest) = pair_of (digit_of h) (digit_of l) rest

-- A byte once, and a byte as often as the one before it says.
abbrev pub once : Option (ℕ × List ℕ) → Option (List ℕ × List ℕ)
once None = None
once (Some b) = Some (b.0 ∷ [], b.1)

abbrev pub repeated : ℕ → Option (ℕ × List ℕ) → Option (List ℕ × List ℕ)
repeated n None = None
repeated n (Some b) = Some (replicate n b.0, b.1)

abbrev pub times : Option (ℕ × List ℕ) → Option (List ℕ × List ℕ)
times None = None
times (Some n) = repeated n.0 (pair n.1)

-- What a text begins with: `*NNBB`, which is NN bytes BB, or a byte.
abbrev pub run_by : Option (List ℕ) → List ℕ → Option (List ℕ × List ℕ)
run_by None text = once (pair text)
run_by (Some rest) text = times (pair rest)

unfoldable pub run : List ℕ → Option (List ℕ × List ℕ)
run text = run_by (behind 42 text) text

-- That, where it is something and has room.
abbrev pub fitting : ℕ → Option (List ℕ × List ℕ) → Option (List ℕ × List ℕ)
fitting room None = None
fitting room (Some r) = cond (ltb 0 (length r.0) && leb (length r.0) room) (Some r) None

-- What a text begins with, one run behind the other as long as it has room, and the text behind it; asked at most k times.
unfoldable pub runs : ℕ → ℕ → List ℕ → List ℕ × List ℕ
runs zero room text = ([], text)
runs (suc k) room text = elim (fitting room (run text)) [ None ↦ ([], text) | Some r ↦ then r.0 (runs k (room - length r.0) r.1) ]

-- The bytes that a text begins with, and the text behind them. Each run has a byte, so that as many questions as there is room are enough.
unfoldable pub bytes : ℕ → List ℕ → List ℕ × List ℕ
bytes room text = runs room room text

-- The bytes behind a colon; none where there is no colon.
abbrev pub tail_by : ℕ → Option (List ℕ) → List ℕ → List ℕ × List ℕ
tail_by room None text = ([], text)
tail_by room (Some rest) text = bytes room rest

unfoldable pub tail : ℕ → List ℕ → List ℕ × List ℕ
tail room text = tail_by room (behind 58 text) text

-- What a line says: its numbers and its bytes.
pub record Says : Type 0 where
  pub numbers : List ℕ
  pub bytes : List ℕ

-- What the line says whose letter stands before a text, and the text behind the line: numbers, bytes, and a line feed, with room for `wide`
-- numbers and `long` bytes. None where it hasn't the form.
abbrev pub ended : List ℕ → List ℕ → Option (List ℕ) → Option (Says × List ℕ)
ended ns bs None = None
ended ns bs (Some rest) = Some (record { numbers = ns; bytes = bs }, rest)

abbrev pub tailed : List ℕ → List ℕ × List ℕ → Option (Says × List ℕ)
tailed ns bs = ended ns bs.0 (behind 10 bs.1)

abbrev pub numbered : ℕ → List ℕ × List ℕ → Option (Says × List ℕ)
numbered long ns = tailed ns.0 (tail long ns.1)

unfoldable pub said : ℕ → ℕ → List ℕ → Option (Says × List ℕ)
said wide long text = numbered long (numbers wide text)

-- A line: its letter, and what it says, if it has the form.
pub record Read : Type 0 where
  pub letter : ℕ
  pub says : Option Says

-- A line that hasn't the form ends the list.
abbrev pub line_by : ℕ → Option (Says × List ℕ) → Option Read × List ℕ
line_by letter None = (Some (record { letter = letter; says = None }), [])
line_by letter (Some s) = (Some (record { letter = letter; says = Some s.0 }), s.1)

-- The line that a text begins with, and the text behind it; none at the text's end.
unfoldable pub line : ℕ → ℕ → List ℕ → Option Read × List ℕ
line wide long [] = (None, [])
line wide long (letter ∷ text) = line_by letter (said wide long text)
