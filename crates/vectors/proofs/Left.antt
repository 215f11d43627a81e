-- What is left of a text behind a part that was read is no longer than the text. Assumes nothing.
use Rattle.std.proofs.Common.{◌≡◌, ℕ, zero, suc, ◌+◌, ◌-◌, ◌<◌, ◌≤◌, List, [], ◌∷◌, length, Option, Some, None, arith, refl}
use Rattle.std.proofs.lemmas.Grind.{common_steps}
use Rattle.vectors.specs.Numbers.{digit_of, with_digit, digits, number, behind, number_in, spaced, then, numbers}
use Rattle.vectors.proofs.Runs.{bytes_all}
use Rattle.vectors.specs.Lines.{pair_of, pair, once, repeated, times, run_by, run, fitting, runs, bytes, tail_by, tail, Says, ended, said}

-- how much is left
abbrev left : {A : Type 0} → Option (A × List ℕ) → ℕ
left None = 0
left (Some r) = length r.1

behind_left : (b : ℕ) (text rest : List ℕ) → behind b text ≡ Some rest → length rest ≤ length text
unfolding behind
behind_left b [] rest e = cc
behind_left b (x ∷ xs) rest e = grind (arith, common_steps)

-- ---- numbers

digits_left : (value : ℕ) (text : List ℕ) → length (digits value text).1 ≤ length text
unfolding digits
digits_left value [] = omega arith
digits_left value (b ∷ bs) = go (with_digit value b) (λ more. digits_left more bs)
  where
    go : (o : Option ℕ) → ((more : ℕ) → length (digits more bs).1 ≤ length bs) → length (elim o as (λ (x : Option ℕ). ℕ × List ℕ) [ None ↦ (value, b ∷ bs) | Some more ↦ digits more bs ]).1 ≤ suc (length bs)
    go None h = omega arith
    go (Some more) h = omega (arith, h more)

number_left : (text : List ℕ) → left (number text) ≤ length text
unfolding number
number_left [] = omega arith
number_left (b ∷ bs) = go (with_digit 0 b)
  where
    go : (o : Option ℕ) → left (elim o [ None ↦ None | Some value ↦ Some (digits value bs) ]) ≤ suc (length bs)
    go None = omega arith
    go (Some value) = omega (arith, digits_left value bs)

spaced_left : (text : List ℕ) → left (spaced text) ≤ length text
unfolding spaced
spaced_left text = go (behind 32 text) (behind_left 32 text)
  where
    go : (o : Option (List ℕ)) → ((rest : List ℕ) → o ≡ Some rest → length rest ≤ length text) → left (number_in o) ≤ length text
    go None h = omega arith
    go (Some rest) h = omega (arith, number_left rest, h rest refl)

numbers_left : (room : ℕ) (text : List ℕ) → length (numbers room text).1 ≤ length text
unfolding numbers
numbers_left zero text = omega arith
numbers_left (suc room) text = go (spaced text) (spaced_left text) (λ after. numbers_left room after)
  where
    go : (o : Option (ℕ × List ℕ)) → left o ≤ length text → ((after : List ℕ) → length (numbers room after).1 ≤ length after) → length (elim o as (λ (x : Option (ℕ × List ℕ)). List ℕ × List ℕ) [ None ↦ ([], text) | Some r ↦ then (r.0 ∷ []) (numbers room r.1) ]).1 ≤ length text
    go None h more = omega arith
    go (Some r) h more = omega (arith, more r.1)

-- ---- bytes

pair_left : (text : List ℕ) → left (pair text) ≤ length text
unfolding pair
pair_left [] = omega arith
pair_left (h ∷ []) = omega arith
pair_left (h ∷ l ∷ rest) = go (digit_of h) (digit_of l)
  where
    go : (high low : Option ℕ) → left (pair_of high low rest) ≤ suc (suc (length rest))
    go None low = omega arith
    go (Some high) None = omega arith
    go (Some high) (Some low) = omega arith

run_left : (text : List ℕ) → left (run text) ≤ length text
unfolding run
run_left text = go (behind 42 text) (behind_left 42 text)
  where
    byte : (o : Option (ℕ × List ℕ)) (n : ℕ) → left o ≤ n → left (once o) ≤ n
    byte None n h = h
    byte (Some b) n h = h

    more : (k : ℕ) (o : Option (ℕ × List ℕ)) (n : ℕ) → left o ≤ n → left (repeated k o) ≤ n
    more k None n h = h
    more k (Some b) n h = h

    many : (o : Option (ℕ × List ℕ)) (n : ℕ) → left o ≤ n → left (times o) ≤ n
    many None n h = h
    many (Some k) n h = more k.0 (pair k.1) n (omega (arith, pair_left k.1))

    go : (o : Option (List ℕ)) → ((rest : List ℕ) → o ≡ Some rest → length rest ≤ length text) → left (run_by o text) ≤ length text
    go None h = byte (pair text) (length text) (pair_left text)
    go (Some rest) h = many (pair rest) (length text) (omega (arith, pair_left rest, h rest refl))

runs_left : (k room : ℕ) (text : List ℕ) → length (runs k room text).1 ≤ length text
unfolding runs
runs_left zero room text = omega arith
runs_left (suc k) room text = go (fitting room (run text)) (fits (run text) (run_left text)) (λ r. runs_left k (room - length r.0) r.1)
  where
    fits : (o : Option (List ℕ × List ℕ)) → left o ≤ length text → left (fitting room o) ≤ length text
    fits None h = h
    fits (Some r) h = grind (arith, common_steps)

    go : (o : Option (List ℕ × List ℕ)) → left o ≤ length text
        → ((r : List ℕ × List ℕ) → length (runs k (room - length r.0) r.1).1 ≤ length r.1)
        → length (elim o as (λ (x : Option (List ℕ × List ℕ)). List ℕ × List ℕ) [ None ↦ ([], text) | Some r ↦ then r.0 (runs k (room - length r.0) r.1) ]).1 ≤ length text
    go None h more = omega arith
    go (Some r) h more = omega (arith, more r)

bytes_left : (room : ℕ) (text : List ℕ) → length (bytes room text).1 ≤ length text
unfolding bytes
bytes_left room text = runs_left room room text

pub all_left : (room asked : ℕ) (text rest read : List ℕ) → bytes room text ≡ then read (bytes (room - length read) rest) → asked + length read ≡ room
    → fitting asked (run rest) ≡ None → length rest ≤ length text
all_left room asked text rest read a r e =
    let l = bytes_left room text in
    rw (← bytes_all room asked r e a) at l

-- ---- a line

tail_left : (room : ℕ) (text : List ℕ) → length (tail room text).1 ≤ length text
unfolding tail
tail_left room text = go (behind 58 text) (behind_left 58 text)
  where
    go : (o : Option (List ℕ)) → ((rest : List ℕ) → o ≡ Some rest → length rest ≤ length text) → length (tail_by room o text).1 ≤ length text
    go None h = omega arith
    go (Some rest) h = omega (arith, bytes_left room rest, h rest refl)

said_left : (wide long : ℕ) (text : List ℕ) → left (said wide long text) ≤ length text
unfolding said
said_left wide long text = go (behind 10 end.1) (behind_left 10 end.1)
  where
    end : List ℕ × List ℕ
    end = tail long (numbers wide text).1

    go : (o : Option (List ℕ)) → ((rest : List ℕ) → o ≡ Some rest → length rest ≤ length end.1) → left (ended (numbers wide text).0 end.0 o) ≤ length text
    go None h = omega arith
    go (Some rest) h = omega (arith, numbers_left wide text, tail_left long (numbers wide text).1, h rest refl)

-- a line has a letter at least
pub line_left : (wide long letter : ℕ) (all text rest : List ℕ) (s : Says) → all ≡ letter ∷ text → Some (s, rest) ≡ said wide long text
    → length rest < length all
line_left wide long letter all text rest s a e = let l = said_left wide long text in rw a (omega (arith, rw (← e) at l))
