-- How long the names of a file's channels are, which stand one after another in the file. A record begins where the one before ends
-- (`names_length`), so their bytes add up to no more than the file's. Assumes nothing.
use Prim.Native.Nat.{ℕ, zero, suc, ◌+◌, ◌*◌, ◌-◌, ◌≤◌, ◌<◌}
use native.Mathlib.Omega.{arith}
use mathlib.Core.Bool.{Bool, true, false}
use Rattle.std.specs.Prelude.{Option, None, Some}
use mathlib.Core.Path.{◌≡◌, refl}
use mathlib.Core.List.{List}
use lib.Dec.{leb}
use lib.IntN.{ℤ, pos, negsuc}
use lib.ListN.{length, take, drop, length-append, length-take}
use borrow.Author.Tests.{leb-true}
use Rattle.lsm_format.specs.Answer.{Result, accepted, refused}
use Rattle.lsm_format.specs.Numbers.{Order, i32_at}
use Rattle.lsm_format.specs.Utf8.{lossy}
use Rattle.lsm_format.specs.Channels.{Channel, pointers, color_at, color, record_by, name_record, record_of, kept, name_span, trimmed, text_in, name, channel_by, channel_in}
use Rattle.lsm_format.specs.Printout.{hex_bytes, color_text, name_text, channel_line}
use Rattle.printout_room.proofs.Lengths.{bytes_length, sums, sums_front, sums_none}
use Rattle.printout_room.proofs.Texts.{text_length}

-- ---- a name

-- the bytes of a record in the file
abbrev raw : Option (ℕ × ℕ) → ℕ
raw None = 0
raw (Some r) = r.1

given_length : (f : List ℕ) (s n : ℕ) → length (hex_bytes (lossy (trimmed (take n (drop s f))))) ≤ 6 * n
given_length f s n = rw bytes_length (omega (arith, text_length (drop s f) n))

by_test : (t : Bool) (f : List ℕ) (r : ℕ × ℕ) → length (name_text (text_in f (elim t [ true ↦ Some r | false ↦ None ]))) ≤ 1 + 6 * r.1
by_test true f r = omega (arith, given_length f r.0 r.1)
by_test false f r = omega arith

name_length : (f : List ℕ) (r : Option (ℕ × ℕ)) → length (name_text (text_in f (kept r))) ≤ 1 + 6 * raw r
name_length f None = omega arith
name_length f (Some r) = by_test (leb r.1 1024) f r

-- ---- all names

-- a record starts past its length word and ends in the file
abbrev Stands : ℕ → ℕ → Option (ℕ × ℕ) → Type 0
Stands place end None = Unit {0}
Stands place end (Some r) = (place ≤ r.0) × (r.0 + r.1 ≤ end)

by_end : (t : Bool) (start n end : ℕ) → leb (start + n) end ≡ t → Stands start end (elim t [ true ↦ Some (start, n) | false ↦ None ])
by_end true start n end e = (omega arith, leb-true _ _ e)
by_end false start n end e = tt

record_by_lem : (f : List ℕ) (start : ℕ) (r : Result ℤ) → Stands start (length f) (record_by f start r)
record_by_lem f start (accepted (pos n)) = by_end (leb (start + n) (length f)) start n (length f) refl
record_by_lem f start (accepted (negsuc n)) = tt
record_by_lem f start (refused row) = tt

-- a first record, and those after its end
after_first : (o : Order) (f : List ℕ) (n place : ℕ) (r : Option (ℕ × ℕ)) → Stands (place + 4) (length f) r →
    ((next : ℕ) → sums n (λ i. raw (record_of o f next i)) ≤ length f - next) →
    raw r + sums n (λ i. raw (elim r [ None ↦ None | Some q ↦ record_of o f (q.0 + q.1) i ])) ≤ length f - place
after_first o f n place None s rest = omega (arith, sums_none n)
after_first o f n place (Some r) s rest = omega (arith, rest (r.0 + r.1))

-- names that follow one another from a place on have no more bytes than the file from there
names_length : (o : Order) (f : List ℕ) (n place : ℕ) → sums n (λ i. raw (record_of o f place i)) ≤ length f - place
unfolding sums name_record record_of
names_length o f zero place = omega arith
names_length o f (suc n) place =
    rw (sums_front n (λ i. raw (record_of o f place i)))
    (after_first o f n place (name_record o f place) (record_by_lem f (place + 4) (i32_at o f place)) (λ next. names_length o f n next))

-- ---- a channel's line

color_at_lem : (t : Bool) (f : List ℕ) (place : ℕ) → length (color_text (elim t [ true ↦ Some (take 3 (drop place f)) | false ↦ None ])) ≤ 6
color_at_lem true f place = rw bytes_length (omega (arith, length-take 3 (drop place f)))
color_at_lem false f place = omega arith

color_length : (f : List ℕ) (block : ℕ) (p : ℤ) (i : ℕ) → length (color_text (color f block p i)) ≤ 6
unfolding color color_at
color_length f block (pos zero) i = omega arith
color_length f block (pos (suc n)) i = color_at_lem (leb (block + suc n + 4 * i + 4) (length f)) f (block + suc n + 4 * i)
color_length f block (negsuc n) i = omega arith

-- The bytes in the file that the channels' names are made of: they bound each line, and add up to no more than the file.
pub record Named (f : List ℕ) (channel : ℕ → Channel) : Type 0 where
  pub bytes : ℕ → ℕ
  pub line : (i : ℕ) → length (channel_line (channel i)) < 9 + 6 * bytes i
  pub all : (n : ℕ) → sums n bytes ≤ length f

-- a colour, a space and a name
both : (x y : Option (List ℕ)) (n : ℕ) → length (color_text x) ≤ 6 → length (name_text y) ≤ 1 + n →
    length (channel_line (record { color = x; name = y })) < 9 + n
unfolding channel_line
both x y n h k = simp length-append (omega arith)

-- no channel has a name
nameless : (f : List ℕ) (x : ℕ → Option (List ℕ)) → ((i : ℕ) → length (color_text (x i)) ≤ 6) → Named f (λ i. record { color = x i; name = None })
nameless f x h = record { bytes = λ i. 0; line = λ i. both (x i) None 0 (h i) (omega arith); all = λ n. omega (arith, sums_none n) }

by_pointer : (o : Order) (f : List ℕ) (block : ℕ) (colors names : ℤ) →
    Named f (λ i. record { color = color f block colors i; name = name o f block names i })
unfolding name name_span
by_pointer o f block colors (pos zero) = nameless f (color f block colors) (color_length f block colors)
by_pointer o f block colors (pos (suc n)) =
    record {
      bytes = λ i. raw (record_of o f (block + suc n) i);
      line = λ i. both _ _ _ (color_length f block colors i) (name_length f (record_of o f (block + suc n) i));
      all = λ m. omega (arith, names_length o f m (block + suc n));
    }
by_pointer o f block colors (negsuc n) = nameless f (color f block colors) (color_length f block colors)

by_pointers : (o : Order) (f : List ℕ) (block : ℕ) (p : Result (ℤ × ℤ)) → Named f (channel_by o f block p)
by_pointers o f block (accepted p) = by_pointer o f block p.0 p.1
by_pointers o f block (refused row) = nameless f (λ i. None) (λ i. omega arith)

pub named : (o : Order) (f : List ℕ) (block : Option ℕ) → Named f (channel_in o f block)
unfolding channel_in
named o f None = nameless f (λ i. None) (λ i. omega arith)
named o f (Some block) = by_pointers o f block (pointers o f block)
