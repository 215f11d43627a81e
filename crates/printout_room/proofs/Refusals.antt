-- What opening refuses with: rows of at most three numbers of 64 bits. Each step of opening refuses with such a row or hands on another
-- step's, and the search goes through the steps (`steps`). Assumes nothing.
use Prim.Native.Nat.{ℕ, zero, suc, ◌+◌, ◌*◌, ◌-◌, ◌^◌, ◌≤◌, ◌<◌, min}
use native.Mathlib.Omega.{arith}
use mathlib.Core.Bool.{Bool, true, false, cond}
use Rattle.std.specs.Prelude.{Option, None, Some}
use mathlib.Core.List.{List, [], ◌∷◌}
use lib.Dec.{leb, eqb}
use lib.IntN.{ℤ, pos, negsuc}
use lib.ListN.{length, length-append}
use Rattle.lsm_format.specs.Answer.{Result, accepted, refused, bind, need, given, parse, decode, unsupported, uneven_bits, negative_value}
use Rattle.lsm_format.specs.Numbers.{Order, part_at, number_at, i32_at}
use Rattle.lsm_format.specs.Scenes.{count, scenes, layout, pages_expected}
use Rattle.lsm_format.specs.Lent.{lend}
use Rattle.lsm_format.specs.CzInfo.{CzInfo, header, extents, voxels, channel_block, shots, from, cz_info}
use Rattle.lsm_format.specs.Directory.{Values, Directory, Tag, field, sample_bits, strip_offsets, strip_byte_counts, cz_lsm_info, other, type_size, value_at, values_at, all_equal, place_by, value_place, entry_values, scalar_values, scalar, array_values, array, entry_by, entry, entries, ends, directory}
use Rattle.lsm_format.specs.Open.{agrees_with, even_bits, agrees, Walk, tiff_header, join, chain, walk, agreement, layout_for, describe, describe_walk, read, open_file, file_limit}
use Rattle.lsm_format.specs.Printout.{numbers_text}
use Rattle.printout_room.proofs.Lengths.{decimal_length}

-- ---- rows

-- A row whose numbers make at most 63 bytes: three of 64 bits, each with a space.
unfoldable pub Short : List ℕ → Type 0
Short row = length (numbers_text row) ≤ 63

number_more : (n : ℕ) (ns : List ℕ) → n < 2 ^ 64 → length (numbers_text (n ∷ ns)) ≤ 21 + length (numbers_text ns)
unfolding numbers_text
number_more n ns h = rw length-append (omega (arith, decimal_length n h))

one_short : (n : ℕ) → n < 2 ^ 64 → Short (n ∷ [])
unfolding Short numbers_text
one_short n h = omega (arith, number_more n [] h)

two_short : (n m : ℕ) → n < 2 ^ 64 → m < 2 ^ 64 → Short (n ∷ m ∷ [])
unfolding Short numbers_text
two_short n m h k = omega (arith, number_more n (m ∷ []) h, number_more m [] k)

three_short : (n m l : ℕ) → n < 2 ^ 64 → m < 2 ^ 64 → l < 2 ^ 64 → Short (n ∷ m ∷ l ∷ [])
unfolding Short numbers_text
three_short n m l h k j = omega (arith, number_more n (m ∷ l ∷ []) h, number_more m (l ∷ []) k, number_more l [] j)

parse_short : Short parse
parse_short = one_short 1 (omega arith)

decode_short : Short decode
decode_short = one_short 2 (omega arith)

unsupported_short : Short unsupported
unsupported_short = one_short 3 (omega arith)

uneven_short : Short uneven_bits
uneven_short = one_short 8 (omega arith)

negative_short : Short negative_value
negative_short = one_short 9 (omega arith)

-- ---- steps

-- Whatever is refused is refused with such a row.
unfoldable pub Refusing : {A : Type 0} → Result A → Type 0
Refusing (accepted a) = Unit {0}
Refusing (refused row) = Short row

accepts : {A : Type 0} (a : A) → Refusing (accepted a)
unfolding Refusing
accepts a = tt

refuses : (A : Type 0) (row : List ℕ) → Short row → Refusing {A = A} (refused row)
unfolding Refusing
refuses A row h = h

bind_refuses : {A B : Type 0} (m : Result A) (k : A → Result B) → Refusing m → ((a : A) → Refusing (k a)) → Refusing (bind m k)
unfolding Refusing bind
bind_refuses (accepted a) k h i = i a
bind_refuses (refused row) k h i = h

need_refuses : (row : List ℕ) (b : Bool) → Short row → Refusing (need row b)
need_refuses row true h = accepts tt
need_refuses row false h = refuses (Unit {0}) row h

given_refuses : {A : Type 0} (row : List ℕ) (x : Option A) → Short row → Refusing (given row x)
given_refuses {A} row None h = refuses A row h
given_refuses {A} row (Some a) h = accepts a

cond_refuses : {A : Type 0} (b : Bool) (x y : Result A) → Refusing x → Refusing y → Refusing (cond b x y)
cond_refuses true x y h i = h
cond_refuses false x y h i = i

ruleset steps = (accepts, refuses, bind_refuses, need_refuses, given_refuses, cond_refuses, parse_short, decode_short, unsupported_short, uneven_short, negative_short)

-- ---- numbers in the file

part_refuses : (f : List ℕ) (at count : ℕ) → Refusing (part_at f at count)
unfolding part_at
part_refuses f at count = search steps

number_refuses : (count : ℕ) (o : Order) (f : List ℕ) (at : ℕ) → Refusing (number_at count o f at)
unfolding number_at
number_refuses count o f at = search (steps, part_refuses)

signed_refuses : (o : Order) (f : List ℕ) (at : ℕ) → Refusing (i32_at o f at)
unfolding i32_at
signed_refuses o f at = search (steps, number_refuses)

header_refuses : (f : List ℕ) → Refusing (tiff_header f)
unfolding tiff_header
header_refuses f = search (steps, number_refuses) depth 12

-- ---- directories

place_by_lem : (b : Bool) (o : Order) (f : List ℕ) (place : ℕ) → Refusing (place_by b o f place)
place_by_lem true o f place = accepts place
place_by_lem false o f place = number_refuses 4 o f place

place_refuses : (o : Order) (f : List ℕ) (size count place : ℕ) → Refusing (value_place o f size count place)
unfolding value_place
place_refuses o f size count place = place_by_lem (leb (size * count) 4) o f place

values_refuse : (o : Order) (f : List ℕ) (type count place : ℕ) → Refusing (entry_values o f type count place)
unfolding entry_values
values_refuse o f type count place = search (steps, place_refuses) depth 12

value_refuses : (type : ℕ) (o : Order) (f : List ℕ) (p : ℕ) → Refusing (value_at type o f p)
unfolding value_at
value_refuses type o f p = search (steps, number_refuses)

scalar_values_refuse : (o : Order) (f : List ℕ) (type count place : ℕ) → Refusing (scalar_values o f type count place)
unfolding scalar_values
scalar_values_refuse o f type count place = search (steps, values_refuse) depth 12

scalar_refuses : (o : Order) (f : List ℕ) (type count place : ℕ) → Refusing (scalar o f type count place)
unfolding scalar
scalar_refuses o f type count place = search (steps, scalar_values_refuse, value_refuses) depth 12

each_refuses : (n type : ℕ) (o : Order) (f : List ℕ) (p : ℕ) → Refusing (values_at n type o f p)
unfolding values_at
each_refuses zero type o f p = accepts []
each_refuses (suc n) type o f p =
    bind_refuses _ _ (value_refuses type o f p) (λ v. bind_refuses _ _ (each_refuses n type o f (p + type_size type)) (λ vs. accepts (v ∷ vs)))

equal_refuses : (n v type : ℕ) (o : Order) (f : List ℕ) (p : ℕ) → Refusing (all_equal n v type o f p)
unfolding all_equal
equal_refuses zero v type o f p = accepts tt
equal_refuses (suc n) v type o f p =
    bind_refuses _ _ (value_refuses type o f p) (λ w. bind_refuses _ _ (search steps) (λ _. equal_refuses n v type o f (p + type_size type)))

array_refuses : (o : Order) (f : List ℕ) (type count place : ℕ) → Refusing (array o f type count place)
unfolding array array_values
array_refuses o f type count place = search (steps, values_refuse, each_refuses) depth 12

entry_by_lem : (t : Tag) (o : Order) (f : List ℕ) (type count place : ℕ) (d : Directory) → Refusing (entry_by t o f type count place d)
entry_by_lem (field t) o f type count place d = search (steps, scalar_refuses) depth 12
entry_by_lem sample_bits o f type count place d = search (steps, scalar_values_refuse, value_refuses) depth 12
entry_by_lem strip_offsets o f type count place d = search (steps, array_refuses)
entry_by_lem strip_byte_counts o f type count place d = search (steps, array_refuses)
entry_by_lem cz_lsm_info o f type count place d = search (steps, number_refuses)
entry_by_lem other o f type count place d = accepts d

entry_refuses : (o : Order) (f : List ℕ) (e : ℕ) (d : Directory) → Refusing (entry o f e d)
unfolding entry
entry_refuses o f e d = search (steps, number_refuses, entry_by_lem) depth 12

entries_refuse : (n : ℕ) (o : Order) (f : List ℕ) (base i : ℕ) (d : Directory) → Refusing (entries n o f base i d)
unfolding entries
entries_refuse zero o f base i d = accepts d
entries_refuse (suc n) o f base i d =
    bind_refuses _ _ (entry_refuses o f (base + 12 * i) d) (λ e. entries_refuse n o f base (i + 1) e)

directory_refuses : (o : Order) (f : List ℕ) (place : ℕ) → Refusing (directory o f place)
unfolding directory ends
directory_refuses o f place = search (steps, number_refuses, entries_refuse) depth 12

-- ---- the walk

agrees_with_lem : (x : Option Directory) (d : Directory) → Refusing (agrees_with x d)
agrees_with_lem None d = search steps
agrees_with_lem (Some p) d = search steps

even_bits_lem : (x : Option Values) (o : Order) (f : List ℕ) (d : Directory) → Refusing (even_bits x o f d)
even_bits_lem None o f d = accepts tt
even_bits_lem (Some v) o f d = cond_refuses (eqb v.count 1) _ _ (accepts tt) (search (steps, equal_refuses) depth 12)

join_refuses : (o : Order) (f : List ℕ) (w : Walk) (d : Directory) → Refusing (join o f w d)
unfolding join agrees
join_refuses o f w d = search (steps, even_bits_lem, agrees_with_lem) depth 12

chain_refuses : (n : ℕ) (b : Bool) (o : Order) (f : List ℕ) (place : ℕ) (w : Walk) → Refusing (chain n b o f place w)
unfolding chain
chain_refuses zero true o f place w = accepts w
chain_refuses zero false o f place w = search steps
chain_refuses (suc n) true o f place w = accepts w
chain_refuses (suc n) false o f place w =
    bind_refuses _ _ (directory_refuses o f place) (λ d.
    bind_refuses _ _ (join_refuses o f w d.0) (λ v. chain_refuses n (eqb d.1 0) o f d.1 v))

walk_refuses : (o : Order) (f : List ℕ) → Refusing (walk o f)
unfolding walk
walk_refuses o f = search (steps, number_refuses, chain_refuses)

-- ---- the CZ block

cz_header_refuses : (o : Order) (f : List ℕ) (block declared : ℕ) → Refusing (header o f block declared)
unfolding header
cz_header_refuses o f block declared = search (steps, signed_refuses) depth 12

extents_refuse : (o : Order) (f : List ℕ) (block : ℕ) → Refusing (extents o f block)
unfolding extents
extents_refuse o f block = search (steps, signed_refuses) depth 12

voxels_refuse : (o : Order) (f : List ℕ) (block : ℕ) → Refusing (voxels o f block)
unfolding voxels
voxels_refuse o f block = search (steps, number_refuses)

channels_refuse : (o : Order) (f : List ℕ) (block : ℕ) → Refusing (channel_block o f block)
unfolding channel_block
channels_refuse o f block = search (steps, signed_refuses)

shots_refuse : (o : Order) (f : List ℕ) (block : ℕ) → Refusing (shots o f block)
unfolding shots
shots_refuse o f block = search (steps, signed_refuses)

from_refuses : {A : Type 0} (b : Bool) (m : Result A) (a : A) → Refusing m → Refusing (from b m a)
from_refuses true m a h = h
from_refuses false m a h = accepts a

cz_refuses : (o : Order) (f : List ℕ) (block declared : ℕ) → Refusing (cz_info o f block declared)
unfolding cz_info
cz_refuses o f block declared =
    search (steps, cz_header_refuses, extents_refuse, voxels_refuse, channels_refuse, shots_refuse, from_refuses) depth 12

-- ---- the description

count_refuses : (p : ℤ) → Refusing (count p)
count_refuses (pos n) = accepts n
count_refuses (negsuc n) = search steps

layout_refuses : (i : CzInfo) (pages : ℕ) → Refusing (layout_for i pages)
unfolding layout_for layout scenes pages_expected
layout_refuses i pages = search (steps, count_refuses) depth 12

agreement_refuses : (p : Directory) (i : CzInfo) → Refusing (agreement p i)
unfolding agreement
agreement_refuses p i = search steps depth 12

describe_refuses : (o : Order) (f : List ℕ) (w : Walk) → Refusing (describe_walk o f w)
unfolding describe_walk describe
describe_refuses o f w = search (steps, cz_refuses, agreement_refuses, layout_refuses) depth 20

-- ---- opening

read_refuses : (f : List ℕ) → length f < 2 ^ 64 → Refusing (read f)
unfolding read
read_refuses f h =
    let long : Short (4 ∷ length f ∷ file_limit ∷ []) = three_short 4 (length f) file_limit (omega arith) h (omega arith) in
    search (steps, header_refuses, walk_refuses, describe_refuses) depth 12

lend_refuses : (needed room : ℕ) → Refusing (lend needed room)
unfolding lend
lend_refuses needed room =
    let row : Short (7 ∷ min needed (2 ^ 64 - 1) ∷ []) = two_short 7 (min needed (2 ^ 64 - 1)) (omega arith) (omega arith) in
    search steps

pub open_refuses : (f : List ℕ) (room : ℕ) → length f < 2 ^ 64 → Refusing (open_file f room)
unfolding open_file
open_refuses f room h = search (steps, read_refuses, lend_refuses)
