-- Laws of the numbers at an offset: past the end, and in the file. Assumes nothing.
use Prim.Native.Nat.{ℕ, zero, suc, ◌+◌, ◌-◌, ◌^◌, ◌≤◌, ◌<◌}
use native.Mathlib.Nat.{add-suc}
use native.Mathlib.Numerals.{add-one}
use native.Mathlib.Omega.{arith}
use mathlib.Core.Path.{◌≡◌, refl, ap}
use mathlib.Core.Bool.{Bool, true, false}
use mathlib.Core.List.{List, [], ◌∷◌}
use lib.Dec.{leb}
use lib.IntN.{pos, negsuc, ◌-ℤ◌}
use lib.ListN.{length, get_or, take, drop}
use lib.Seq.{drop-cons}
use borrow.Author.Tests.{le-leb, lt-leb, lt-ltb, le-ltb, leb-true, leb-false}
use Rattle.lsm_format.specs.Answer.{accepted, refused, bind, parse}
use Rattle.lsm_format.specs.Numbers.{Order, little, big, value_of, part_at, number_at, signed32}
use Rattle.lsm_format.proofs.Apart.{no_case}

-- the two cases of a part of the file
pub part_past : (f : List ℕ) (at count : ℕ) → length f < at + count → part_at f at count ≡ refused parse
unfolding part_at bind
part_past f at count h = rw (lt-leb (at + count) (length f) h)

pub part_there : (f : List ℕ) (at count : ℕ) → at + count ≤ length f → part_at f at count ≡ accepted (take count (drop at f))
unfolding part_at bind
part_there f at count h = rw (le-leb (at + count) (length f) h)

-- the bytes of a part, one by one: those from the k-th on, and all
abbrev pub bytes_next : ℕ → List ℕ → ℕ → ℕ → List ℕ
bytes_next zero f at k = []
bytes_next (suc n) f at k = get_or f (at + k) 0 ∷ bytes_next n f at (suc k)

abbrev pub bytes_from : ℕ → List ℕ → ℕ → List ℕ
bytes_from zero f at = []
bytes_from (suc n) f at = get_or f at 0 ∷ bytes_next n f at 1

part_next : (n : ℕ) (f : List ℕ) (at k : ℕ) → at + k + n ≤ length f → take n (drop (at + k) f) ≡ bytes_next n f at k
part_next zero f at k h = refl
part_next (suc n) f at k h =
    rw (drop-cons f (at + k) 0 (omega arith)) (ap (◌∷◌ (get_or f (at + k) 0)) (rw (← add-suc at k) (part_next n f at (suc k) (omega arith))))

pub part_bytes : (n : ℕ) (f : List ℕ) (at : ℕ) → at + n ≤ length f → take n (drop at f) ≡ bytes_from n f at
part_bytes zero f at h = refl
part_bytes (suc n) f at h =
    rw (drop-cons f at 0 (omega arith)) (ap (◌∷◌ (get_or f at 0)) (rw (← add-one at) (part_next n f at 1 (omega arith))))

-- the two cases of a number
pub number_past : (count : ℕ) (o : Order) (f : List ℕ) (at : ℕ) → length f < at + count → number_at count o f at ≡ refused parse
unfolding number_at bind
number_past count o f at h = rw (part_past f at count h)

pub number_there : (count : ℕ) (o : Order) (f : List ℕ) (at : ℕ) → at + count ≤ length f →
    number_at count o f at ≡ accepted (value_of o (bytes_from count f at))
unfolding number_at bind
number_there count o f at h = rw (part_there f at count h, part_bytes count f at h)

-- a number in the file, from what its bytes make
pub number_is : (count : ℕ) (o : Order) (f : List ℕ) (at n : ℕ) → at + count ≤ length f → n ≡ value_of o (bytes_from count f at) →
    accepted n ≡ number_at count o f at
number_is count o f at n h e = rw (number_there count o f at h, e)

-- "also where offset plus size overflows": no file is 2 ^ 64 bytes long
pub number_overflow : (count : ℕ) (o : Order) (f : List ℕ) (at : ℕ) → length f < 2 ^ 64 → 2 ^ 64 ≤ at + count →
    number_at count o f at ≡ refused parse
number_overflow count o f at h k = number_past count o f at (omega arith)

-- the two halves of the signed numbers
pub signed_low : (n : ℕ) → n < 2 ^ 31 → signed32 n ≡ pos n
unfolding signed32
signed_low n h = rw (lt-ltb n (2 ^ 31) h, signed32)

pub signed_high : (n : ℕ) → 2 ^ 31 ≤ n → signed32 n ≡ pos n -ℤ pos (2 ^ 32)
unfolding signed32
signed_high n h = rw (le-ltb n (2 ^ 31) h, signed32)

pub less_than_all : (n : ℕ) → n < 2 ^ 32 → pos n -ℤ pos (2 ^ 32) ≡ negsuc (2 ^ 32 - suc n)
less_than_all n h = rw (lt-ltb n (2 ^ 32) h)

-- a byte has no order
byte_by : (b : Bool) (o : Order) (f : List ℕ) (p : ℕ) → leb (p + 1) (length f) ≡ b → number_at 1 little f p ≡ number_at 1 o f p
byte_by b little f p t = refl
byte_by true big f p t = let there : p + 1 ≤ length f = leb-true _ _ t in rw (number_there 1 little f p there, number_there 1 big f p there)
byte_by false big f p t = let past : length f < p + 1 = leb-false _ _ t in rw (number_past 1 little f p past, number_past 1 big f p past)

pub number_byte : (o : Order) (f : List ℕ) (p : ℕ) → number_at 1 little f p ≡ number_at 1 o f p
number_byte o f p = byte_by (leb (p + 1) (length f)) o f p refl

-- a number that was read is in the file
inside_by : (b : Bool) (count : ℕ) (o : Order) (f : List ℕ) (p v : ℕ) → leb (p + count) (length f) ≡ b → number_at count o f p ≡ accepted v →
    p + count ≤ length f
inside_by true count o f p v t e = leb-true _ _ t
inside_by false count o f p v t e =
    let past : number_at count o f p ≡ refused parse = number_past count o f p (leb-false _ _ t) in
    no_case cc

pub number_inside : (count : ℕ) (o : Order) (f : List ℕ) (p v : ℕ) → number_at count o f p ≡ accepted v → p + count ≤ length f
number_inside count o f p v e = inside_by (leb (p + count) (length f)) count o f p v refl e
