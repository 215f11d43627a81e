-- The bytes of a part, and what std makes of them in either order, at every width. Assumes nothing.
use Rattle.std.proofs.Common.{ℕ, zero, suc, ◌+◌, ◌*◌, ◌^◌, ◌-◌, ◌≤◌, ◌<◌, ◌≡◌, List, [], ◌∷◌, ◌++◌, length, take, drop, get_or, slice_index, slice_range, Option, MatchOption, Some, None, Bor, reverse, refl, sym, ap, ◌∙◌, arith}
use Rattle.std.proofs.Math.Nat.{pow-suc, mul_assoc, mul_comm, add-mul}
use Rattle.std.proofs.Math.Seq.{take-suc}
use Rattle.std.proofs.lemmas.List.{reverse-append, length-take-le, length-drop, take_all}
use Rattle.std.specs.Int.{w16, w32, w64, byte_worth, sum_through, from_le_bytes, from_be_bytes}
use Rattle.std.specs.Array.{IsFirstChunk}
use Rattle.std.specs.Option.{option_copied}
use Rattle.lsm_format.specs.Answer.{given, parse}
use Rattle.lsm_format.proofs.Numbers.{part_there}
use Rattle.lsm_format.specs.Numbers.{part_at, little, big, value_of, little_value}

-- the first bytes of a part are the part
pub chunk_part : (f : List ℕ) (at n : ℕ) (o : Option (Bor (List ℕ))) → at + n ≤ length f →
    MatchOption o (length (slice_range f at (at + n)) < n) (λ y. IsFirstChunk (slice_range f at (at + n)) y.now n) → given parse (option_copied o) ≡ part_at f at n
chunk_part f at n o h e =
    let rest : slice_range f at (at + n) ≡ take n (drop at f) = ap (λ (k : ℕ). take k (drop at f)) (omega arith) in
    let long : length (take n (drop at f)) ≡ n = length-take-le n (drop at f) (omega (arith, length-drop at f)) in
    by o (rw rest at e) long
  where
    by : (o : Option (Bor (List ℕ))) → MatchOption o (length (take n (drop at f)) < n) (λ y. IsFirstChunk (take n (drop at f)) y.now n) → length (take n (drop at f)) ≡ n →
        given parse (option_copied o) ≡ part_at f at n
    by None e long = absurd (omega arith)
    by (Some y) e long = rw (e.same, take_all n (take n (drop at f)) (omega arith)) (sym (part_there f at n h))

-- a byte's worth at its place is a power of 256
worth : (i b : ℕ) → byte_worth i b ≡ b * 256 ^ i
worth zero b = omega arith
worth (suc i) b = refl

-- one byte more at the end
value_snoc : (bs : List ℕ) (b : ℕ) → little_value (bs ++ (b ∷ [])) ≡ little_value bs + b * 256 ^ length bs
value_snoc [] b = omega arith
value_snoc (c ∷ bs) b =
    let e : b * 256 ^ suc (length bs) ≡ 256 * (b * 256 ^ length bs) = rw (pow-suc 256 (length bs)) (sym (mul_assoc b (256 ^ length bs) 256) ∙ mul_comm (b * 256 ^ length bs) 256) in
    omega (arith, value_snoc bs b, e)

-- the sum over the first bytes, the lowest first and the highest first
little_sum : (bs : List ℕ) (k : ℕ) → k < length bs → sum_through (λ i. byte_worth i (slice_index bs i)) k ≡ little_value (take (suc k) bs)
little_sum [] zero h = absurd (omega arith)
little_sum (b ∷ bs) zero h = omega arith
little_sum bs (suc k) h =
    rw (take-suc bs (suc k) 0 h, value_snoc (take (suc k) bs) (get_or bs (suc k) 0), length-take-le (suc k) bs (omega arith), little_sum bs k (omega arith)) refl

-- one byte more at the front
value_cons : (v b x : ℕ) → v * (x * 256) + b * x ≡ (b + 256 * v) * x
value_cons v b x = omega (arith, mul_assoc v x 256, add-mul b (256 * v) x, mul_assoc 256 v x)

big_sum : (bs : List ℕ) (n k : ℕ) → k < length bs → k ≤ n →
    sum_through (λ i. byte_worth (n - i) (slice_index bs i)) k ≡ little_value (reverse (take (suc k) bs)) * 256 ^ (n - k)
big_sum [] n zero h i = absurd (omega arith)
big_sum (b ∷ bs) n zero h i = omega (arith, worth (n - 0) b)
big_sum bs n (suc k) h i =
    let m : n - k ≡ suc (n - suc k) = omega arith in
    let v = little_value (reverse (take (suc k) bs)) in
    let b = get_or bs (suc k) 0 in
    let before : sum_through (λ i. byte_worth (n - i) (slice_index bs i)) k ≡ v * (256 ^ (n - suc k) * 256) = big_sum bs n k (omega arith) (omega arith) ∙ rw (m, pow-suc) refl in
    rw (take-suc bs (suc k) 0 h, reverse-append (take (suc k) bs) (b ∷ [])) (omega (arith, before, worth (n - suc k) b, value_cons v b (256 ^ (n - suc k))))

-- std's number of as many bytes as it has
module _ (bs : List ℕ) (k : ℕ) (h : length bs ≡ suc k) where
  le_value : sum_through (λ i. byte_worth i (slice_index bs i)) k ≡ value_of little bs
  le_value = rw (little_sum bs k (omega arith), take_all (suc k) bs (omega arith)) refl

  be_value : sum_through (λ i. byte_worth (k - i) (slice_index bs i)) k ≡ value_of big bs
  be_value = let none : k - k ≡ 0 = omega arith in rw (big_sum bs k k (omega arith) (omega arith), take_all (suc k) bs (omega arith), none) (omega arith)

module _ (bs : List ℕ) where
  pub le_16 : length bs ≡ 2 → from_le_bytes w16 bs ≡ value_of little bs
  le_16 h = le_value bs 1 h

  pub be_16 : length bs ≡ 2 → from_be_bytes w16 bs ≡ value_of big bs
  be_16 h = be_value bs 1 h

  pub le_32 : length bs ≡ 4 → from_le_bytes w32 bs ≡ value_of little bs
  le_32 h = le_value bs 3 h

  pub be_32 : length bs ≡ 4 → from_be_bytes w32 bs ≡ value_of big bs
  be_32 h = be_value bs 3 h

  pub le_64 : length bs ≡ 8 → from_le_bytes w64 bs ≡ value_of little bs
  le_64 h = le_value bs 7 h

  pub be_64 : length bs ≡ 8 → from_be_bytes w64 bs ≡ value_of big bs
  be_64 h = be_value bs 7 h
