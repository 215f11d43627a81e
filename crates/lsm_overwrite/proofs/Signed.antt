-- The list of an accepted file did not change when signed arrays were to be read value by value: where none of the values is negative or past the
-- file, the bytes of the values one by one are the bytes of the array. Assumes nothing.
use Prim.Native.Nat.{ℕ, zero, suc, ◌+◌, ◌*◌, ◌≤◌, ◌<◌}
use native.Mathlib.Nat.{mul-suc, mul-zero, mul-one}
use native.Mathlib.Omega.{arith}
use mathlib.Core.Bool.{Bool, true, false}
use mathlib.Core.Logic.{◌⊎◌, ⊎_map, ◌↔◌, inl, inr}
use mathlib.Core.Path.{◌≡◌, refl, sym, ◌∙◌}
use mathlib.Core.List.{List, [], ◌∷◌}
use Rattle.std.specs.Prelude.{Some}
use lib.Dec.{leb}
use lib.ListN.{length}
use borrow.Author.Tests.{leb-true, leb-false}
use Rattle.lsm_format.specs.Answer.{accepted, parse}
use Rattle.lsm_format.specs.Ranges.{over, flat, Inside}
use Rattle.lsm_format.specs.Numbers.{Order}
use Rattle.lsm_format.specs.Directory.{type_size, integer_size, value_at, values_at, value_ranges, signed_ranges}
use Rattle.lsm_format.proofs.Accepting.{Accepting, accepting_bind, accepting_then, accepting_self, accepting_told, not_both}
use Rattle.lsm_format.proofs.Directory.{integer_size_lem, value_past}
use Rattle.lsm_overwrite.proofs.TwoFiles.{in_file_at}

module _ (type size : ℕ) (o : Order) (f : List ℕ) (i : integer_size type ≡ Some size) where
  -- a value that was read is in the file
  value_inside : (p v : ℕ) → value_at type o f p ≡ accepted v → p + size ≤ length f
  value_inside p v e = by (leb (p + size) (length f)) refl
    where
      by : (b : Bool) → leb (p + size) (length f) ≡ b → p + size ≤ length f
      by true t = leb-true _ _ t
      by false t = absurd (not_both parse v (sym (value_past type size o f p i (leb-false _ _ t)) ∙ e))

  -- its bytes, and those of n values in the file
  value_listed : (n p : ℕ) → p + size * n ≤ length f → flat (value_ranges n type f p) ≡ (p, size * n) ∷ []
  unfolding over flat
  value_listed n p h = rw (i, in_file_at f p (size * n) h) refl

  -- one value's bytes, and then those of the others
  first_or : (n p q : ℕ) → ((p ≤ q) × (q < p + size * 1)) ⊎ ((p + size ≤ q) × (q < p + size + size * n)) → (p ≤ q) × (q < p + size * suc n)
  first_or n p q (inl h) = omega (arith, mul-one size, mul-suc size n, h)
  first_or n p q (inr h) = omega (arith, mul-suc size n, h)

  or_first : (n p q : ℕ) → (p ≤ q) × (q < p + size * suc n) → ((p ≤ q) × (q < p + size * 1)) ⊎ ((p + size ≤ q) × (q < p + size + size * n))
  or_first n p q h = by (leb (p + size) q) refl
    where
      by : (b : Bool) → leb (p + size) q ≡ b → ((p ≤ q) × (q < p + size * 1)) ⊎ ((p + size ≤ q) × (q < p + size + size * n))
      by true t = inr (leb-true _ _ t, omega (arith, mul-suc size n, h))
      by false t = let lt : q < p + size = leb-false _ _ t in inl (h.0, omega (arith, mul-one size))

  -- the bytes of values that were read one by one
  abbrev Bytes : ℕ → ℕ → Type 0
  Bytes n p = (q : ℕ) → Inside q (flat (signed_ranges n type o f p)) ↔ ((p ≤ q) × (q < p + size * n))

  signed_bytes : (n p : ℕ) → Accepting (λ (vs : List ℕ). Bytes n p) (values_at n type o f p)
  unfolding values_at signed_ranges over flat Accepting
  signed_bytes zero p = λ q. ((λ k. absurd k), (λ h. absurd (omega (arith, mul-zero size, h))))
  signed_bytes (suc n) p =
      accepting_bind _ _ _ _ (accepting_self (value_at type o f p)) (λ v e.
      accepting_bind _ _ _ _ (signed_bytes n (p + type_size type)) (λ vs h q.
      let others = rw (integer_size_lem type size i) at (h q) in
      rw (e, value_listed 1 p (rw mul-one (value_inside p v e)), integer_size_lem type size i)
      ((λ k. first_or n p q (⊎_map (λ b. b) others.0 k)), (λ k. ⊎_map (λ b. b) others.1 (or_first n p q k)))))

  -- values that were read one by one, one at least, are in the file
  all_inside : (n p : ℕ) → Accepting (λ (vs : List ℕ). p + size * suc n ≤ length f) (values_at (suc n) type o f p)
  unfolding values_at Accepting
  all_inside zero p =
      accepting_bind _ _ _ _ (accepting_self (value_at type o f p)) (λ v e.
      accepting_then _ _ _ (λ vs. let there = value_inside p v e in omega (arith, mul-one size)))
  all_inside (suc n) p =
      accepting_bind _ _ _ _ (accepting_self (value_at type o f p)) (λ v e.
      accepting_bind _ _ _ _ (all_inside n (p + type_size type)) (λ vs h.
      let rest : p + size + size * suc n ≤ length f = rw (integer_size_lem type size i) at h in
      omega (arith, mul-suc size (suc n))))

  -- so an array that is accepted, and not empty, has the same bytes on the list, whichever way its values are read
  pub same_bytes : (n p : ℕ) (vs : List ℕ) → values_at (suc n) type o f p ≡ accepted vs → (q : ℕ) →
      Inside q (flat (signed_ranges (suc n) type o f p)) ↔ Inside q (flat (value_ranges (suc n) type f p))
  same_bytes n p vs e q =
      let h = accepting_told _ (values_at (suc n) type o f p) vs (signed_bytes (suc n) p) e q in
      rw (value_listed (suc n) p (accepting_told _ (values_at (suc n) type o f p) vs (all_inside n p) e))
      ((λ k. inl (h.0 k)), (λ k. h.1 (only k)))
    where
      only : (x : ((p ≤ q) × (q < p + size * suc n)) ⊎ ⊥) → (p ≤ q) × (q < p + size * suc n)
      only (inl x) = x
      only (inr x) = absurd x
