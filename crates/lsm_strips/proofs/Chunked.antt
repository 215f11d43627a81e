-- What an iterator over parts of n elements gives: the parts in turn. Assumes nothing.
use Prim.Native.Nat.{ℕ, zero, suc, ◌*◌, ◌<◌}
use native.Mathlib.Nat.{suc-mul, zero-mul}
use native.Mathlib.Omega.{arith}
use mathlib.Core.Path.{◌≡◌, sym, ap, subst, ◌∙◌}
use mathlib.Core.List.{List, ◌++◌}
use lib.ListN.{length, take, drop, length-append}
use Rattle.std.specs.Iterator.{AlwaysYields}
use Rattle.std.specs.Simd.{first_chunks}
use Rattle.std.specs.Slice.Iter.{chunks_exact_rest, chunks_exact_size, chunks_exact_steps}
use Rattle.std.specs.declared.slice.ChunksExact.{ChunksExact}
use Rattle.std.proofs.Math.Seq.{take-append_seam, drop-append_seam}
use Rattle.std.proofs.lemmas.Iterator.{YieldsList}

module _ {A : Type 0} (n : ℕ) (p : 0 < n) where
  given : (k : ℕ) (s : ChunksExact A) → chunks_exact_size s ≡ n → length (chunks_exact_rest s) ≡ k * n
      → AlwaysYields chunks_exact_steps (λ x. x.now) s (first_chunks n k (chunks_exact_rest s))
  given zero s z e = λ x t h.
      omega (arith, zero-mul n, ap length h.1.0, length-append x.now (chunks_exact_rest t), h.1.1)
  given (suc k) s z e = (
    (λ t h. omega (arith, suc-mul k n, h.1.0)),
    λ x t h.
        let l : length x.now ≡ n = h.1.1 ∙ z in
        let front : take n (chunks_exact_rest s) ≡ x.now =
        ap (take n) h.1.0 ∙ ap (λ (m : ℕ). take m (x.now ++ chunks_exact_rest t)) (sym l) ∙ take-append_seam x.now (chunks_exact_rest t) in
        let back : drop n (chunks_exact_rest s) ≡ chunks_exact_rest t =
        ap (drop n) h.1.0 ∙ ap (λ (m : ℕ). drop m (x.now ++ chunks_exact_rest t)) (sym l) ∙ drop-append_seam x.now (chunks_exact_rest t) in
        let left : length (chunks_exact_rest t) ≡ k * n = omega (arith, suc-mul k n, ap length h.1.0, length-append x.now (chunks_exact_rest t)) in
        (sym front, subst (λ l. AlwaysYields chunks_exact_steps (λ x. x.now) t (first_chunks n k l)) (sym back) (given k t (h.0 ∙ z) left)),
  )

  pub YieldsList-from_chunks : (k : ℕ) {s : ChunksExact A} (xs : List A) → chunks_exact_size s ≡ n → chunks_exact_rest s ≡ xs → length xs ≡ k * n
      → YieldsList chunks_exact_steps (λ x. x.now) s (first_chunks n k xs)
  YieldsList-from_chunks k {s} xs z e l =
      record { runs = subst (λ l. AlwaysYields chunks_exact_steps (λ x. x.now) s (first_chunks n k l)) e (given k s z (ap length e ∙ l)) }
