-- Laws of lists that are compared pair by pair. Assumes nothing.
use Rattle.std.proofs.Common.{◌≡◌, ℕ, ◌<◌, ◌≤◌, Bool, true, false, ◌&&◌, List, [], ◌∷◌, leb, ltb, eqb, length, take, drop, get_or, map, refl, ap, arith, ◌∙◌}
use Rattle.std.proofs.lemmas.Bool.{eqb-true, eq-eqb, leb-true, ltb-true}
use Rattle.std.proofs.lemmas.Grind.{common_steps}
use Rattle.std.proofs.lemmas.List.Sums.{AllPass-from_list_all, list_all-from_AllPass}
use Rattle.std.specs.List.{All, list_all, zip}
use Rattle.std.specs.Cmp.Lexicographic.{pointwise}
use Rattle.lsm_format.proofs.Accepting.{both_hold}
use Rattle.vectors.specs.Same.{same, kept, same_front, same_then_kept, itself, in_answer, same_answer}

module _ {A B : Type 0} (E : A → B → Bool) where
  -- other lengths
  pub unlike : (xs : List A) (ys : List B) → ¬ (length xs ≡ length ys) → false ≡ pointwise E xs ys
  unlike [] [] h = absurd (h refl)
  unlike [] (y ∷ ys) h = refl
  unlike (x ∷ xs) [] h = refl
  unlike (x ∷ xs) (y ∷ ys) h = let r : false ≡ pointwise E xs ys = unlike xs ys (λ e. h (omega (arith, e))) in grind (arith, common_steps)

  -- the same length
  pub alike : (xs : List A) (ys : List B) (r : Bool) → length xs ≡ length ys → r ≡ list_all (λ (p : A × B). E p.0 p.1) (zip xs ys) → r ≡ pointwise E xs ys
  alike xs ys r h e = e ∙ zipped xs ys h
    where
      zipped : (xs : List A) (ys : List B) → length xs ≡ length ys → list_all (λ (p : A × B). E p.0 p.1) (zip xs ys) ≡ pointwise E xs ys
      zipped [] [] h = refl
      zipped [] (y ∷ ys) h = absurd (omega arith)
      zipped (x ∷ xs) [] h = absurd (omega arith)
      zipped (x ∷ xs) (y ∷ ys) h = ap (λ b. E x y && b) (zipped xs ys (omega arith))

-- ---- what a comparison that agrees tells

module _ {X : Type 0} (number : X → ℕ) where
  -- words that are the same are the numbers of what is lent
  pub same_equal : (words : List ℕ) (lent : List X) → same number words lent ≡ true → words ≡ map number lent
  same_equal [] [] e = refl
  same_equal [] (x ∷ xs) e = cc
  same_equal (w ∷ ws) [] e = cc
  same_equal (w ∷ ws) (x ∷ xs) e =
      let b = both_hold (eqb w (number x)) (same number ws xs) e in
      let first : w ≡ number x = eqb-true w (number x) b.0 in
      let rest : ws ≡ map number xs = same_equal ws xs b.1 in
      cc

  -- and the numbers of what is lent are the same
  pub equal_same : (lent : List X) → same number (map number lent) lent ≡ true
  equal_same [] = refl
  equal_same (x ∷ xs) = rw (eq-eqb (number x) (number x) refl) (equal_same xs)

  -- what is kept is v, each of it
  pub kept_each : (v : ℕ) (lent : List X) → kept number v lent ≡ true → All (λ x. number x ≡ v) lent
  kept_each v lent e = λ k d h. eqb-true (number (get_or lent k d)) v (AllPass-from_list_all (λ x. eqb (number x) v) lent e k d h)

  pub each_kept : (v : ℕ) (lent : List X) → All (λ x. number x ≡ v) lent → kept number v lent ≡ true
  each_kept v lent a = list_all-from_AllPass (λ x. eqb (number x) v) lent (λ k d h. eq-eqb (number (get_or lent k d)) v (a k d h))

  -- words that are the first n of what is lent, and v past those
  pub then_each : (v : ℕ) (words : List ℕ) (lent : List X) (n : ℕ) → same_then_kept number v words lent n ≡ true
      → (n ≤ length lent) × (words ≡ map number (take n lent)) × All (λ x. number x ≡ v) (drop n lent)
  then_each v words lent n e =
      let b = both_hold (same_front number words lent n) (kept number v (drop n lent)) e in
      let f = both_hold (leb n (length lent)) (same number words (take n lent)) b.0 in
      (leb-true n (length lent) f.0, same_equal words (take n lent) f.1, kept_each v (drop n lent) b.1)

each_itself : (xs : List ℕ) → map itself xs ≡ xs
each_itself [] = refl
each_itself (x ∷ xs) = ap (λ (ys : List ℕ). x ∷ ys) (each_itself xs)

-- numbers said that begin with the number that a C function returned, and are the words of its answer, with zeros after them
pub answer_each : (said : List ℕ) (number : ℕ) (answer : List ℕ) (most : ℕ) → same_answer said number answer most ≡ true
    → (0 < in_answer said most) × (get_or said 0 0 ≡ number)
    × (in_answer said most ≤ length answer) × (take (in_answer said most) said ≡ take (in_answer said most) answer)
    × All (λ x. x ≡ 0) (drop (in_answer said most) answer)
unfolding same_answer
answer_each said number answer most e =
    let n = in_answer said most in
    let b = both_hold (ltb 0 n && eqb (get_or said 0 0) number) (same_then_kept itself 0 (take n said) answer n) e in
    let f = both_hold (ltb 0 n) (eqb (get_or said 0 0) number) b.0 in
    let t = then_each itself 0 (take n said) answer n b.1 in
    (ltb-true 0 n f.0, eqb-true (get_or said 0 0) number f.1, t.0, t.1 ∙ each_itself (take n answer), t.2)
