-- Laws of the walk over the strips. Assumes nothing.
use Prim.Native.Nat.{ℕ, ◌+◌, ◌-◌, ◌*◌, ◌/◌, ◌%◌, ◌<◌, ◌≤◌}
use native.Mathlib.Nat.{add_assoc, add-zero, add-mul, one-mul, le-div_iff_mul-le, div-add-mod', mod-lt, add-sub_cancel_left}
use native.Mathlib.Omega.{arith}
use mathlib.Core.Path.{◌≡◌, refl, ap, subst, ◌∙◌}
use mathlib.Core.Bool.{true}
use mathlib.Core.List.{List, [], ◌∷◌}
use lib.ListN.{length, get_or, take, drop, length-drop}
use lib.Seq.{take_all, get_or-drop}
use borrow.Author.Tests.{le-ltb}
use Rattle.std.proofs.lemmas.List.{at_drop_more}
use Rattle.std.specs.Prelude.{Option, None, Some}
use Rattle.std.specs.Option.{MatchOption, is_some}
use Rattle.lsm_format.proofs.Accepting.{both_hold}
use Rattle.lsm_format.proofs.Apart.{no_case}
use Rattle.lsm_strips.specs.Strips.{count_in, total_in, place_in, Stands, Reaches}

-- ---- where the walk stands

pub stands_start : (all : List (List ℕ)) (k : ℕ) → Stands all k all k
stands_start all k = record { moved = λ m. refl; whole = refl; within = λ len h. h }

past_strip : (s : List ℕ) (rest : List (List ℕ)) (k : ℕ) → place_in (s ∷ rest) (count_in s + k) ≡ place_in rest k
past_strip s rest k = rw (le-ltb (count_in s + k) (count_in s) (omega arith), place_in, add-sub_cancel_left)

stands_past : {all rest : List (List ℕ)} {k d : ℕ} (s : List ℕ) (b : ℕ) → Stands all k (s ∷ rest) d → d ≡ count_in s + b → Stands all k rest b
stands_past {all} {rest} {k} {d} s b st q =
    record {
      moved = λ m. st.moved m ∙ rw (q, add_assoc) (past_strip s rest (b + m));
      whole = omega (arith, st.whole);
      within = λ len h. (both_hold _ _ (st.within len h)).1;
    }

module _ {all : List (List ℕ)} {k d : ℕ} (ss : List (List ℕ)) (i : ℕ) where
  pub stands_next : (b : ℕ) → Stands all k (drop i ss) d → i < length ss → d ≡ count_in (get_or ss i []) + b → Stands all k (drop (i + 1) ss) b
  stands_next b st h q =
      stands_past (get_or ss i []) b (subst (λ (l : List (List ℕ)). Stands all k l d) (at_drop_more (λ (l : List (List ℕ)). l) ss i [] h) st) q

-- the strips from strip i on
pub tail_is : (ss : List (List ℕ)) (i : ℕ) → take (length ss - i) (drop i ss) ≡ drop i ss
tail_is ss i = take_all (length ss - i) (drop i ss) (omega (arith, length-drop i ss))

-- ---- so many rows of `row` bytes and `into` bytes more, from a strip of `count` bytes on: what is left after it

module _ (count into ahead row : ℕ) where
  ahead_fits : 0 < row → into < count → ahead ≤ (count - into - 1) / row → into + ahead * row < count
  ahead_fits p l h =
      let f : ahead * row ≤ count - into - 1 = (le-div_iff_mul-le {k = row} {x = ahead} {y = count - into - 1} p).0 h in
      omega arith

  ahead_over : 0 < row → into < count → (count - into - 1) / row < ahead
      → ahead * row + into ≡ count + ((ahead - ((count - into - 1) / row + 1)) * row + (row - 1 - (count - into - 1) % row))
  ahead_over p l h =
      let here : ℕ = (count - into - 1) / row in
      let left : ℕ = ahead - (here + 1) in
      let q : ahead ≡ here + (1 + left) = omega arith in
      let w : ahead * row ≡ here * row + (row + left * row) = ap (λ (k : ℕ). k * row) q ∙ rw (add-mul, add-mul, one-mul) in
      omega (arith, div-add-mod' (count - into - 1) row, mod-lt (count - into - 1) p, w)

module _ {all : List (List ℕ)} {k : ℕ} (ss : List (List ℕ)) (i into ahead row : ℕ) (p : 0 < row) (h : i < length ss)
    (l : into < count_in (get_or ss i [])) (st : Stands all k (drop i ss) (ahead * row + into)) where
  -- a strip that has the place looked for
  pub reaches : ahead ≤ (count_in (get_or ss i []) - into - 1) / row → Reaches all k (take (length ss - i) (drop i ss)) (into + ahead * row)
  reaches u =
      let f = ahead_fits (count_in (get_or ss i [])) into ahead row p l u in
      let c : into + ahead * row ≡ ahead * row + into = omega arith in
      record {
        there = omega (arith, st.whole, at_drop_more total_in ss i [] h);
        first = rw (tail_is ss i, get_or-drop, add-zero) f;
        stands = rw (tail_is ss i, c) st;
      }

  -- one that ends before it
  pub stands_over : (count_in (get_or ss i []) - into - 1) / row < ahead
      → Stands all k (drop (i + 1) ss) ((ahead - ((count_in (get_or ss i []) - into - 1) / row + 1)) * row + (row - 1 - (count_in (get_or ss i []) - into - 1) % row))
  stands_over u = stands_next ss i _ st h (ahead_over (count_in (get_or ss i [])) into ahead row p l u)

-- what is told of a place that there is
pub there_then : {X : Type 0} (P : Type 0) (Q : X → Type 0) (o : Option X) → MatchOption o P Q → is_some o ≡ true → (x : X) × Q x
there_then P Q (Some x) q e = (x, q)
there_then P Q None q e = no_case cc
