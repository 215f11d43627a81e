-- A step of what is asked of strips in turn, a case each. Assumes nothing.
use Prim.Native.Nat.{ℕ, ◌+◌, ◌-◌, ◌/◌, ◌%◌, ◌<◌, ◌≤◌}
use mathlib.Core.Path.{◌≡◌, ap, ◌∙◌}
use mathlib.Core.Bool.{Bool, true, false, ◌&&◌, and-false}
use mathlib.Core.List.{List, [], ◌∷◌}
use lib.Dec.{eqb, leb}
use lib.ListN.{length, get_or, drop}
use borrow.Author.Tests.{eq-eqb, ne_eqb, le-leb, lt-leb}
use Rattle.std.proofs.lemmas.List.{at_drop_more, at_drop_all}
use Rattle.lsm_format.specs.Answer.{refused, bind, need, decode}
use Rattle.lsm_strips.specs.Strips.{offset_in, count_in, turn_in, whole_in}

module _ (len : ℕ) (all : List (List ℕ)) (i left : ℕ) where
  pub turn_end : length all ≤ i → turn_in len (drop i all) left ≡ need decode (eqb left 0)
  turn_end h = at_drop_all (λ (l : List (List ℕ)). turn_in len l left) all i h

  turn_more : i < length all → turn_in len (drop i all) left ≡ turn_in len (get_or all i [] ∷ drop (i + 1) all) left
  turn_more h = at_drop_more (λ (l : List (List ℕ)). turn_in len l left) all i [] h

  pub turn_outside : i < length all → leb (offset_in (get_or all i []) + count_in (get_or all i [])) len ≡ false → turn_in len (drop i all) left ≡ refused decode
  unfolding bind
  turn_outside h e = turn_more h ∙ rw e

  pub turn_over : i < length all → leb (offset_in (get_or all i []) + count_in (get_or all i [])) len ≡ true → left < count_in (get_or all i [])
      → turn_in len (drop i all) left ≡ refused decode
  unfolding bind
  turn_over h e u = turn_more h ∙ rw (e, lt-leb (count_in (get_or all i [])) left u)

  pub turn_next : i < length all → leb (offset_in (get_or all i []) + count_in (get_or all i [])) len ≡ true → count_in (get_or all i []) ≤ left
      → turn_in len (drop i all) left ≡ turn_in len (drop (i + 1) all) (left - count_in (get_or all i []))
  unfolding bind
  turn_next h e u = turn_more h ∙ rw (e, le-leb (count_in (get_or all i [])) left u)

module _ (row : ℕ) (all : List (List ℕ)) (i left : ℕ) where
  pub rows_end : length all ≤ i → whole_in row (drop i all) left ≡ eqb left 0
  rows_end h = at_drop_all (λ (l : List (List ℕ)). whole_in row l left) all i h

  rows_more : i < length all → whole_in row (drop i all) left ≡ whole_in row (get_or all i [] ∷ drop (i + 1) all) left
  rows_more h = at_drop_more (λ (l : List (List ℕ)). whole_in row l left) all i [] h

  pub rows_odd : i < length all → (count_in (get_or all i []) % row ≡ 0 → ⊥) → whole_in row (drop i all) left ≡ false
  rows_odd h e = rows_more h ∙ rw (ne_eqb (count_in (get_or all i []) % row) 0 e)

  pub rows_over : i < length all → left < count_in (get_or all i []) / row → whole_in row (drop i all) left ≡ false
  rows_over h u =
      rows_more h
      ∙ ap (λ (b : Bool). eqb (count_in (get_or all i []) % row) 0 && (b && whole_in row (drop (i + 1) all) (left - count_in (get_or all i []) / row)))
      (lt-leb (count_in (get_or all i []) / row) left u)
      ∙ and-false (eqb (count_in (get_or all i []) % row) 0)

  pub rows_next : i < length all → count_in (get_or all i []) % row ≡ 0 → count_in (get_or all i []) / row ≤ left
      → whole_in row (drop i all) left ≡ whole_in row (drop (i + 1) all) (left - count_in (get_or all i []) / row)
  rows_next h e u = rows_more h ∙ rw (eq-eqb (count_in (get_or all i []) % row) 0 e, le-leb (count_in (get_or all i []) / row) left u)
