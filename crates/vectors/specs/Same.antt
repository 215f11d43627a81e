-- What it is for words to say what is lent, and for lent memory to hold what was in it before. `number` says what a thing that is lent is.
use Rattle.std.specs.Prelude.{ℕ, min, Bool, ◌&&◌, List, leb, ltb, eqb, length, take, drop, get_or}
use Rattle.std.specs.List.{list_all}
use Rattle.std.specs.Cmp.Lexicographic.{pointwise}

module _ {X : Type 0} (number : X → ℕ) where
  -- Whether words are the numbers of what is lent, in the same places, and no more.
  abbrev pub same : List ℕ → List X → Bool
  same words lent = pointwise (λ w x. eqb w (number x)) words lent

  -- Whether the number of everything lent is v.
  abbrev pub kept : ℕ → List X → Bool
  kept v lent = list_all (λ x. eqb (number x) v) lent

  -- Whether words are the first n of what is lent, which is as many.
  abbrev pub same_front : List ℕ → List X → ℕ → Bool
  same_front words lent n = leb n (length lent) && same words (take n lent)

  -- The same, and everything past those is v.
  abbrev pub same_then_kept : ℕ → List ℕ → List X → ℕ → Bool
  same_then_kept v words lent n = same_front words lent n && kept v (drop n lent)

  -- Whether all that is said is words, and then the first n of what is lent, past which everything is v.
  abbrev pub same_result : ℕ → List ℕ → List ℕ → List X → ℕ → Bool
  same_result v said words lent n = pointwise eqb (take (length words) said) words && same_then_kept v (drop (length words) said) lent n

-- What words and bytes are.
abbrev pub itself : ℕ → ℕ
itself n = n

-- How many of the numbers said are words of an answer that has `most`; the others are in lent memory.
abbrev pub in_answer : List ℕ → ℕ → ℕ
in_answer said most = min (length said) most

-- Whether a C function gave the first of the numbers said: they begin with the number that it returned, and are the words of its answer,
-- `most` at most, with zeros after them.
unfoldable pub same_answer : List ℕ → ℕ → List ℕ → ℕ → Bool
same_answer said number answer most =
    ltb 0 (in_answer said most) && eqb (get_or said 0 0) number
    && same_then_kept itself 0 (take (in_answer said most) said) answer (in_answer said most)
