-- Laws of scalars and of strip arrays, in the order in which the code asks; and of a strip array's values. Assumes nothing.
use Prim.Native.Nat.{ℕ, zero, suc, ◌+◌, ◌-◌, ◌*◌, ◌≤◌, ◌<◌}
use native.Mathlib.Nat.{add-zero, mul-zero, mul-suc}
use native.Mathlib.Omega.{arith}
use mathlib.Core.Bool.{Bool, true, false, not, ◌&&◌, ◌||◌, cond, true≢false, and-false}
use Rattle.std.specs.Prelude.{Option, None, Some, get_or, slice_get}
use Rattle.std.proofs.lemmas.Option.{slice_get_past, unwrap_or-slice_get}
use Rattle.std.proofs.lemmas.Bool.Decides.{nat_tests}
use mathlib.Core.Path.{◌≡◌, refl, sym, ◌∙◌}
use mathlib.Core.List.{List, [], ◌∷◌}
use lib.Dec.{leb, eqb}
use lib.ListN.{length}
use borrow.Author.Tests.{eq-eqb, ne_eqb, eqb-true, eqb-false, leb-true, leb-false, le-leb, lt-leb}
use Rattle.lsm_format.specs.Answer.{Result, accepted, refused, bind, need, given, parse, decode, uneven_bits, negative_value}
use Rattle.lsm_format.specs.Numbers.{Order, number_at}
use Rattle.lsm_format.specs.Directory.{type_size, integer_size, is_signed, is_negative, value_at, values_at, all_equal, Values, value_place, scalar, entry_values, array_values, array}
use Rattle.lsm_format.proofs.Directory.{value_past, value_is, value_negative, values_next, values_stop, scalar_no_number, scalar_nowhere, scalar_no_count, scalar_is, integer_size_lem}
use Rattle.lsm_format.proofs.Apart.{no_case}
use Rattle.lsm_format.proofs.Numbers.{number_there}
use Rattle.lsm_values.proofs.Signs.{next_place, none_past, none_outside}
use Rattle.lsm_values.specs.Values.{unsigned_size, value_of_size, first_number, or_nought, values, some_negative, signed_size, array_at}
use Rattle.std.specs.Option.{unwrap_or}

-- ---- scalars

-- no type is read as a number of no bytes
no_nought : (t : ℕ) → integer_size t ≡ Some 0 → ⊥
unfolding integer_size type_size
no_nought t e = grind (arith, nat_tests)

-- a step that hands on what was accepted
bind_same : (r : Result ℕ) → bind r (λ v. accepted v) ≡ r
unfolding bind
bind_same (accepted v) = refl
bind_same (refused row) = refl

-- a type without a sign that is a number
unsigned_is : (type size : ℕ) → unsigned_size type ≡ Some size → (is_signed type ≡ false) × (integer_size type ≡ Some size)
unsigned_is type size = by (is_signed type)
  where
    by : (s : Bool) → cond s None (integer_size type) ≡ Some size → (s ≡ false) × (integer_size type ≡ Some size)
    by true e = no_case cc
    by false e = (refl, e)

-- its numbers are its values
pub value_unsigned : (type size : ℕ) (o : Order) (f : List ℕ) (p : ℕ) → unsigned_size type ≡ Some size → number_at size o f p ≡ value_at type o f p
unfolding value_at bind
value_unsigned type size o f p e = let u = unsigned_is type size e in rw (u.1, u.0) (sym (bind_same (number_at size o f p)))

-- The first value, by how its type is read as a number: then that says the size, and a count of 0 needs no place. Any other type is refused
-- once the place is known.
abbrev pub scalar_by : Option ℕ → ℕ → Order → List ℕ → ℕ → ℕ → Result ℕ
scalar_by (Some size) type o f count place =
    bind (first_number size o f count place) (λ v. bind (need negative_value (not (is_signed type && is_negative size v))) (λ _. accepted v))
scalar_by None type o f count place = bind (value_place o f (type_size type) count place) (λ p. refused decode)

module _ (o : Order) (f : List ℕ) (type count place : ℕ) where
  pub scalar_asked : scalar o f type count place ≡ scalar_by (integer_size type) type o f count place
  unfolding value_at first_number bind
  scalar_asked = by (integer_size type) refl
    where
      number : (size : ℕ) (b : Bool) (r : Result ℕ) → integer_size type ≡ Some size → eqb count 0 ≡ b → value_place o f size count place ≡ r →
          scalar o f type count place
          ≡ bind (bind (need decode (not b)) (λ _. bind r (λ p. number_at size o f p))) (λ v. bind (need negative_value (not (is_signed type && is_negative size v))) (λ _. accepted v))
      number size true r i t e = sym (scalar_no_count o f type count place size i (λ z. no_nought type (rw (← z) i)) (eqb-true count 0 t))
      number size false (accepted p) i t e =
          sym (scalar_is o f type count place size i (λ z. no_nought type (rw (← z) i)) (eqb-false count 0 t) p e) ∙ rw i refl
      number size false (refused row) i t e = sym (scalar_nowhere o f type count place row (rw (integer_size_lem type size i) e))

      other : (r : Result ℕ) → integer_size type ≡ None → value_place o f (type_size type) count place ≡ r → scalar o f type count place ≡ bind r (λ p. refused decode)
      other (accepted p) i e = sym (scalar_no_number o f type count place p e i)
      other (refused row) i e = sym (scalar_nowhere o f type count place row e)

      by : (s : Option ℕ) → integer_size type ≡ s → scalar o f type count place ≡ scalar_by s type o f count place
      by (Some size) i = number size (eqb count 0) (value_place o f size count place) i refl refl
      by None i = other (value_place o f (type_size type) count place) i refl

  -- of a type without a sign it is the first number
  pub scalar_unsigned : (size : ℕ) → unsigned_size type ≡ Some size → first_number size o f count place ≡ scalar o f type count place
  unfolding bind
  scalar_unsigned size e = let u = unsigned_is type size e in sym (scalar_asked ∙ rw (u.1, u.0) (bind_same (first_number size o f count place)))

-- ---- strip arrays

-- A strip array: its values, and then what is asked of them.
module _ (o : Order) (f : List ℕ) (type count place : ℕ) where
  pub array_asked : array o f type count place ≡ bind (entry_values o f type count place) (λ v. array_at o f v.type v.count v.place)
  unfolding array array_values array_at bind
  array_asked = by (entry_values o f type count place)
    where
      counted : (b : Bool) (v : Values) →
          bind (bind (need decode b) (λ _. accepted v)) (λ x. values_at x.count x.type o f x.place) ≡ bind (need decode b) (λ _. values_at v.count v.type o f v.place)
      counted true v = refl
      counted false v = refl

      by : (r : Result Values) → bind (bind r (λ v. bind (need decode (leb v.count 100000)) (λ _. accepted v))) (λ v. values_at v.count v.type o f v.place)
          ≡ bind r (λ v. bind (need decode (leb v.count 100000)) (λ _. values_at v.count v.type o f v.place))
      by (accepted v) = counted (leb v.count 100000) v
      by (refused row) = refl

-- What is asked of values at a place in the file: first that none before the end is negative, where their type is signed; then that the last of
-- them is in the file.
abbrev pub judged : Bool → Bool → List ℕ → Result (List ℕ)
judged negative inside vs = bind (need negative_value (not negative)) (λ _. bind (need parse inside) (λ _. accepted vs))

-- the size, once the signs are judged, and then what is asked by it
sized : (negative : Bool) (size : ℕ) (k : ℕ → Result (List ℕ)) → bind (need negative_value (not negative)) (λ _. k size)
    ≡ bind (bind (need negative_value (not negative)) (λ _. accepted size)) k
unfolding bind
sized true size k = refl
sized false size k = refl

-- one value more, of 0 and above, in front
judged_more : (negative inside : Bool) (v : ℕ) (vs : List ℕ) → bind (judged negative inside vs) (λ rest. accepted (v ∷ rest)) ≡ judged negative inside (v ∷ vs)
unfolding bind
judged_more true inside v vs = refl
judged_more false true v vs = refl
judged_more false false v vs = refl

-- a sign that is not looked at, or that none is, leaves the others; one that is there decides
sign_passed : (s v rest : Bool) → (s && v) ≡ false → (s && (v || rest)) ≡ (s && rest)
sign_passed true true rest e = absurd (true≢false e)
sign_passed true false rest e = refl
sign_passed false v rest e = refl

sign_decides : (s v rest : Bool) → (s && v) ≡ true → (s && (v || rest)) ≡ true
sign_decides true true rest e = refl
sign_decides true false rest e = absurd (true≢false (sym e))
sign_decides false v rest e = e

module _ (type size : ℕ) (o : Order) (f : List ℕ) (i : integer_size type ≡ Some size) where
  abbrev whole : ℕ → ℕ → Bool
  whole n p = leb (p + size * n) (length f)

  abbrev negative : ℕ → ℕ → Bool
  negative n p = is_signed type && some_negative n size o f p

  pub values_from : (n p : ℕ) → p ≤ length f → values_at n type o f p ≡ judged (negative n p) (whole n p) (values n size o f p)
  unfolding values_at values some_negative or_nought bind
  values_from zero p h = rw (and-false (is_signed type), le-leb (p + size * 0) (length f) (omega (arith, mul-zero size))) refl
  values_from (suc n) p h =
      by (leb (p + size) (length f)) (is_signed type && is_negative size (or_nought (number_at size o f p))) (values_from n (p + size)) refl refl
    where
      by : (b s : Bool) →
          (p + size ≤ length f → values_at n type o f (p + size) ≡ judged (negative n (p + size)) (whole n (p + size)) (values n size o f (p + size))) →
          leb (p + size) (length f) ≡ b → (is_signed type && is_negative size (or_nought (number_at size o f p))) ≡ s →
          values_at (suc n) type o f p ≡ judged (negative (suc n) p) (whole (suc n) p) (values (suc n) size o f p)
      by false s others t e =
          let past : length f < p + size = leb-false _ _ t in
          let short : whole (suc n) p ≡ false = lt-leb (p + size * suc n) (length f) (omega (arith, mul-suc size n)) in
          values_stop n type size o f p i parse (value_past type size o f p i past) ∙ rw (none_past size o f (suc n) p past, and-false (is_signed type), short) refl
      by true true others t e =
          let there = number_there size o f p (leb-true _ _ t) in
          values_stop n type size o f p i negative_value (value_negative type size o f p i _ there (rw there at e))
          ∙ rw (sign_decides (is_signed type) _ (some_negative n size o f (p + size)) e) refl
      by true false others t e =
          let there = number_there size o f p (leb-true _ _ t) in
          let next : p + size + size * n ≡ p + size * suc n = omega (arith, mul-suc size n) in
          values_next n type size o f p i _ (value_is type size o f p i _ there (rw there at e))
          ∙ rw (others (leb-true _ _ t), sign_passed (is_signed type) _ (some_negative n size o f (p + size)) e, next, there) (judged_more _ _ _ _)

-- That a place is in the file, and so many bytes from it on.
abbrev pub reached : List ℕ → ℕ → ℕ → List ℕ → Result (List ℕ)
reached f p size vs = bind (need parse (leb p (length f))) (λ _. bind (need parse (leb (p + size) (length f))) (λ _. accepted vs))

-- The values at a known place: how they are read, and then where they end.
abbrev pub array_by : Order → List ℕ → ℕ → ℕ → ℕ → Result (List ℕ)
array_by o f type count p = bind (signed_size o f type count p) (λ size. reached f p (size * count) (values count size o f p))

module _ (o : Order) (f : List ℕ) (type p : ℕ) where
  asked : (count : ℕ) → values_at count type o f p ≡ cond (eqb count 0) (accepted []) (array_by o f type count p)
  unfolding values_at value_at signed_size bind
  asked zero = refl
  asked (suc n) = rw (ne_eqb (suc n) 0 (λ e. omega arith)) (by (integer_size type) refl)
    where
      inside : (size : ℕ) (l : Bool) → integer_size type ≡ Some size → leb p (length f) ≡ l → values_at (suc n) type o f p
          ≡ bind (bind (need negative_value (not (is_signed type && some_negative (suc n) size o f p))) (λ _. accepted size)) (λ size.
          bind (need parse l) (λ _. bind (need parse (leb (p + size * suc n) (length f))) (λ _. accepted (values (suc n) size o f p))))
      inside size true i t =
          values_from type size o f i (suc n) p (leb-true _ _ t)
          ∙ sized (is_signed type && some_negative (suc n) size o f p) size (λ n'. bind (need parse (leb (p + n' * suc n) (length f))) (λ _. accepted (values (suc n) n' o f p)))
      inside size false i t =
          let past : length f < p = leb-false _ _ t in
          values_stop n type size o f p i parse (value_past type size o f p i (omega arith))
          ∙ rw (none_outside size o f (suc n) p past, and-false (is_signed type)) refl

      by : (s : Option ℕ) → integer_size type ≡ s → values_at (suc n) type o f p
          ≡ bind (bind (given decode s) (λ size. bind (need negative_value (not (is_signed type && some_negative (suc n) size o f p))) (λ _. accepted size))) (λ size.
          reached f p (size * suc n) (values (suc n) size o f p))
      by None i = rw i refl
      by (Some size) i = inside size (leb p (length f)) i refl

  pub array_counted : (count : ℕ) → array_at o f type count p
      ≡ bind (need decode (leb count 100000)) (λ _. cond (eqb count 0) (accepted []) (array_by o f type count p))
  unfolding array_at
  array_counted count = rw (← asked count) refl

  -- without a sign there is nothing to look at
  pub size_unsigned : (count size : ℕ) → unsigned_size type ≡ Some size → signed_size o f type count p ≡ accepted size
  unfolding signed_size bind
  size_unsigned count size e = let u = unsigned_is type size e in rw (u.1, u.0) refl

-- ---- values that are held against one

-- a value by its size and its sign
pub value_sized : (type size : ℕ) (signed : Bool) (o : Order) (f : List ℕ) (p : ℕ) → integer_size type ≡ Some size → is_signed type ≡ signed →
    value_at type o f p ≡ value_of_size signed size o f p
unfolding value_of_size value_at bind
value_sized type size signed o f p s t = rw (s, t) refl

-- no more
pub equal_over : (n i v type : ℕ) (o : Order) (f : List ℕ) (p : ℕ) → n ≤ i → all_equal (n - i) v type o f p ≡ accepted tt
unfolding all_equal
equal_over n i v type o f p h = let none : n - i ≡ 0 = omega arith in rw none

module _ (n v type : ℕ) (o : Order) (f : List ℕ) (p i : ℕ) (h : i < n) where
  one_more : n - i ≡ suc (n - (i + 1))
  one_more = omega arith

  -- a type that is no number
  pub equal_no_number : integer_size type ≡ None → all_equal (n - i) v type o f p ≡ refused decode
  unfolding all_equal value_at bind
  equal_no_number s = rw (one_more, s)

  -- the i-th of n, and then the others
  module _ (size : ℕ) (s : integer_size type ≡ Some size) where
    equal_more : all_equal (n - i) v type o f (p + size * i)
        ≡ bind (value_at type o f (p + size * i)) (λ w.
        bind (need uneven_bits (eqb w v)) (λ _. all_equal (n - (i + 1)) v type o f (p + size * (i + 1))))
    unfolding all_equal bind
    equal_more = rw (one_more, integer_size_lem type size s, next_place p size i)

    pub equal_stops : (row : List ℕ) → value_at type o f (p + size * i) ≡ refused row → all_equal (n - i) v type o f (p + size * i) ≡ refused row
    unfolding bind
    equal_stops row e = rw (equal_more, e)

    module _ (w : ℕ) (e : value_at type o f (p + size * i) ≡ accepted w) where
      pub equal_uneven : (w ≡ v → ⊥) → all_equal (n - i) v type o f (p + size * i) ≡ refused uneven_bits
      unfolding bind
      equal_uneven h = rw (equal_more, e, ne_eqb w v h)

      pub equal_pass : w ≡ v → all_equal (n - i) v type o f (p + size * i) ≡ all_equal (n - (i + 1)) v type o f (p + size * (i + 1))
      unfolding bind
      equal_pass h = rw (equal_more, e, eq-eqb w v h)

-- an array has as many values as it counts
pub values_length : (n size : ℕ) (o : Order) (f : List ℕ) (p : ℕ) → length (values n size o f p) ≡ n
unfolding values
values_length zero size o f p = refl
values_length (suc n) size o f p = rw (values_length n size o f (p + size))

-- value i of an array
pub value_there : (n size : ℕ) (o : Order) (f : List ℕ) (p i : ℕ) → i < n →
    slice_get (values n size o f p) i ≡ Some (or_nought (number_at size o f (p + size * i)))
unfolding values
value_there zero size o f p i h = absurd (never i h)
  where
    never : (i : ℕ) → i < 0 → ⊥
    never i h = omega arith
value_there (suc n) size o f p zero h = rw (mul-zero, add-zero)
value_there (suc n) size o f p (suc i) h =
    let q : p + size + size * i ≡ p + size * suc i = omega (arith, mul-suc size i) in
    rw (← q) (value_there n size o f (p + size) i (omega arith))

-- past the count there is none
pub value_none : (n size : ℕ) (o : Order) (f : List ℕ) (p i : ℕ) → n ≤ i → slice_get (values n size o f p) i ≡ None
value_none n size o f p i h = slice_get_past (values n size o f p) i (rw (values_length n size o f p) h)

-- the value that there may be, and 0 where there is none
pub value_or : (l : List ℕ) (i : ℕ) → unwrap_or (slice_get l i) 0 ≡ get_or l i 0
value_or l i = unwrap_or-slice_get l i 0

-- the same of a value that is there
pub value_at_lem : (n size : ℕ) (o : Order) (f : List ℕ) (p i : ℕ) → i < n → get_or (values n size o f p) i 0 ≡ or_nought (number_at size o f (p + size * i))
value_at_lem n size o f p i h = rw (value_there n size o f p i h) at (sym (value_or (values n size o f p) i))
