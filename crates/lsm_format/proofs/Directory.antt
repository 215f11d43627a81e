-- Laws of the directory's definitions, a case each. Assumes nothing.
use Prim.Native.Nat.{ℕ, zero, suc, ◌+◌, ◌*◌, ◌≤◌, ◌<◌}
use native.Mathlib.Nat.{mul-suc, mul-zero, zero-mul}
use native.Mathlib.Omega.{arith}
use mathlib.Core.Bool.{Bool, true, false, not, ◌&&◌, ◌||◌, cond}
use mathlib.Core.Logic.{◌⊎◌, inl, inr}
use Rattle.std.specs.Prelude.{Option, None, Some}
use mathlib.Core.Path.{◌≡◌, refl, sym, ap, fun_ext, ◌∙◌}
use mathlib.Core.List.{List, [], ◌∷◌}
use lib.Dec.{leb, eqb, T, leb→le, lit≤}
use lib.ListN.{length}
use borrow.Author.Tests.{eq-eqb, ne_eqb, eqb-true, leb-true, leb-false, le-leb, lt-leb, lt-ltb, le-ltb}
use Rattle.lsm_format.specs.Answer.{Result, accepted, refused, bind, need, parse, decode, negative_value}
use Rattle.lsm_format.specs.Numbers.{Order, value_of, number_at, u16_at, u32_at}
use Rattle.lsm_format.specs.Directory.{among, type_size, integer_size, is_signed, is_negative, value_at, values_at, value_place, entry_values, scalar_values, scalar, array_values, array, Values, Directory, Field, is_short, put, put_field, Tag, cz_lsm_info, put_cz, tag_of, entry_by, entry}
use Rattle.lsm_format.proofs.Numbers.{number_past, number_there, bytes_from}
use Rattle.lsm_format.proofs.Accepting.{not_both}
use Rattle.lsm_format.proofs.Apart.{no_case}

-- ---- types

abbrev all_up_to : ℕ → List ℕ → Bool
all_up_to b [] = true
all_up_to b (m ∷ ms) = leb m b && all_up_to b ms

-- a number above every one of a list is not among them
among_above : (t b : ℕ) (ms : List ℕ) → T (all_up_to b ms) → b < t → among t ms ≡ false
among_above t b [] h k = refl
among_above t b (m ∷ ms) h k = by (leb m b) (leb→le m b) (λ r. among_above t b ms r k) h
  where
    by : (l : Bool) → (T l → m ≤ b) → (T (all_up_to b ms) → among t ms ≡ false) → T (l && all_up_to b ms) → among t (m ∷ ms) ≡ false
    by true q rest h = let le : m ≤ b = q tt in rw (ne_eqb t m (λ e. omega arith)) (rest h)
    by false q rest h = absurd h

-- codes above 12, and 0, are no types
pub type_above : (t : ℕ) → 12 < t → (type_size t ≡ 0) × (integer_size t ≡ None)
unfolding type_size integer_size
type_above t h = (
  rw (among_above t 12 (1 ∷ 2 ∷ 6 ∷ 7 ∷ []) tt h, among_above t 12 (3 ∷ 8 ∷ []) tt h, among_above t 12 (4 ∷ 9 ∷ 11 ∷ []) tt h, among_above t 12 (5 ∷ 10 ∷ 12 ∷ []) tt h),
  rw (among_above t 12 (1 ∷ 3 ∷ 4 ∷ 6 ∷ 7 ∷ 8 ∷ 9 ∷ 11 ∷ []) tt h),
)

-- the codes from 1 to 7 that are none of 3, 4 and 5 have one byte
pub type_one : (t : ℕ) → 1 ≤ t → t < 8 → (t ≡ 3 → ⊥) → (t ≡ 4 → ⊥) → (t ≡ 5 → ⊥) → 1 ≡ type_size t
unfolding type_size
type_one zero l h x y z = absurd (omega arith)
type_one (suc zero) l h x y z = refl
type_one (suc (suc zero)) l h x y z = refl
type_one (suc (suc (suc zero))) l h x y z = absurd (x refl)
type_one (suc (suc (suc (suc zero)))) l h x y z = absurd (y refl)
type_one (suc (suc (suc (suc (suc zero))))) l h x y z = absurd (z refl)
type_one (suc (suc (suc (suc (suc (suc zero)))))) l h x y z = refl
type_one (suc (suc (suc (suc (suc (suc (suc zero))))))) l h x y z = refl
type_one (suc (suc (suc (suc (suc (suc (suc (suc n)))))))) l h x y z = absurd (omega arith)

-- the codes that are read as no number: below 6 those that are none of 1, 3 and 4, from 8 on those that are none of 8, 9 and 11
pub integer_low : (t : ℕ) → t < 6 → (t ≡ 1 → ⊥) → (t ≡ 3 → ⊥) → (t ≡ 4 → ⊥) → None ≡ integer_size t
unfolding integer_size type_size
integer_low zero h x y z = refl
integer_low (suc zero) h x y z = absurd (x refl)
integer_low (suc (suc zero)) h x y z = refl
integer_low (suc (suc (suc zero))) h x y z = absurd (y refl)
integer_low (suc (suc (suc (suc zero)))) h x y z = absurd (z refl)
integer_low (suc (suc (suc (suc (suc zero))))) h x y z = refl
integer_low (suc (suc (suc (suc (suc (suc n)))))) h x y z = absurd (omega arith)

pub integer_high : (t : ℕ) → 8 ≤ t → (t ≡ 8 → ⊥) → (t ≡ 9 → ⊥) → (t ≡ 11 → ⊥) → None ≡ integer_size t
unfolding integer_size type_size
integer_high zero h x y z = absurd (omega arith)
integer_high (suc zero) h x y z = absurd (omega arith)
integer_high (suc (suc zero)) h x y z = absurd (omega arith)
integer_high (suc (suc (suc zero))) h x y z = absurd (omega arith)
integer_high (suc (suc (suc (suc zero)))) h x y z = absurd (omega arith)
integer_high (suc (suc (suc (suc (suc zero))))) h x y z = absurd (omega arith)
integer_high (suc (suc (suc (suc (suc (suc zero)))))) h x y z = absurd (omega arith)
integer_high (suc (suc (suc (suc (suc (suc (suc zero))))))) h x y z = absurd (omega arith)
integer_high (suc (suc (suc (suc (suc (suc (suc (suc zero)))))))) h x y z = absurd (x refl)
integer_high (suc (suc (suc (suc (suc (suc (suc (suc (suc zero))))))))) h x y z = absurd (y refl)
integer_high (suc (suc (suc (suc (suc (suc (suc (suc (suc (suc zero)))))))))) h x y z = refl
integer_high (suc (suc (suc (suc (suc (suc (suc (suc (suc (suc (suc zero))))))))))) h x y z = absurd (z refl)
integer_high (suc (suc (suc (suc (suc (suc (suc (suc (suc (suc (suc (suc zero)))))))))))) h x y z = refl
integer_high (suc (suc (suc (suc (suc (suc (suc (suc (suc (suc (suc (suc (suc n))))))))))))) h x y z = sym (type_above (suc (suc (suc (suc (suc (suc (suc (suc (suc (suc (suc (suc (suc n))))))))))))) (omega arith)).1

-- 6 and 7 are read as one byte
pub integer_one : (t : ℕ) → 6 ≤ t → t < 8 → Some 1 ≡ integer_size t
unfolding integer_size type_size
integer_one zero l h = absurd (omega arith)
integer_one (suc zero) l h = absurd (omega arith)
integer_one (suc (suc zero)) l h = absurd (omega arith)
integer_one (suc (suc (suc zero))) l h = absurd (omega arith)
integer_one (suc (suc (suc (suc zero)))) l h = absurd (omega arith)
integer_one (suc (suc (suc (suc (suc zero))))) l h = absurd (omega arith)
integer_one (suc (suc (suc (suc (suc (suc zero)))))) l h = refl
integer_one (suc (suc (suc (suc (suc (suc (suc zero))))))) l h = refl
integer_one (suc (suc (suc (suc (suc (suc (suc (suc n)))))))) l h = absurd (omega arith)

-- ---- the place of an entry's values

pub place_in_entry : (o : Order) (f : List ℕ) (size count p : ℕ) → size * count ≤ 4 → accepted p ≡ value_place o f size count p
unfolding value_place
place_in_entry o f size count p h = rw (le-leb (size * count) 4 h)

pub place_by_offset : (o : Order) (f : List ℕ) (size count p : ℕ) (r : Result ℕ) → 4 < size * count → u32_at o f p ≡ r → r ≡ value_place o f size count p
unfolding value_place
place_by_offset o f size count p r h e = rw (lt-leb (size * count) 4 h) (sym e)

-- ---- values one after another

-- a type that is read as a number has its own bytes
pub integer_size_lem : (t size : ℕ) → integer_size t ≡ Some size → type_size t ≡ size
unfolding integer_size
integer_size_lem t size i = by (among t (1 ∷ 3 ∷ 4 ∷ 6 ∷ 7 ∷ 8 ∷ 9 ∷ 11 ∷ [])) i
  where
    by : (b : Bool) → cond b (Some (type_size t)) None ≡ Some size → type_size t ≡ size
    by true e = ap (or 0) e
      where
        or : ℕ → Option ℕ → ℕ
        or n None = n
        or n (Some m) = m
    by false e = no_case cc

-- a value: past the file, of 0 and above, and negative
module _ (type size : ℕ) (o : Order) (f : List ℕ) (p : ℕ) (i : integer_size type ≡ Some size) where
  pub value_past : length f < p + size → value_at type o f p ≡ refused parse
  unfolding value_at bind
  value_past h = rw (i, number_past size o f p h)

  module _ (v : ℕ) (h : number_at size o f p ≡ accepted v) where
    pub value_is : (is_signed type && is_negative size v) ≡ false → value_at type o f p ≡ accepted v
    unfolding value_at bind
    value_is s = rw (i, h, s)

    pub value_negative : (is_signed type && is_negative size v) ≡ true → value_at type o f p ≡ refused negative_value
    unfolding value_at bind
    value_negative s = rw (i, h, s)

module _ (n type size : ℕ) (o : Order) (f : List ℕ) (p : ℕ) (i : integer_size type ≡ Some size) where
  pub values_next : (v : ℕ) → value_at type o f p ≡ accepted v → values_at (suc n) type o f p ≡ bind (values_at n type o f (p + size)) (λ vs. accepted (v ∷ vs))
  unfolding values_at bind
  values_next v h = rw (h, integer_size_lem type size i)

  pub values_stop : (row : List ℕ) → value_at type o f p ≡ refused row → values_at (suc n) type o f p ≡ refused row
  unfolding values_at bind
  values_stop row h = rw h

-- unsigned values that pass the end are 1, whatever the bytes before it
module _ (type size : ℕ) (o : Order) (f : List ℕ) (i : integer_size type ≡ Some size) (u : is_signed type ≡ false) where
  unsigned_is : (p : ℕ) → p + size ≤ length f → value_at type o f p ≡ accepted (value_of o (bytes_from size f p))
  unsigned_is p h = value_is type size o f p i _ (number_there size o f p h) (rw u refl)

  past_by : (k : ℕ) (b : Bool) (p : ℕ) → leb (p + size) (length f) ≡ b → length f < p + size * suc k → values_at (suc k) type o f p ≡ refused parse
  unfolding bind
  past_by zero true p t h =
      let there : p + size ≤ length f = leb-true _ _ t in
      absurd (omega (arith, mul-suc size 0, mul-zero size))
  past_by zero false p t h = values_stop zero type size o f p i parse (value_past type size o f p i (leb-false _ _ t))
  past_by (suc k) true p t h =
      values_next (suc k) type size o f p i _ (unsigned_is p (leb-true _ _ t))
      ∙ rw (past_by k (leb (p + size + size) (length f)) (p + size) refl (omega (arith, mul-suc size (suc k))))
  past_by (suc k) false p t h = values_stop (suc k) type size o f p i parse (value_past type size o f p i (leb-false _ _ t))

  pub values_past : (k p : ℕ) → length f < p + size * suc k → values_at (suc k) type o f p ≡ refused parse
  values_past k p h = past_by k (leb (p + size) (length f)) p refl h

-- ---- sizes of types

sizes_small : (a b c d : Bool) → cond a 1 (cond b 2 (cond c 4 (cond d 8 0))) ≤ 8
sizes_small true b c d = lit≤ tt
sizes_small false true c d = lit≤ tt
sizes_small false false true d = lit≤ tt
sizes_small false false false true = lit≤ tt
sizes_small false false false false = lit≤ tt

pub type_size_small : (t : ℕ) → type_size t ≤ 8
unfolding type_size
type_size_small t =
    sizes_small (among t (1 ∷ 2 ∷ 6 ∷ 7 ∷ [])) (among t (3 ∷ 8 ∷ [])) (among t (4 ∷ 9 ∷ 11 ∷ [])) (among t (5 ∷ 10 ∷ 12 ∷ []))

-- ---- scalars, case by case in the order of their checks

module _ (o : Order) (f : List ℕ) (type count place : ℕ) where
  -- the place of an entry's values is asked for only where its type has a size: otherwise they stand in the entry
  no_size_placed : type_size type ≡ 0 → accepted place ≡ value_place o f (type_size type) count place
  no_size_placed z = place_in_entry o f (type_size type) count place (rw z (omega (arith, zero-mul count)))

  pub scalar_nowhere : (row : List ℕ) → value_place o f (type_size type) count place ≡ refused row → refused row ≡ scalar o f type count place
  unfolding scalar scalar_values entry_values bind
  scalar_nowhere row e = by (eqb (type_size type) 0) refl
    where
      by : (b : Bool) → eqb (type_size type) 0 ≡ b → refused row ≡ scalar o f type count place
      by true t = absurd (not_both row place (sym e ∙ sym (no_size_placed (eqb-true _ _ t))))
      by false t = rw (t, e)

  -- a type that is no number: by its size, its count, or the type itself
  pub scalar_no_number : (p : ℕ) → value_place o f (type_size type) count place ≡ accepted p → integer_size type ≡ None →
      refused decode ≡ scalar o f type count place
  unfolding scalar scalar_values entry_values value_at bind
  scalar_no_number p e i = by (eqb (type_size type) 0) (eqb count 0) refl refl
    where
      by : (b c : Bool) → eqb (type_size type) 0 ≡ b → eqb count 0 ≡ c → refused decode ≡ scalar o f type count place
      by true c t n = rw t
      by false true t n = rw (t, e, n)
      by false false t n = rw (t, e, n, i)

  -- one that is read as a number of `size` bytes
  module _ (size : ℕ) (i : integer_size type ≡ Some size) (z : size ≡ 0 → ⊥) where
    pub scalar_no_count : count ≡ 0 → refused decode ≡ scalar o f type count place
    unfolding scalar scalar_values entry_values bind
    scalar_no_count n =
        rw (integer_size_lem type size i, ne_eqb size 0 z, ← place_in_entry o f size count place (rw n (omega (arith, mul-zero size))), eq-eqb count 0 n)

    pub scalar_is : (count ≡ 0 → ⊥) → (p : ℕ) → value_place o f size count place ≡ accepted p → value_at type o f p ≡ scalar o f type count place
    unfolding scalar scalar_values entry_values bind
    scalar_is n p e = rw (integer_size_lem type size i, ne_eqb size 0 z, e, ne_eqb count 0 n)

-- ---- strip arrays, case by case in the order of their checks

module _ (o : Order) (f : List ℕ) (type count place size : ℕ) (is : size ≡ type_size type) where
  pub array_no_type : size ≡ 0 → refused decode ≡ array o f type count place
  unfolding array array_values entry_values bind
  array_no_type z = rw (← is, eq-eqb size 0 z)

  pub array_nowhere : (size ≡ 0 → ⊥) → (row : List ℕ) → value_place o f size count place ≡ refused row → refused row ≡ array o f type count place
  unfolding array array_values entry_values bind
  array_nowhere z row e = rw (← is, ne_eqb size 0 z, e)

-- ---- the CZ entry

module _ (o : Order) (f : List ℕ) (type count place total : ℕ) (d : Directory) (is : total ≡ type_size type * count) where
  pub cz_small : total ≤ 4 → refused decode ≡ entry_by cz_lsm_info o f type count place d
  unfolding bind
  cz_small h = rw (← is, le-ltb 4 total h)

  pub cz_no_offset : 4 < total → u32_at o f place ≡ refused parse → refused parse ≡ entry_by cz_lsm_info o f type count place d
  unfolding bind
  cz_no_offset h e = rw (← is, lt-ltb 4 total h, e)

  pub cz_is : 4 < total → (offset : ℕ) → u32_at o f place ≡ accepted offset →
      accepted (put_cz offset total d) ≡ entry_by cz_lsm_info o f type count place d
  unfolding bind
  cz_is h offset e = rw (← is, lt-ltb 4 total h, e)

-- ---- an entry

module _ (o : Order) (f : List ℕ) (e : ℕ) (d : Directory) where
  pub entry_no_tag : u16_at o f e ≡ refused parse → refused parse ≡ entry o f e d
  unfolding entry bind
  entry_no_tag h = rw h

  module _ (tag : ℕ) (h : u16_at o f e ≡ accepted tag) where
    pub entry_no_type : u16_at o f (e + 2) ≡ refused parse → refused parse ≡ entry o f e d
    unfolding entry bind
    entry_no_type i = rw (h, i)

    module _ (type : ℕ) (i : u16_at o f (e + 2) ≡ accepted type) where
      pub entry_no_count : u32_at o f (e + 4) ≡ refused parse → refused parse ≡ entry o f e d
      unfolding entry bind
      entry_no_count j = rw (h, i, j)

      pub entry_is : (count : ℕ) → u32_at o f (e + 4) ≡ accepted count → (t : Tag) → t ≡ tag_of tag →
          entry_by t o f type count (e + 8) d ≡ entry o f e d
      unfolding entry bind
      entry_is count j t k = rw (h, i, j, k)

-- ---- scalars

-- directories with the same numbers, field by field
pub same_scalars : (s u : Field → ℕ) (bits : Option Values) (offsets counts : List ℕ) (cz : Option (ℕ × ℕ)) → ((t : Field) → s t ≡ u t) →
    ◌≡◌ {A = Directory}
    (record { scalars = s; bits = bits; offsets = offsets; counts = counts; cz = cz })
    (record { scalars = u; bits = bits; offsets = offsets; counts = counts; cz = cz })
same_scalars s u bits offsets counts cz h =
    ap {B = Directory} (λ (x : Field → ℕ). record { scalars = x; bits = bits; offsets = offsets; counts = counts; cz = cz }) (fun_ext h)

-- ---- the value of a field

-- a field of 32 bits, or a value of 16, is put into the directory
pub field_put : (t : Field) (v : ℕ) (d : Directory) → (is_short t ≡ false) ⊎ (v ≤ 65535) → accepted (put t v d) ≡ put_field t v d
unfolding bind
field_put t v d (inl h) = rw h
field_put t v d (inr h) = by (is_short t)
  where
    by : (b : Bool) → accepted (put t v d) ≡ bind (need decode (not b || leb v 65535)) (λ _. accepted (put t v d))
    by true = rw (le-leb v 65535 h)
    by false = refl
