-- Two files of one length that agree on what a directory reads: the same directory. Assumes nothing.
use Prim.Native.Nat.{ℕ, zero, suc, ◌+◌, ◌*◌, ◌≤◌, ◌<◌}
use native.Mathlib.Nat.{mul-suc, mul-zero, mul-one}
use native.Mathlib.Omega.{arith}
use mathlib.Core.Bool.{Bool, true, false, cond}
use Rattle.std.specs.Prelude.{Option, None, Some}
use mathlib.Core.Path.{◌≡◌, refl, sym, ◌∙◌}
use mathlib.Core.List.{List}
use lib.Dec.{leb}
use lib.ListN.{length}
use borrow.Author.Tests.{leb-true, leb-false}
use Rattle.lsm_format.specs.Answer.{Result, accepted, refused, bind, given, decode}
use Rattle.lsm_format.specs.Ranges.{over, in_file, On, Agree}
use Rattle.lsm_format.specs.Numbers.{Order, u16_at, u32_at}
use Rattle.lsm_format.specs.Directory.{type_size, integer_size, is_signed, value_at, values_at, all_equal, value_ranges, equal_ranges, signed_ranges, place_by, value_place, entry_values, scalar_values, scalar, scalar_ranges, array_values, array, array_ranges, Directory, plain, Tag, field, sample_bits, strip_offsets, strip_byte_counts, cz_lsm_info, other, tag_of, entry_by, entry_by_ranges, entry, entry_ranges, entries, entries_ranges, ends, directory, directory_ranges}
use Rattle.lsm_format.proofs.Numbers.{number_inside}
use Rattle.lsm_format.proofs.Directory.{integer_size_lem, values_past}
use Rattle.lsm_overwrite.proofs.TwoFiles.{bind_law, bind_told, over_law, on_part, in_file_at, number_law, number_listed, number_last}

-- a directory, number by number
ends_after : {A : Type 0} (n : ℕ) (r : Result ℕ) (rest : ℕ → ℕ → Result A) →
    bind {A = ℕ × ℕ} (bind r (λ next. accepted (n, next))) (λ e. rest e.0 e.1) ≡ bind r (λ next. rest n next)
unfolding bind
ends_after n (accepted next) rest = refl
ends_after n (refused row) rest = refl

ends_first : {A : Type 0} (r : Result ℕ) (u : ℕ → Result ℕ) (rest : ℕ → ℕ → Result A) →
    bind {A = ℕ × ℕ} (bind r (λ n. bind (u n) (λ next. accepted (n, next)))) (λ e. rest e.0 e.1) ≡ bind r (λ n. bind (u n) (λ next. rest n next))
unfolding bind
ends_first (accepted n) u rest = ends_after n (u n) rest
ends_first (refused row) u rest = refl

directory_steps : (o : Order) (f : List ℕ) (place : ℕ) →
    directory o f place
    ≡ bind (u16_at o f place) (λ n.
    bind (u32_at o f (place + 2 + 12 * n)) (λ next. bind (entries n o f (place + 2) 0 plain) (λ d. accepted (d, next))))
unfolding directory ends
directory_steps o f place =
    ends_first (u16_at o f place) (λ n. u32_at o f (place + 2 + 12 * n)) (λ n next. bind (entries n o f (place + 2) 0 plain) (λ d. accepted (d, next)))

module _ (f g : List ℕ) (len : length g ≡ length f) where
  -- the offset of values is read from the entry itself
  place_law : (b : Bool) (o : Order) (s n p : ℕ) → On f g s n → (s ≤ p) × (p + 4 ≤ s + n) → place_by b o g p ≡ place_by b o f p
  place_law true o s n p h i = refl
  place_law false o s n p h i = number_law f g len 4 o s n p h i

  value_place_law : (o : Order) (size count s n p : ℕ) → On f g s n → (s ≤ p) × (p + 4 ≤ s + n) →
      value_place o g size count p ≡ value_place o f size count p
  unfolding value_place
  value_place_law o size count s n p h i = place_law (leb (size * count) 4) o s n p h i

  entry_values_law : (o : Order) (type count s n p : ℕ) → On f g s n → (s ≤ p) × (p + 4 ≤ s + n) →
      entry_values o g type count p ≡ entry_values o f type count p
  unfolding entry_values
  entry_values_law o type count s n p h i =
      bind_law _ refl (λ _. bind_law _ (value_place_law o (type_size type) count s n p h i) (λ q. refl))

  scalar_values_law : (o : Order) (type count s n p : ℕ) → On f g s n → (s ≤ p) × (p + 4 ≤ s + n) →
      scalar_values o g type count p ≡ scalar_values o f type count p
  unfolding scalar_values
  scalar_values_law o type count s n p h i = bind_law _ (entry_values_law o type count s n p h i) (λ v. refl)

  value_on : (type size : ℕ) (o : Order) (p n : ℕ) → integer_size type ≡ Some size → On f g p n → (p ≤ p) × (p + size ≤ p + n) →
      value_at type o g p ≡ value_at type o f p
  unfolding value_at bind
  value_on type size o p n i h l = rw i (bind_law _ (number_law f g len size o p n p h l) (λ v. refl))

  -- values one after another, in the file and past its end
  values_on : (k type size : ℕ) (o : Order) (p : ℕ) → integer_size type ≡ Some size → On f g p (size * k) → values_at k type o g p ≡ values_at k type o f p
  unfolding values_at
  values_on zero type size o p i h = refl
  values_on (suc k) type size o p i h =
      rw (integer_size_lem type size i)
      (bind_law _ (value_on type size o p (size * suc k) i h (lies size k p))
      (λ v. bind_law _ (values_on k type size o (p + size) i (on_part f g p (size * suc k) (p + size) (size * k) h (rest size k p))) (λ vs. refl)))
    where
      lies : (size k p : ℕ) → (p ≤ p) × (p + size ≤ p + size * suc k)
      lies size k p = omega (arith, mul-suc size k)

      rest : (size k p : ℕ) → (p ≤ p + size) × (p + size + size * k ≤ p + size * suc k)
      rest size k p = omega (arith, mul-suc size k)

  -- unsigned ones that pass the end are refused in both
  values_by : (b : Bool) (k type size : ℕ) (o : Order) (p : ℕ) → is_signed type ≡ false → integer_size type ≡ Some size → leb (p + size * k) (length f) ≡ b →
      Agree f g (in_file f p (size * k)) → values_at k type o g p ≡ values_at k type o f p
  values_by true k type size o p u i t a = values_on k type size o p i (rw (in_file_at f p (size * k) (leb-true _ _ t)) at a)
  values_by false zero type size o p u i t a = values_on zero type size o p i (λ q j. absurd (omega (arith, mul-zero size)))
  values_by false (suc k) type size o p u i t a =
      let past : length f < p + size * suc k = leb-false _ _ t in
      rw (values_past type size o f i u k p past, values_past type size o g i u k p (omega arith))

  -- whatever the type: one that is no number is refused in both
  no_values : (k type : ℕ) (o : Order) (p : ℕ) → integer_size type ≡ None → values_at k type o g p ≡ values_at k type o f p
  unfolding values_at value_at bind
  no_values zero type o p i = refl
  no_values (suc k) type o p i = rw i

  unsigned_law : (k type : ℕ) (o : Order) (p : ℕ) → is_signed type ≡ false → Agree f g (value_ranges k type f p) →
      values_at k type o g p ≡ values_at k type o f p
  unfolding over
  unsigned_law k type o p u a = by (integer_size type) refl a
    where
      by : (x : Option ℕ) → integer_size type ≡ x → Agree f g (over (given decode x) (λ size. in_file f p (size * k))) → values_at k type o g p ≡ values_at k type o f p
      by None i b = no_values k type o p i
      by (Some size) i b = values_by (leb (p + size * k) (length f)) k type size o p u i refl b

  value_law : (type : ℕ) (o : Order) (p : ℕ) → Agree f g (value_ranges 1 type f p) → value_at type o g p ≡ value_at type o f p
  unfolding value_at
  value_law type o p a =
      over_law f g _ _ refl a (λ size b. bind_law _ (number_listed f g len size o p (rw mul-one at b)) (λ v. refl))

  -- values that are read one by one
  signed_law : (k type : ℕ) (o : Order) (p : ℕ) → Agree f g (signed_ranges k type o f p) → values_at k type o g p ≡ values_at k type o f p
  unfolding values_at signed_ranges
  signed_law zero type o p a = refl
  signed_law (suc k) type o p a =
      over_law f g _ _ (value_law type o p a.0) a.1 (λ v b. bind_law _ (signed_law k type o (p + type_size type) b) (λ vs. refl))

  values_law : (k type : ℕ) (o : Order) (p : ℕ) → Agree f g (cond (is_signed type) (signed_ranges k type o f p) (value_ranges k type f p)) →
      values_at k type o g p ≡ values_at k type o f p
  values_law k type o p a = by (is_signed type) refl a
    where
      by : (b : Bool) → is_signed type ≡ b → Agree f g (cond b (signed_ranges k type o f p) (value_ranges k type f p)) → values_at k type o g p ≡ values_at k type o f p
      by true s a = signed_law k type o p a
      by false s a = unsigned_law k type o p s a

  -- values that are held against one, each before the next
  pub equal_law : (k v type : ℕ) (o : Order) (p : ℕ) → Agree f g (equal_ranges k v type o f p) → all_equal k v type o g p ≡ all_equal k v type o f p
  unfolding all_equal equal_ranges
  equal_law zero v type o p a = refl
  equal_law (suc k) v type o p a =
      over_law f g _ _ (value_law type o p a.0) a.1 (λ w b. over_law f g _ _ refl b (λ _ c. equal_law k v type o (p + type_size type) c))

  scalar_law : (o : Order) (type count s n p : ℕ) → On f g s n → (s ≤ p) × (p + 4 ≤ s + n) → Agree f g (scalar_ranges o f type count p) →
      scalar o g type count p ≡ scalar o f type count p
  unfolding scalar
  scalar_law o type count s n p h i a =
      over_law f g _ _ (scalar_values_law o type count s n p h i) a (λ v b. value_law v.type o v.place b)

  array_law : (o : Order) (type count s n p : ℕ) → On f g s n → (s ≤ p) × (p + 4 ≤ s + n) → Agree f g (array_ranges o f type count p) →
      array o g type count p ≡ array o f type count p
  unfolding array array_values
  array_law o type count s n p h i a =
      over_law f g _ _ (bind_law _ (entry_values_law o type count s n p h i) (λ v. refl)) a (λ v b. values_law v.count v.type o v.place b)

  -- an entry by its tag: a scalar, an array, the CZ entry or none
  entry_by_law : (t : Tag) (o : Order) (type count s n p : ℕ) (d : Directory) → On f g s n → (s ≤ p) × (p + 4 ≤ s + n) →
      Agree f g (entry_by_ranges t o f type count p) → entry_by t o g type count p d ≡ entry_by t o f type count p d
  entry_by_law (field t) o type count s n p d h i a = bind_law _ (scalar_law o type count s n p h i a) (λ v. refl)
  entry_by_law sample_bits o type count s n p d h i a =
      over_law f g _ _ (scalar_values_law o type count s n p h i) a (λ v b. bind_law _ (value_law v.type o v.place b) (λ n. refl))
  entry_by_law strip_offsets o type count s n p d h i a = bind_law _ (array_law o type count s n p h i a) (λ v. refl)
  entry_by_law strip_byte_counts o type count s n p d h i a = bind_law _ (array_law o type count s n p h i a) (λ v. refl)
  entry_by_law cz_lsm_info o type count s n p d h i a = bind_law _ refl (λ _. bind_law _ (number_law f g len 4 o s n p h i) (λ v. refl))
  entry_by_law other o type count s n p d h i a = refl

  entry_law : (o : Order) (s n e : ℕ) (d : Directory) → On f g s n → (s ≤ e) × (e + 12 ≤ s + n) → Agree f g (entry_ranges o f e) →
      entry o g e d ≡ entry o f e d
  unfolding entry entry_ranges
  entry_law o s n e d h i a =
      over_law f g _ _ (number_law f g len 2 o s n e h (omega arith)) a (λ tag b.
      over_law f g _ _ (number_law f g len 2 o s n (e + 2) h (omega arith)) b (λ type c.
      over_law f g _ _ (number_law f g len 4 o s n (e + 4) h (omega arith)) c (λ count q.
      entry_by_law (tag_of tag) o type count s n (e + 8) d h (omega arith) q)))

  entries_law : (k : ℕ) (o : Order) (s n base i : ℕ) (d : Directory) → On f g s n → (s ≤ base) × (base + 12 * i + 12 * k ≤ s + n) →
      Agree f g (entries_ranges k o f base i) → entries k o g base i d ≡ entries k o f base i d
  unfolding entries entries_ranges
  entries_law zero o s n base i d h j a = refl
  entries_law (suc k) o s n base i d h j a =
      bind_law _ (entry_law o s n (base + 12 * i) d h (omega arith) a.0)
      (λ e. entries_law k o s n base (i + 1) e h (omega arith) a.1)

  pub directory_law : (o : Order) (place : ℕ) → Agree f g (directory_ranges o f place) → directory o g place ≡ directory o f place
  unfolding directory_ranges
  directory_law o place a =
      directory_steps o g place
      ∙ over_law f g _ _ (number_listed f g len 2 o place a.0) a.1 (λ n b.
      bind_told _ (number_last f g len 4 o place (6 + 12 * n) (place + 2 + 12 * n) (omega arith) b.0) (λ next e.
      let inside : place + 2 + 12 * n + 4 ≤ length f = number_inside 4 o f (place + 2 + 12 * n) next e in
      let on : On f g place (6 + 12 * n) = rw (in_file_at f place (6 + 12 * n) (omega arith)) at b.0 in
      bind_law _ (entries_law n o place (6 + 12 * n) (place + 2) 0 plain on (omega arith) b.1) (λ d. refl)))
      ∙ sym (directory_steps o f place)
